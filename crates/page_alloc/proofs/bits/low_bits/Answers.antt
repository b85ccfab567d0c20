use Rattle.page_alloc.proofs.BitLemmas.{ones_inside, ones_behind}
use Rattle.page_alloc.proofs.bits.low_bits.Goals as goal

pub returns-clause-inside : goal.returns-clause-inside
returns-clause-inside c = ones_inside c.args.count c.requires.some c.requires.fits

pub returns-clause-behind : goal.returns-clause-behind
returns-clause-behind c = ones_behind c.args.count c.requires.some c.requires.fits
