use Rattle.page_alloc.proofs.BitLemmas.{cleared_bits, cleared_at_most, cleared_less}
use Rattle.page_alloc.proofs.bits.without_bit.Goals as goal

pub returns-clause-bits : goal.returns-clause-bits
returns-clause-bits c = cleared_bits c.args.word c.args.bit c.requires

pub returns-clause-at_most : goal.returns-clause-at_most
returns-clause-at_most c = cleared_at_most c.args.word c.args.bit c.ranges.word.fits c.requires

pub returns-clause-less : goal.returns-clause-less
returns-clause-less c = cleared_less c.args.word c.args.bit c.ranges.word.fits c.requires
