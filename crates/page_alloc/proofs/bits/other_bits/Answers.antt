use Rattle.page_alloc.proofs.BitLemmas.{other_bits}
use Rattle.page_alloc.proofs.bits.other_bits.Goals as goal

pub returns : goal.returns
returns c i lt = other_bits c.args.word i c.ranges.word.fits lt
