use Rattle.page_alloc.proofs.BitLemmas.{without_bits}
use Rattle.page_alloc.proofs.bits.without_bits.Goals as goal

pub returns-clause-bits : goal.returns-clause-bits
returns-clause-bits c i lt = without_bits c.args.word c.args.other i c.ranges.other.fits lt
