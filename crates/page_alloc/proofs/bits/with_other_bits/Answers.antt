use Rattle.page_alloc.proofs.BitLemmas.{with_others}
use Rattle.page_alloc.proofs.bits.with_other_bits.Goals as goal

pub returns : goal.returns
returns c i lt = with_others c.args.word c.args.other i c.ranges.other.fits lt
