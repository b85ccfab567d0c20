use Rattle.page_alloc.proofs.BitLemmas.{set_bits}
use Rattle.page_alloc.proofs.bits.with_bit.Goals as goal

pub returns : goal.returns
returns c = set_bits c.args.word c.args.bit c.requires
