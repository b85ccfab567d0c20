use Rattle.page_alloc.proofs.NumberLemmas.{clear_holds, clear_less, bit_holds}
use Rattle.page_alloc.proofs.numbers.clear.Goals as goal

pub returns-clause-held : goal.returns-clause-held
returns-clause-held c = clear_holds c.args.words.now c.args.n c.without_bit-left.result c.requires c.without_bit-left.ensures.bits

pub returns-clause-less : goal.returns-clause-less
returns-clause-less c held = clear_less c.args.words.now c.args.n c.without_bit-left.result c.requires (c.without_bit-left.ensures.less (bit_holds c.args.words.now c.args.n held))
