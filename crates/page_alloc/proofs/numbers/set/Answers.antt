use Rattle.page_alloc.proofs.NumberLemmas.{set_holds}
use Rattle.page_alloc.proofs.numbers.set.Goals as goal

pub returns-clause-held : goal.returns-clause-held
returns-clause-held c = set_holds c.args.words.now c.args.n c.with_bit.result c.requires c.with_bit.ensures
