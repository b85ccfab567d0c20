use Rattle.std.proofs.Common.{refl}
use Rattle.page_cache.specs.Entries.{with_holds}
use Rattle.page_cache.proofs.EntryLemmas.{written_through}
use Rattle.page_cache.proofs.entries.set_holds.Goals as goal

pub returns-in-Some-clause-entries : goal.returns-in-Some-clause-entries
returns-in-Some-clause-entries c = written_through c.args.pages.now.entries _ c.args.page c.in-Some.entry.now _ (with_holds c.args.holds) (rw c.in-Some.is at c.get_mut.ensures.value) refl ((c.get_mut.follows.holds _).3 c.requires).0
