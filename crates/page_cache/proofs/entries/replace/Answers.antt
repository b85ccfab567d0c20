use Rattle.std.proofs.Common.{refl, sym}
use Rattle.page_cache.specs.Entries.{with_content}
use Rattle.page_cache.proofs.EntryLemmas.{written_through}
use Rattle.page_cache.proofs.entries.replace.Goals as goal

pub returns-in-Some-clause-entries : goal.returns-in-Some-clause-entries
returns-in-Some-clause-entries c = rw (sym c.from.view_is) (written_through c.args.pages.now.entries _ c.args.page c.in-Some.entry.now _ (with_content c.from.inside.0) (rw c.in-Some.is at c.get_mut.ensures.value) refl ((c.get_mut.follows.holds _).3 c.requires).0)
