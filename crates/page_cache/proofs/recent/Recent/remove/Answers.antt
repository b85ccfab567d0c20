use Rattle.std.proofs.Common.{eqb}
use Rattle.std.specs.Map.{keys_of}
use Rattle.indexmap.proofs.CallerLemmas.{keys-shift_remove_entry}
use Rattle.page_cache.proofs.RecentLemmas.{has_without}
use Rattle.page_cache.proofs.recent.Recent.remove.Goals as goal

pub returns-clause-pages : goal.returns-clause-pages
returns-clause-pages c = rw (c.pop.ensures.entries, ← c.self.view_is) (keys-shift_remove_entry (eqb c.args.page) c.self.inside.pages.entries)

pub returns-clause-others : goal.returns-clause-others
returns-clause-others c q = rw (c.pop.ensures.entries, keys-shift_remove_entry (eqb c.args.page) c.self.inside.pages.entries, ← c.self.view_is) (has_without (keys_of c.self.inside.pages.entries) c.args.page q c.len.ensures.valid.0)
