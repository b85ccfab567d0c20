use Rattle.page_cache.proofs.RecentLemmas.{has_used, used_keys}
use Rattle.std.specs.Map.{keys_of}
use Rattle.page_cache.proofs.recent.Recent.use_again.Goals as goal

pub returns-clause-pages : goal.returns-clause-pages
returns-clause-pages c = rw (c.promote.ensures.entries, ← c.self.view_is) (used_keys c.self.inside.pages.entries c.args.page)

pub returns-clause-same : goal.returns-clause-same
returns-clause-same c q = rw (c.promote.ensures.entries, used_keys c.self.inside.pages.entries c.args.page, ← c.self.view_is) (has_used (keys_of c.self.inside.pages.entries) c.args.page q c.len.ensures.valid.0)
