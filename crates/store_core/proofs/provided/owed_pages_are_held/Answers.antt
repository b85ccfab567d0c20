use Rattle.page_cache.specs.View.{holds_in}
use Rattle.store_core.proofs.Owing.{HasPages, all_at, pages_held}
use Rattle.store_core.proofs.provided.owed_pages_are_held.Goals as goal

pub returns-clause-count_page : goal.returns-clause-count_page
returns-clause-count_page c core i r p at = (all_at (HasPages (holds_in core.engine.cache)) core.ledger.queue.releases i r at (pages_held core.ledger.queue.releases (holds_in core.engine.cache) p.holds_owed)).0

pub returns-clause-print_page : goal.returns-clause-print_page
returns-clause-print_page c core i r p at = (all_at (HasPages (holds_in core.engine.cache)) core.ledger.queue.releases i r at (pages_held core.ledger.queue.releases (holds_in core.engine.cache) p.holds_owed)).1
