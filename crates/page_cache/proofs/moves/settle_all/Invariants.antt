use Rattle.std.proofs.Common.{drop}
use Rattle.page_cache.specs.Moves.{SettlesSoFar}
use Rattle.page_cache.proofs.moves.settle_all.Given as goal

abbrev pub invariant-loop-page : goal.invariant-loop-page
invariant-loop-page l = SettlesSoFar l.asks l.fn.pages.entries l.fn.recent l.written (drop l.page-index l.written) l.pages.entries l.recent
