use Rattle.page_alloc.proofs.FillLemmas.{FilledBelow}
use Rattle.page_alloc.proofs.pool.fill.Given as goal

abbrev pub invariant-loop-group : goal.invariant-loop-group
invariant-loop-group l = FilledBelow l.pages l.group l.groups l.free
