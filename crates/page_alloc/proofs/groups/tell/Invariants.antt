use Rattle.page_alloc.proofs.GroupLemmas.{ToldBelow}
use Rattle.page_alloc.proofs.groups.tell.Given as goal

abbrev pub invariant-loop-group : goal.invariant-loop-group
invariant-loop-group l = ToldBelow l.step l.count_page l.group l.fn.groups l.groups l.free
