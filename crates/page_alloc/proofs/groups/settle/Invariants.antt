use Rattle.std.specs.Prelude.{sum}
use Rattle.page_alloc.proofs.GroupLemmas.{Settling}
use Rattle.page_alloc.proofs.groups.settle.Given as goal

abbrev pub invariant-loop-count_page : goal.invariant-loop-count_page
invariant-loop-count_page l = Settling l.fn.groups l.fn.written l.groups l.free l.written

abbrev pub decreases-loop-count_page : goal.decreases-loop-count_page
decreases-loop-count_page l = sum l.written
