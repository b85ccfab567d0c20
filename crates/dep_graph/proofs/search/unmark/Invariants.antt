use Rattle.std.proofs.Common.{◌≡◌, ℕ, ◌&&◌, not, take, false, slice_index_or}
use Rattle.dep_graph.specs.Pages.{holds}
use Rattle.dep_graph.proofs.search.unmark.Given as goal

abbrev pub invariant-loop-place : goal.invariant-loop-place
invariant-loop-place l = (k : ℕ) → slice_index_or l.marks k false ≡ (slice_index_or l.fn.marks k false && not (holds (take l.place-index l.queue) k))
