use Rattle.std.proofs.Common.{◌≡◌, ℕ, take, length, vec_capacity}
use Rattle.dep_graph.specs.Pairs.{ends_at}
use Rattle.dep_graph.specs.Waits.{count_at}
use Rattle.dep_graph.proofs.levels.count_edges.Given as goal

abbrev pub invariant-loop-pair : goal.invariant-loop-pair
invariant-loop-pair l = record {
  each : length l.left.items ≡ length l.pages;
  counts : (p : ℕ) → count_at l.pages l.left.items p ≡ ends_at (take l.pair-index l.live) p;
  room : vec_capacity l.left ≡ vec_capacity l.fn.left;
}
