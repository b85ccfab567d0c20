use Rattle.std.proofs.Common.{◌≡◌, ◌⊎◌, ◌≤◌, ◌<◌, ℕ, slice_index}
use Rattle.dep_graph.proofs.levels.greatest_of.Given as goal

abbrev pub invariant-loop-number : goal.invariant-loop-number
invariant-loop-number l = record {
  most_is : (k : ℕ) → k < l.number-index → slice_index l.numbers k ≤ l.most;
  reached : ((l.most ≡ 0) × (l.number-index ≡ 0)) ⊎ ((k : ℕ) × ((k < l.number-index) × (slice_index l.numbers k ≡ l.most)));
}
