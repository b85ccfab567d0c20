use Rattle.std.proofs.Common.{◌≡◌, ◌⊎◌, ◌≤◌, ◌<◌, ◌-◌, ℕ, true, length, slice_index}
use Rattle.dep_graph.specs.Pairs.{has_pair}
use Rattle.order_model.specs.Paths.{Closes}
use Rattle.dep_graph.specs.Trails.{seen, AreWithin}
use Rattle.dep_graph.proofs.search.explore.Given as goal

abbrev pub invariant-loop-head : goal.invariant-loop-head
invariant-loop-head l = record {
  within : AreWithin l.search.reached (length l.pages);
  from : seen l.pages l.search.reached l.from ≡ true;
  sound : (x : ℕ) → seen l.pages l.search.reached x ≡ true → (seen l.pages l.fn.search.reached x ≡ true) ⊎ Closes (has_pair l.live) x l.from;
  kept : (x : ℕ) → seen l.pages l.fn.search.reached x ≡ true → seen l.pages l.search.reached x ≡ true;
  done : (k y : ℕ) → k < l.head → has_pair l.live (slice_index l.pages (slice_index l.search.reached k)) y ≡ true → seen l.pages l.search.reached y ≡ true;
  head_within : l.head ≤ length l.search.reached;
  room : l.search.room ≡ l.fn.search.room;
}

abbrev pub decreases-loop-head : goal.decreases-loop-head
decreases-loop-head l = l.search.room - l.head
