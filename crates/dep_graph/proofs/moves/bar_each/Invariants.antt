use Rattle.std.proofs.Common.{◌≡◌, ◌≤◌, ◌||◌, ℕ, ◌+◌, take, length, vec_capacity}
use Rattle.dep_graph.specs.Pairs.{has_pair, ends_at, AreRising}
use Rattle.dep_graph.specs.Waits.{waits_for}
use Rattle.dep_graph.proofs.moves.bar_each.Given as goal

abbrev pub invariant-loop-pair : goal.invariant-loop-pair
invariant-loop-pair l = record {
  pairs : (a b : ℕ) → has_pair l.barred.items a b ≡ has_pair l.fn.barred.items a b || has_pair (take l.pair-index l.out) a b;
  rising : AreRising l.barred.items;
  len : length l.barred.items ≤ length l.fn.barred.items + l.pair-index;
  room : vec_capacity l.barred ≡ vec_capacity l.fn.barred;
  pages : l.dirty.pages ≡ l.fn.dirty.pages;
  counts : (b : ℕ) → waits_for l.dirty b + ends_at (take l.pair-index l.out) b + ends_at l.fn.barred.items b ≡ waits_for l.fn.dirty b + ends_at l.barred.items b;
  pages_room : l.dirty.room ≡ l.fn.dirty.room;
}
