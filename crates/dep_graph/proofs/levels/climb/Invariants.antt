use Rattle.std.proofs.Common.{◌≡◌, ◌⊎◌, ◌≤◌, ◌<◌, ◌+◌, ◌-◌, ◌&&◌, not, filter, ℕ, true, take, length, eqb, vec_capacity}
use Rattle.dep_graph.specs.Pages.{holds}
use Rattle.dep_graph.specs.Pairs.{ends_at, has_pair}
use Rattle.dep_graph.specs.Trails.{seen, AreApart, AreWithin}
use Rattle.dep_graph.specs.Waits.{count_at}
use Rattle.dep_graph.proofs.levels.climb.Given as goal

abbrev pub invariant-loop-head : goal.invariant-loop-head
invariant-loop-head l = record {
  left : (p : ℕ) → count_at l.pages l.left.items p ≡ ends_at (filter (λ r. not (seen l.pages (take l.head l.search.reached) r.before)) l.live) p;
  reached : (p : ℕ) → seen l.pages l.search.reached p ≡ (holds l.pages p && eqb (count_at l.pages l.left.items p) 0);
  above : (a b : ℕ) → seen l.pages (take l.head l.search.reached) a ≡ true → has_pair l.live a b ≡ true → count_at l.pages l.level.items a < count_at l.pages l.level.items b;
  is : (p : ℕ) → (count_at l.pages l.level.items p ≡ count_at l.pages l.fn.level.items p) ⊎ ((a : ℕ) × ((has_pair l.live a p ≡ true) × ((seen l.pages (take l.head l.search.reached) a ≡ true) × (count_at l.pages l.level.items p ≡ count_at l.pages l.level.items a + 1))));
  grows : (p : ℕ) → count_at l.pages l.fn.level.items p ≤ count_at l.pages l.level.items p;
  low : (p : ℕ) → count_at l.pages l.level.items p ≤ l.head + 2;
  head_within : l.head ≤ length l.search.reached;
  within : AreWithin l.search.reached (length l.pages);
  apart : AreApart l.search.reached;
  room : l.search.room ≡ l.fn.search.room;
  left_each : length l.left.items ≡ length l.pages;
  level_each : length l.level.items ≡ length l.pages;
  left_room : vec_capacity l.left ≡ vec_capacity l.fn.left;
  level_room : vec_capacity l.level ≡ vec_capacity l.fn.level;
}

abbrev pub decreases-loop-head : goal.decreases-loop-head
decreases-loop-head l = l.search.room - l.head
