use Rattle.std.proofs.Common.{◌≡◌, ◌≤◌, ◌<◌, ◌+◌, ◌||◌, ◌&&◌, ℕ, take, length, cond, max, eqb, slice_index, vec_capacity}
use Rattle.std.specs.List.{list_any}
use Rattle.dep_graph.specs.Pairs.{ends_at}
use Rattle.dep_graph.specs.Trails.{seen, AreApart, AreWithin}
use Rattle.dep_graph.specs.Waits.{count_at}
use Rattle.dep_graph.proofs.levels.relax_each.Given as goal

abbrev pub invariant-loop-pair : goal.invariant-loop-pair
invariant-loop-pair l = record {
  waits : (p : ℕ) → count_at l.pages l.left.items p + ends_at (take l.pair-index l.out) p ≡ count_at l.pages l.fn.left.items p;
  heights : (p : ℕ) → count_at l.pages l.level.items p ≡ cond (list_any (λ e. eqb e.after p) (take l.pair-index l.out)) (max (count_at l.pages l.fn.level.items p) l.height) (count_at l.pages l.fn.level.items p);
  reached : (p : ℕ) → seen l.pages l.search.reached p ≡ (seen l.pages l.fn.search.reached p || (list_any (λ e. eqb e.after p) (take l.pair-index l.out) && eqb (count_at l.pages l.left.items p) 0));
  within : AreWithin l.search.reached (length l.pages);
  apart : AreApart l.search.reached;
  front : (k : ℕ) → k < length l.fn.search.reached → slice_index l.search.reached k ≡ slice_index l.fn.search.reached k;
  grows : length l.fn.search.reached ≤ length l.search.reached;
  room : l.search.room ≡ l.fn.search.room;
  left_each : length l.left.items ≡ length l.pages;
  level_each : length l.level.items ≡ length l.pages;
  left_room : vec_capacity l.left ≡ vec_capacity l.fn.left;
  level_room : vec_capacity l.level ≡ vec_capacity l.fn.level;
}
