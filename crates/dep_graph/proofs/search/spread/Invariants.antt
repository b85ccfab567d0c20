use Rattle.std.proofs.Common.{◌≡◌, ◌≤◌, ◌<◌, ◌||◌, ℕ, take, length, slice_index, eqb}
use Rattle.std.specs.List.{list_any}
use Rattle.dep_graph.specs.Trails.{seen, AreWithin}
use Rattle.dep_graph.proofs.search.spread.Given as goal

abbrev pub invariant-loop-pair : goal.invariant-loop-pair
invariant-loop-pair l = record {
  reached : (x : ℕ) → seen l.pages l.search.reached x ≡ (seen l.pages l.fn.search.reached x || list_any (λ p. eqb p.after x) (take l.pair-index l.out));
  within : AreWithin l.search.reached (length l.pages);
  front : (k : ℕ) → k < length l.fn.search.reached → slice_index l.search.reached k ≡ slice_index l.fn.search.reached k;
  grows : length l.fn.search.reached ≤ length l.search.reached;
  room : l.search.room ≡ l.fn.search.room;
}
