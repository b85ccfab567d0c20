use Rattle.std.proofs.Common.{◌≡◌, ◌&&◌, ◌+◌, ℕ, not, take, length, vec_capacity}
use Rattle.dep_graph.specs.Pairs.{has_pair, AreRising}
use Rattle.dep_graph.proofs.live.remove_turned.Given as goal

abbrev pub invariant-loop-pair : goal.invariant-loop-pair
invariant-loop-pair l = record {
  pairs : (a b : ℕ) → has_pair l.back.items b a ≡ (has_pair l.fn.back.items b a && not (has_pair (take l.pair-index l.gone) a b));
  rising : AreRising l.back.items;
  len : length l.back.items + l.pair-index ≡ length l.fn.back.items;
  room : vec_capacity l.back ≡ vec_capacity l.fn.back;
}
