use Rattle.std.proofs.Common.{◌≡◌, ℕ, ◌+◌, take}
use Rattle.dep_graph.specs.Pairs.{ends_at}
use Rattle.dep_graph.specs.Waits.{waits_for}
use Rattle.dep_graph.proofs.moves.lower_each.Given as goal

abbrev pub invariant-loop-pair : goal.invariant-loop-pair
invariant-loop-pair l = record {
  pages : l.dirty.pages ≡ l.fn.dirty.pages;
  counts : (b : ℕ) → waits_for l.dirty b + ends_at (take l.pair-index l.gone) b ≡ waits_for l.fn.dirty b;
  room : l.dirty.room ≡ l.fn.dirty.room;
}
