use Rattle.std.proofs.Common.{◌≡◌, ◌&&◌, ℕ, take, length, eqb}
use Rattle.dep_graph.specs.Pages.{holds}
use Rattle.dep_graph.specs.Trails.{seen, AreApart, AreWithin}
use Rattle.dep_graph.specs.Waits.{count_at}
use Rattle.dep_graph.proofs.levels.reach_free.Given as goal

abbrev pub invariant-loop-place : goal.invariant-loop-place
invariant-loop-place l = record {
  reached : (p : ℕ) → seen l.pages l.search.reached p ≡ (holds (take l.place l.pages) p && eqb (count_at l.pages l.left p) 0);
  within : AreWithin l.search.reached (length l.pages);
  apart : AreApart l.search.reached;
  room : l.search.room ≡ l.fn.search.room;
}
