use Rattle.std.proofs.Common.{◌≡◌, ◌&&◌, ℕ, take, eqb, vec_capacity}
use Rattle.dep_graph.specs.Pages.{holds, IsRising}
use Rattle.dep_graph.specs.Trails.{seen}
use Rattle.dep_graph.specs.Waits.{waits_for}
use Rattle.dep_graph.proofs.search.collect.Given as goal

abbrev pub invariant-loop-place : goal.invariant-loop-place
invariant-loop-place l = record {
  listed : (a : ℕ) → holds l.listed.items a ≡ (seen l.dirty.pages (take l.place-index l.places) a && eqb (waits_for l.dirty a) 0);
  rising : IsRising l.listed.items;
  room : vec_capacity l.listed ≡ vec_capacity l.fn.listed;
}
