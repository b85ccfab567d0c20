use Rattle.std.proofs.Common.{◌≡◌, ◌∙◌, ◌&&◌, ◌||◌, ℕ, Bool, List, take, eqb, refl, sym, ap, subst, arith}
use Rattle.std.proofs.lemmas.Bool.{and_parts}
use Rattle.std.proofs.lemmas.List.{take_all}
use Rattle.dep_graph.specs.Pages.{holds, IsRising}
use Rattle.dep_graph.specs.Rising.{Rises}
use Rattle.dep_graph.specs.Trails.{seen}
use Rattle.dep_graph.specs.Waits.{waits_for}
use Rattle.dep_graph.proofs.SearchLemmas.{seen_held, seen_more, seen_within}
use Rattle.dep_graph.proofs.search.collect.Goals as goal

pub loop-place-init : goal.loop-place-init
unfolding Rises
loop-place-init c = record { listed = λ a. ap (λ (l : List ℕ). holds l a) c.requires.none; rising = subst IsRising (sym c.requires.none) tt; room = refl }

pub list_if_ready-requires-clause-some : goal.list_if_ready-requires-clause-some
list_if_ready-requires-clause-some c = λ a h.
    seen_held c.args.dirty.now.pages c.args.places.now a c.requires.within (seen_within c.args.dirty.now.pages c.args.places.now c.loop-place.place-index a (and_parts _ _ (sym (c.loop-place.invariant.listed a) ∙ h)).0)

pub loop-place-preserved : goal.loop-place-preserved
loop-place-preserved c = record {
  listed = λ a.
      c.list_if_ready.ensures.listed a ∙ rw (c.loop-place.invariant.listed a, seen_more c.args.dirty.now.pages c.args.places.now c.loop-place.place-index a c.loop-place-test.true)
      (turn (seen c.args.dirty.now.pages (take c.loop-place.place-index c.args.places.now) a) _ (eqb (waits_for c.args.dirty.now a) 0));
  rising = c.list_if_ready.ensures.rising;
  room = c.list_if_ready.ensures.room ∙ c.loop-place.invariant.room;
}
  where
    turn : (x y w : Bool) → ((x && w) || (y && w)) ≡ ((x || y) && w)
    turn x y w = grind arith

pub returns-clause-listed : goal.returns-clause-listed
returns-clause-listed c = λ a. rw (take_all c.loop-place.place-index c.args.places.now (omega arith)) at (c.loop-place.invariant.listed a)
