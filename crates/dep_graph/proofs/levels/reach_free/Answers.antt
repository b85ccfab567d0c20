use Rattle.std.proofs.Common.{◌≡◌, ◌∙◌, ◌||◌, ◌&&◌, ◌<◌, ap, refl, sym, eqb, eq-eqb, ne_eqb, ℕ, Bool, true, false, inl, inr, get_or, take, length, arith}
use Rattle.std.proofs.lemmas.Bool.{cases_eq}
use Rattle.dep_graph.specs.Pages.{holds}
use Rattle.dep_graph.specs.Waits.{count_at}
use Rattle.dep_graph.proofs.SearchLemmas.{any_more}
use Rattle.dep_graph.proofs.LevelLemmas.{free_apart, free_seen, free_within}
use Rattle.dep_graph.proofs.WaitLemmas.{count_place}
use Rattle.dep_graph.proofs.levels.reach_free.Goals as goal

pub loop-place-preserved : goal.loop-place-preserved
loop-place-preserved c =
    let place : ℕ = c.loop-place.place in
    let page : ℕ = get_or c.args.pages.now c.loop-place.place 0 in
    let count : ℕ = get_or c.args.left.now c.loop-place.place 0 in
    let lt : c.loop-place.place < length c.args.pages.now = omega (arith, c.loop-place-test.true, c.requires.each) in
    let is : count_at c.args.pages.now c.args.left.now page ≡ count = count_place c.args.pages.now c.args.left.now c.loop-place.place c.requires.rising c.requires.each lt in
    record {
      reached = λ x.
          free_seen c.args.pages.now c.loop-place.search.reached c.visit_free.new.search.reached c.loop-place.place page count refl c.visit_free.ensures.reached x
          ∙ rw (c.loop-place.invariant.reached x, any_more (λ p. eqb p x) c.args.pages.now c.loop-place.place 0 lt)
          (join (holds (take c.loop-place.place c.args.pages.now) x) x page (λ y. eqb (count_at c.args.pages.now c.args.left.now y) 0) (eqb count 0) (ap (λ n. eqb n 0) (sym is)));
      within = free_within c.args.pages.now c.loop-place.search.reached c.visit_free.new.search.reached c.loop-place.place page count refl c.visit_free.ensures.reached (length c.args.pages.now) lt c.loop-place.invariant.within;
      apart = free_apart c.args.pages.now c.loop-place.search.reached c.visit_free.new.search.reached c.loop-place.place page count refl c.visit_free.ensures.reached c.loop-place.invariant.apart;
      room = c.visit_free.ensures.room ∙ c.loop-place.invariant.room;
    }
  where
    join : (h : Bool) (x page : ℕ) (free : ℕ → Bool) (now : Bool) → now ≡ free page → ((h && free x) || (eqb x page && now)) ≡ ((h || eqb page x) && free x)
    join h x page free now same = elim (cases_eq x page) [
      | inl e ↦ rw (same, e, eq-eqb page page refl) (here h (free page))
      | inr ne ↦ rw (ne_eqb x page ne, ne_eqb page x (λ e. ne (sym e))) (there h (free x))
    ]
      where
        here : (x y : Bool) → ((x && y) || (true && y)) ≡ ((x || true) && y)
        here x y = grind arith

        there : (x y : Bool) → ((x && y) || false) ≡ ((x || false) && y)
        there x y = grind arith
