use Rattle.std.proofs.Common.{◌≡◌, inl, inr, ◌∙◌, ◌<◌, sym, ap, refl, subst, true, get_or, ℕ, List, length, eqb, eq-eqb, eqb-true, arith}
use Rattle.std.proofs.lemmas.Bool.{or_cases, or_left, or_right}
use Rattle.std.specs.List.{list_any}
use Rattle.dep_graph.specs.declared.pairs.Pair.{Pair}
use Rattle.dep_graph.specs.Pairs.{has_pair}
use Rattle.dep_graph.specs.Trails.{seen}
use Rattle.dep_graph.proofs.RisingLemmas.{any_at}
use Rattle.dep_graph.proofs.SearchLemmas.{after_from, closed_at_end, closes_seen, followed_done, followed_kept, followed_sound, seen_at, seen_visit, visit_within, visit_front, visit_grows}
use Rattle.dep_graph.proofs.search.explore.Goals as goal

pub loop-head-init : goal.loop-head-init
loop-head-init c =
    let at = c.position_of.ensures in
    let adds = seen_visit c.args.pages.now c.args.search.now.reached c.visit.new.self.reached c.position_of.result c.args.from at.is c.visit.ensures.reached in
    let front = visit_front c.args.pages.now c.args.search.now.reached c.visit.new.self.reached c.position_of.result c.args.from at.is c.visit.ensures.reached in
    let grows = visit_grows c.args.pages.now c.args.search.now.reached c.visit.new.self.reached c.position_of.result c.args.from at.is c.visit.ensures.reached in
    let len = c.len-head.ensures.len in
    record {
      within = visit_within c.args.pages.now c.args.search.now.reached c.visit.new.self.reached c.position_of.result c.args.from at.is c.visit.ensures.reached (length c.args.pages.now) at.within c.requires.within;
      from = adds c.args.from ∙ or_right (seen c.args.pages.now c.args.search.now.reached c.args.from) (eqb c.args.from c.args.from) (eq-eqb c.args.from c.args.from refl);
      sound = λ x h. elim (or_cases _ _ (sym (adds x) ∙ h)) [
        | inl old ↦ inl old
        | inr new ↦ inr (inl (sym (eqb-true _ _ new)))
      ];
      kept = λ x h. adds x ∙ or_left _ _ h;
      done = λ k y lt edge.
          let k_lt : k < length c.args.search.now.reached = omega arith in
          let was = subst (λ (n : ℕ). has_pair c.args.live.now (get_or c.args.pages.now n 0) y ≡ true) (front k k_lt) edge in
          adds y ∙ or_left _ _ (c.requires.closed _ y (seen_at c.args.pages.now c.args.search.now.reached k k_lt) was);
      head_within = omega arith;
      room = c.visit.ensures.room;
    }

pub spread-requires-clause-pages : goal.spread-requires-clause-pages
spread-requires-clause-pages c = λ k d lt.
    let p : Pair = get_or c.out_of.result.now k d in
    let there = any_at (λ (q : Pair). eqb q.after p.after) c.out_of.result.now k d lt (eq-eqb p.after p.after refl) in
    let edge = sym (after_from c.args.live.now (get_or c.args.pages.now c.place.result 0) p.after) ∙ ap (λ (l : List Pair). list_any (λ (q : Pair). eqb q.after p.after) l) (sym c.out_of.ensures) ∙ there in
    c.requires.ends _ p.after edge

pub loop-head-preserved : goal.loop-head-preserved
loop-head-preserved c =
    let i = c.loop-head.invariant in
    let lt : c.loop-head.head < length c.loop-head.search.reached = omega (arith, c.loop-head-test.true, c.len.ensures.len) in
    let here = ap (λ (n : ℕ). get_or c.args.pages.now n 0) c.place.ensures in
    let kept = followed_kept c.args.live.now c.args.pages.now c.args.search.now.reached c.loop-head.search.reached c.spread.new.search.reached c.args.from c.loop-head.head (get_or c.args.pages.now c.place.result 0) c.out_of.result.now c.out_of.ensures here lt c.spread.ensures.seen in
    record {
      within = c.spread.ensures.within;
      from = kept c.args.from i.from;
      sound = followed_sound c.args.live.now c.args.pages.now c.args.search.now.reached c.loop-head.search.reached c.spread.new.search.reached c.args.from c.loop-head.head (get_or c.args.pages.now c.place.result 0) c.out_of.result.now c.out_of.ensures here lt c.spread.ensures.seen c.requires.closed i.sound;
      kept = λ x h. kept x (i.kept x h);
      done = followed_done c.args.live.now c.args.pages.now c.args.search.now.reached c.loop-head.search.reached c.spread.new.search.reached c.args.from c.loop-head.head (get_or c.args.pages.now c.place.result 0) c.out_of.result.now c.out_of.ensures here lt c.spread.ensures.seen c.spread.ensures.front i.done;
      head_within = omega (arith, c.spread.ensures.grows);
      room = c.spread.ensures.room ∙ i.room;
    }

pub returns-clause-complete : goal.returns-clause-complete
returns-clause-complete c =
    let closed = closed_at_end c.args.live.now c.args.pages.now c.loop-head.search.reached c.loop-head.head (omega (arith, c.loop-head-test.false, c.len.ensures.len)) c.loop-head.invariant.done in
    λ x way. closes_seen c.args.live.now c.args.pages.now c.loop-head.search.reached x c.args.from closed c.loop-head.invariant.from way

pub returns-clause-closed : goal.returns-clause-closed
returns-clause-closed c = closed_at_end c.args.live.now c.args.pages.now c.loop-head.search.reached c.loop-head.head (omega (arith, c.loop-head-test.false, c.len.ensures.len)) c.loop-head.invariant.done
