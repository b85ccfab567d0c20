use Rattle.std.proofs.Common.{◌≡◌, ◌∙◌, ◌||◌, Bool, get_or, length, eqb, arith}
use Rattle.dep_graph.specs.declared.pairs.Pair.{Pair}
use Rattle.dep_graph.specs.Trails.{seen}
use Rattle.dep_graph.proofs.SearchLemmas.{any_more, seen_visit, visit_within, visit_front, visit_grows}
use Rattle.dep_graph.proofs.search.spread.Goals as goal

pub loop-pair-preserved : goal.loop-pair-preserved
loop-pair-preserved c =
    let none : Pair = record { before = 0; after = 0 } in
    let p : Pair = get_or c.args.out.now c.loop-pair.pair-index (record { before = 0; after = 0 }) in
    let i = c.loop-pair.invariant in
    let at = c.position_of.ensures in
    record {
      reached = λ x.
          seen_visit c.args.pages.now c.loop-pair.search.reached c.visit.new.self.reached c.position_of.result p.after at.is c.visit.ensures.reached x
          ∙ rw (i.reached x, any_more (λ (q : Pair). eqb q.after x) c.args.out.now c.loop-pair.pair-index (record { before = 0; after = 0 }) c.loop-pair-test.true)
          (join (seen c.args.pages.now c.args.search.now.reached x) _ _);
      within = visit_within c.args.pages.now c.loop-pair.search.reached c.visit.new.self.reached c.position_of.result p.after at.is c.visit.ensures.reached (length c.args.pages.now) at.within i.within;
      front = λ k lt. visit_front c.args.pages.now c.loop-pair.search.reached c.visit.new.self.reached c.position_of.result p.after at.is c.visit.ensures.reached k (let g = i.grows in omega arith) ∙ i.front k lt;
      grows = let g = visit_grows c.args.pages.now c.loop-pair.search.reached c.visit.new.self.reached c.position_of.result p.after at.is c.visit.ensures.reached in omega (arith, i.grows);
      room = c.visit.ensures.room ∙ i.room;
    }
  where
    join : (x y z : Bool) → ((x || y) || z) ≡ (x || (y || z))
    join x y z = grind arith
