use Rattle.std.proofs.Common.{◌≡◌, ◌∙◌, ◌&&◌, ◌||◌, Bool, not, false, take, get_or, eqb, eq-eqb, refl, arith}
use Rattle.std.proofs.lemmas.Bool.{and_from, not_from_false}
use Rattle.std.proofs.lemmas.List.{take_all}
use Rattle.dep_graph.specs.declared.pairs.Pair.{Pair}
use Rattle.dep_graph.specs.Pairs.{has_pair}
use Rattle.dep_graph.proofs.MoveLemmas.{has_more}
use Rattle.dep_graph.proofs.PairLemmas.{found, not_before}
use Rattle.dep_graph.proofs.live.remove_turned.Goals as goal

pub loop-pair-init : goal.loop-pair-init
loop-pair-init c = record { pairs = λ a b. nothing (has_pair c.args.back.now.items b a); rising = c.requires.rising; len = omega arith; room = refl }
  where
    nothing : (x : Bool) → x ≡ (x && not false)
    nothing x = grind arith

pub remove-requires-clause-present : goal.remove-requires-clause-present
remove-requires-clause-present c =
    let p : Pair = get_or c.args.gone.now c.loop-pair.pair-index (record { before = 0; after = 0 }) in
    let held = found c.args.gone.now c.loop-pair.pair-index p (record { before = 0; after = 0 }) c.loop-pair-test.true (and_from _ _ (eq-eqb p.before p.before refl) (eq-eqb p.after p.after refl)) in
    let first = not_before c.args.gone.now c.loop-pair.pair-index (record { before = 0; after = 0 }) c.requires.gone_rising c.loop-pair-test.true in
    rw (c.turned.ensures.before, c.turned.ensures.after) (c.loop-pair.invariant.pairs p.before p.after ∙ and_from _ _ (c.requires.there p.before p.after held) (not_from_false _ first))

pub loop-pair-preserved : goal.loop-pair-preserved
loop-pair-preserved c = record {
  pairs = λ a b.
      let more = has_more c.args.gone.now c.loop-pair.pair-index (record { before = 0; after = 0 }) a b c.loop-pair-test.true in
      c.remove.ensures.pairs b a ∙ rw (c.turned.ensures.before, c.turned.ensures.after, c.loop-pair.invariant.pairs a b, more) (turn (has_pair c.args.back.now.items b a) (has_pair (take c.loop-pair.pair-index c.args.gone.now) a b)
      (eqb a (get_or c.args.gone.now c.loop-pair.pair-index (record { before = 0; after = 0 })).before) (eqb b (get_or c.args.gone.now c.loop-pair.pair-index (record { before = 0; after = 0 })).after));
  rising = c.remove.ensures.rising;
  len = omega (arith, c.loop-pair.invariant.len, c.remove.ensures.len);
  room = c.remove.ensures.room ∙ c.loop-pair.invariant.room;
}
  where
    turn : (x y p q : Bool) → ((x && not y) && not (q && p)) ≡ (x && not (y || (p && q)))
    turn x y p q = grind arith

pub returns-clause-pairs : goal.returns-clause-pairs
returns-clause-pairs c = λ a b. rw (take_all c.loop-pair.pair-index c.args.gone.now (omega arith)) at (c.loop-pair.invariant.pairs a b)
