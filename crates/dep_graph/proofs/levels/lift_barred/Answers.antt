use Rattle.std.proofs.Common.{◌≡◌, ◌∙◌, ◌||◌, refl, cond, eqb, ℕ, Bool, true, false, get_or, take, arith}
use Rattle.std.specs.List.{list_any}
use Rattle.std.proofs.lemmas.List.{length-set, take_all}
use Rattle.dep_graph.specs.declared.pairs.Pair.{Pair}
use Rattle.dep_graph.specs.Waits.{count_at}
use Rattle.dep_graph.proofs.PageLemmas.{flip}
use Rattle.dep_graph.proofs.SearchLemmas.{any_more}
use Rattle.dep_graph.proofs.WaitLemmas.{set_count}
use Rattle.dep_graph.proofs.levels.lift_barred.Goals as goal

pub loop-pair-preserved : goal.loop-pair-preserved
loop-pair-preserved c =
    let p : Pair = get_or c.args.barred.now c.loop-pair.pair-index (record { before = 0; after = 0 }) in
    record {
      each = length-set c.loop-pair.level.items c.position_of-at.result 2 ∙ c.loop-pair.invariant.each;
      levels = λ x.
          set_count c.args.pages.now c.loop-pair.level.items c.position_of-at.result p.after 2 x c.requires.rising c.loop-pair.invariant.each c.position_of-at.ensures
          ∙ (let more = any_more (λ (e : Pair). eqb e.after x) c.args.barred.now c.loop-pair.pair-index (record { before = 0; after = 0 }) c.loop-pair-test.true in
          rw (c.loop-pair.invariant.levels x, more, flip x p.after) (up (eqb p.after x) (list_any (λ (e : Pair). eqb e.after x) (take c.loop-pair.pair-index c.args.barred.now)) (count_at c.args.pages.now c.args.level.now.items x)));
      room = c.loop-pair.invariant.room;
    }
  where
    up : (b old : Bool) (n : ℕ) → cond b 2 (cond old 2 n) ≡ cond (old || b) 2 n
    up true true n = refl
    up true false n = refl
    up false true n = refl
    up false false n = refl

pub returns-clause-levels : goal.returns-clause-levels
returns-clause-levels c = λ x. rw (take_all c.loop-pair.pair-index c.args.barred.now (omega arith)) at (c.loop-pair.invariant.levels x)
