use Rattle.std.proofs.Common.{◌≡◌, ◌∙◌, ◌+◌, refl, cond, eqb, ℕ, Bool, true, false, get_or, take, arith}
use Rattle.std.proofs.lemmas.List.{length-set, take_all}
use Rattle.dep_graph.specs.declared.pairs.Pair.{Pair}
use Rattle.dep_graph.specs.Pairs.{ends_at}
use Rattle.dep_graph.proofs.GraphLemmas.{ends_le}
use Rattle.dep_graph.proofs.LevelLemmas.{changed_num, raised_ends, read_num}
use Rattle.dep_graph.proofs.MoveLemmas.{ends_more}
use Rattle.dep_graph.proofs.levels.count_edges.Goals as goal

pub loop-pair-init : goal.loop-pair-init
unfolding ends_at
loop-pair-init c = record { each = c.requires.each; counts = c.requires.none; room = refl }

pub overflow_add-index_mut : goal.overflow_add-index_mut
overflow_add-index_mut c =
    let p : Pair = get_or c.args.live.now c.loop-pair.pair-index (record { before = 0; after = 0 }) in
    let is = read_num c.args.pages.now c.loop-pair.left.items c.position_of-at.result p.after c.index_mut.result.now c.requires.rising c.loop-pair.invariant.each c.position_of-at.ensures c.index_mut.ensures.value in
    let some = c.loop-pair.invariant.counts p.after in
    let more = raised_ends c.args.live.now c.loop-pair.pair-index c.loop-pair-test.true in
    let le = ends_le c.args.live.now p.after in
    omega (arith, c.requires.few)

pub loop-pair-preserved : goal.loop-pair-preserved
loop-pair-preserved c =
    let p : Pair = get_or c.args.live.now c.loop-pair.pair-index (record { before = 0; after = 0 }) in
    record {
      each = length-set c.loop-pair.left.items c.position_of-at.result (c.index_mut.result.now + 1) ∙ c.loop-pair.invariant.each;
      counts = λ x.
          changed_num c.args.pages.now c.loop-pair.left.items c.position_of-at.result p.after c.index_mut.result.now c.requires.rising c.loop-pair.invariant.each c.position_of-at.ensures c.index_mut.ensures.value (λ n. n + 1) x
          ∙ (let more = ends_more c.args.live.now c.loop-pair.pair-index (record { before = 0; after = 0 }) x c.loop-pair-test.true in
          rw (c.loop-pair.invariant.counts x, more) (up (eqb x p.after) (ends_at (take c.loop-pair.pair-index c.args.live.now) x)));
      room = c.loop-pair.invariant.room;
    }
  where
    up : (b : Bool) (n : ℕ) → cond b (n + 1) n ≡ n + cond b 1 0
    up true n = refl
    up false n = omega arith

pub returns-clause-counts : goal.returns-clause-counts
returns-clause-counts c = λ x. rw (take_all c.loop-pair.pair-index c.args.live.now (omega arith)) at (c.loop-pair.invariant.counts x)
