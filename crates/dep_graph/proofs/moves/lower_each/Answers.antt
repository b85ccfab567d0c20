use Rattle.std.proofs.Common.{refl, ◌∙◌, ap, length, get_or, arith, ℕ}
use Rattle.std.proofs.lemmas.List.{take_all}
use Rattle.dep_graph.specs.declared.pairs.Pair.{Pair}
use Rattle.dep_graph.specs.Pairs.{ends_at}
use Rattle.dep_graph.specs.Waits.{waits_for}
use Rattle.dep_graph.proofs.MoveLemmas.{ends_more, ends_next, lowered}
use Rattle.dep_graph.proofs.moves.lower_each.Goals as goal

pub loop-pair-init : goal.loop-pair-init
unfolding ends_at
loop-pair-init c = record { pages = refl; counts = λ b. omega arith; room = refl }

pub lower-requires-clause-some : goal.lower-requires-clause-some
lower-requires-clause-some c =
    let p : Pair = get_or c.args.gone.now c.loop-pair.pair-index (record { before = 0; after = 0 }) in
    let next = ends_next c.args.gone.now c.loop-pair.pair-index (record { before = 0; after = 0 }) c.loop-pair-test.true in
    let all = c.requires.some p.after in
    let now = c.loop-pair.invariant.counts p.after in
    omega arith

pub lower-requires-clause-room : goal.lower-requires-clause-room
lower-requires-clause-room c = omega (arith, ap length c.loop-pair.invariant.pages, c.loop-pair.invariant.room)

pub loop-pair-preserved : goal.loop-pair-preserved
loop-pair-preserved c = record {
  pages = c.lower.ensures.pages ∙ c.loop-pair.invariant.pages;
  counts = λ b.
      let p : Pair = get_or c.args.gone.now c.loop-pair.pair-index (record { before = 0; after = 0 }) in
      let next = ends_next c.args.gone.now c.loop-pair.pair-index (record { before = 0; after = 0 }) c.loop-pair-test.true in
      let all = c.requires.some p.after in
      let now = c.loop-pair.invariant.counts p.after in
      lowered b p.after (waits_for c.loop-pair.dirty b) (waits_for c.loop-pair.dirty p.after) _ _ _ _ (ap (λ (x : ℕ). waits_for c.loop-pair.dirty x)) (omega arith) (c.lower.ensures.counts b) (c.loop-pair.invariant.counts b)
      (ends_more c.args.gone.now c.loop-pair.pair-index (record { before = 0; after = 0 }) b c.loop-pair-test.true);
  room = c.lower.ensures.room ∙ c.loop-pair.invariant.room;
}

pub returns-clause-pages : goal.returns-clause-pages
returns-clause-pages c = c.loop-pair.invariant.pages

pub returns-clause-counts : goal.returns-clause-counts
returns-clause-counts c = λ b. rw (take_all c.loop-pair.pair-index c.args.gone.now (omega arith)) at (c.loop-pair.invariant.counts b)

pub returns-clause-room : goal.returns-clause-room
returns-clause-room c = c.loop-pair.invariant.room
