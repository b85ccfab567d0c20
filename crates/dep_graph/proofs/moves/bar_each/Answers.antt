use Rattle.std.proofs.Common.{◌≡◌, ◌||◌, Bool, false, refl, ◌∙◌, ap, length, get_or, arith}
use Rattle.std.proofs.lemmas.List.{take_all}
use Rattle.dep_graph.specs.declared.pairs.Pair.{Pair}
use Rattle.dep_graph.specs.Pairs.{has_pair, ends_at}
use Rattle.dep_graph.proofs.MoveLemmas.{ends_next, ends_one_more, has_more}
use Rattle.dep_graph.proofs.moves.bar_each.Goals as goal

pub loop-pair-init : goal.loop-pair-init
unfolding ends_at
loop-pair-init c = record {
  pairs = λ a b. nothing (has_pair c.args.barred.now.items a b);
  rising = c.requires.rising;
  len = omega arith;
  room = refl;
  pages = refl;
  counts = λ b. omega arith;
  pages_room = refl;
}
  where
    nothing : (x : Bool) → x ≡ (x || false)
    nothing x = grind arith

pub bar-requires-clause-room : goal.bar-requires-clause-room
bar-requires-clause-room c = omega (arith, c.loop-pair.invariant.len, c.loop-pair.invariant.room, c.requires.room)

pub bar-requires-clause-some : goal.bar-requires-clause-some
bar-requires-clause-some c =
    let p : Pair = get_or c.args.out.now c.loop-pair.pair-index (record { before = 0; after = 0 }) in
    let next = ends_next c.args.out.now c.loop-pair.pair-index (record { before = 0; after = 0 }) c.loop-pair-test.true in
    let all = c.requires.some p.after in
    let now = c.loop-pair.invariant.counts p.after in
    omega arith

pub bar-requires-clause-pages_room : goal.bar-requires-clause-pages_room
bar-requires-clause-pages_room c = omega (arith, ap length c.loop-pair.invariant.pages, c.loop-pair.invariant.pages_room, c.requires.pages_room)

pub loop-pair-preserved : goal.loop-pair-preserved
loop-pair-preserved c = record {
  pairs = λ a b. let more = has_more c.args.out.now c.loop-pair.pair-index (record { before = 0; after = 0 }) a b c.loop-pair-test.true in
      c.bar.ensures.pairs a b ∙ rw (c.loop-pair.invariant.pairs a b, more)
      (turn (has_pair c.args.barred.now.items a b) _ _);
  rising = c.bar.ensures.rising;
  len = omega (arith, c.loop-pair.invariant.len, c.bar.ensures.len);
  room = c.bar.ensures.room ∙ c.loop-pair.invariant.room;
  pages = c.bar.ensures.pages ∙ c.loop-pair.invariant.pages;
  counts = λ b.
      let more = ends_one_more c.args.out.now c.loop-pair.pair-index (record { before = 0; after = 0 }) b c.loop-pair-test.true in
      let now = c.loop-pair.invariant.counts b in
      let one = c.bar.ensures.counts b in
      omega arith;
  pages_room = c.bar.ensures.pages_room ∙ c.loop-pair.invariant.pages_room;
}
  where
    turn : (x y z : Bool) → ((x || y) || z) ≡ (x || (y || z))
    turn x y z = grind arith

pub returns-clause-pairs : goal.returns-clause-pairs
returns-clause-pairs c = λ a b. rw (take_all c.loop-pair.pair-index c.args.out.now (omega arith)) at (c.loop-pair.invariant.pairs a b)

pub returns-clause-counts : goal.returns-clause-counts
returns-clause-counts c = λ b. rw (take_all c.loop-pair.pair-index c.args.out.now (omega arith)) at (c.loop-pair.invariant.counts b)
