use Rattle.std.proofs.Common.{◌≡◌, ◌∙◌, ◌||◌, ◌<◌, ap, refl, eqb, ℕ, Bool, false, take, get_or, arith}
use Rattle.std.specs.List.{list_any}
use Rattle.std.proofs.lemmas.List.{take_all}
use Rattle.dep_graph.specs.declared.pairs.Pair.{Pair}
use Rattle.dep_graph.specs.Pairs.{ends_at}
use Rattle.dep_graph.specs.Trails.{seen}
use Rattle.dep_graph.specs.Waits.{count_at}
use Rattle.dep_graph.proofs.LevelLemmas.{next_height, next_reached, raised_ends}
use Rattle.dep_graph.proofs.MoveLemmas.{ends_more, lowered}
use Rattle.dep_graph.proofs.PageLemmas.{flip}
use Rattle.dep_graph.proofs.SearchLemmas.{any_more}
use Rattle.dep_graph.proofs.levels.relax_each.Goals as goal

pub loop-pair-init : goal.loop-pair-init
unfolding ends_at
loop-pair-init c = record {
  waits = λ p. omega arith;
  heights = λ p. refl;
  reached = λ p. nothing (seen c.args.pages.now c.args.search.now.reached p);
  within = c.requires.within;
  apart = c.requires.apart;
  front = λ k lt. refl;
  grows = omega arith;
  room = refl;
  left_each = c.requires.left_each;
  level_each = c.requires.level_each;
  left_room = refl;
  level_room = refl;
}
  where
    nothing : (x : Bool) → x ≡ (x || false)
    nothing x = grind arith

pub relax-requires-clause-waits : goal.relax-requires-clause-waits
relax-requires-clause-waits c =
    let p : Pair = get_or c.args.out.now c.loop-pair.pair-index (record { before = 0; after = 0 }) in
    let more = raised_ends c.args.out.now c.loop-pair.pair-index c.loop-pair-test.true in
    let all = c.requires.waits p.after in
    let now = c.loop-pair.invariant.waits p.after in
    omega arith

pub loop-pair-preserved : goal.loop-pair-preserved
loop-pair-preserved c =
    let p : Pair = get_or c.args.out.now c.loop-pair.pair-index (record { before = 0; after = 0 }) in
    let more = raised_ends c.args.out.now c.loop-pair.pair-index c.loop-pair-test.true in
    let all = c.requires.waits p.after in
    let now = c.loop-pair.invariant.waits p.after in
    let some : 0 < count_at c.args.pages.now c.loop-pair.left.items p.after = omega arith in
    let i = c.loop-pair.invariant in
    record {
      waits = λ x. lowered x p.after (count_at c.args.pages.now c.loop-pair.left.items x) (count_at c.args.pages.now c.loop-pair.left.items p.after) _ _ _ _ (ap (λ (n : ℕ). count_at c.args.pages.now c.loop-pair.left.items n)) some
          (c.relax.ensures.left x) (i.waits x) (ends_more c.args.out.now c.loop-pair.pair-index (record { before = 0; after = 0 }) x c.loop-pair-test.true);
      heights = λ x.
          c.relax.ensures.level x ∙ (let any = any_more (λ (e : Pair). eqb e.after x) c.args.out.now c.loop-pair.pair-index (record { before = 0; after = 0 }) c.loop-pair-test.true in
          rw (i.heights x, any, flip x p.after) (next_height (eqb p.after x) (list_any (λ (e : Pair). eqb e.after x) (take c.loop-pair.pair-index c.args.out.now)) (count_at c.args.pages.now c.args.level.now.items x) c.args.height));
      reached = λ x.
          c.relax.ensures.seen x ∙ (let any = any_more (λ (e : Pair). eqb e.after x) c.args.out.now c.loop-pair.pair-index (record { before = 0; after = 0 }) c.loop-pair-test.true in
          rw (i.reached x, any) (next_reached x p.after (seen c.args.pages.now c.args.search.now.reached x) (list_any (λ (e : Pair). eqb e.after x) (take c.loop-pair.pair-index c.args.out.now)) (count_at c.args.pages.now c.loop-pair.left.items) (count_at c.args.pages.now c.relax.new.left.items x) some (c.relax.ensures.left x)));
      within = c.relax.ensures.within;
      apart = c.relax.ensures.apart;
      front = λ k lt. c.relax.ensures.front k (let g = i.grows in omega arith) ∙ i.front k lt;
      grows = omega (arith, c.relax.ensures.grows, i.grows);
      room = c.relax.ensures.room ∙ i.room;
      left_each = c.relax.ensures.left_each;
      level_each = c.relax.ensures.level_each;
      left_room = c.relax.ensures.left_room ∙ i.left_room;
      level_room = c.relax.ensures.level_room ∙ i.level_room;
    }

pub returns-clause-left : goal.returns-clause-left
returns-clause-left c = λ x. rw (take_all c.loop-pair.pair-index c.args.out.now (omega arith)) at (c.loop-pair.invariant.waits x)

pub returns-clause-level : goal.returns-clause-level
returns-clause-level c = λ x. rw (take_all c.loop-pair.pair-index c.args.out.now (omega arith)) at (c.loop-pair.invariant.heights x)

pub returns-clause-seen : goal.returns-clause-seen
returns-clause-seen c = λ x. rw (take_all c.loop-pair.pair-index c.args.out.now (omega arith)) at (c.loop-pair.invariant.reached x)
