use Rattle.std.proofs.Common.{sym, ◌∙◌, below_more, arith}
use Rattle.merge_policy.proofs.Places.{took_first, took_none, passed_over}
use Rattle.merge_policy.proofs.boxes.take_first.Goals as goal

pub returns-then-label_in-label-clause-taken : goal.returns-then-label_in-label-clause-taken
returns-then-label_in-label-clause-taken g c =
    (took_first _ c.loop-place.policies.items _ c.remove.new.self.items _ _ c.index.result.now c.remove.result c.loop-place.invariant.0 c.remove.ensures.items (omega (arith, c.loop-place-test.true, c.loop-place.invariant.1)) c.index.ensures c.remove.ensures.value c.loop-place.invariant.2 (sym c.label_in.ensures ∙ c.if-label_in-label.true)).taken

pub returns-then-label_in-label-clause-others : goal.returns-then-label_in-label-clause-others
returns-then-label_in-label-clause-others g c =
    (took_first _ c.loop-place.policies.items _ c.remove.new.self.items _ _ c.index.result.now c.remove.result c.loop-place.invariant.0 c.remove.ensures.items (omega (arith, c.loop-place-test.true, c.loop-place.invariant.1)) c.index.ensures c.remove.ensures.value c.loop-place.invariant.2 (sym c.label_in.ensures ∙ c.if-label_in-label.true)).others

pub loop-place-preserved : goal.loop-place-preserved
loop-place-preserved g c = (
  c.loop-place.invariant.0,
  c.loop-place.invariant.1,
  below_more _ _ c.loop-place.invariant.2
      (passed_over _ c.loop-place.policies.items _ _ c.index.result.now (omega (arith, c.loop-place-test.true, c.loop-place.invariant.1)) c.index.ensures (λ here. c.if-label_in-label.false (c.label_in.ensures ∙ here))),
)

pub returns-clause-taken : goal.returns-clause-taken
returns-clause-taken g c =
    (took_none _ c.loop-place.policies.items _ _ c.loop-place.place c.loop-place.invariant.0 (omega (arith, c.loop-place-test.false, c.loop-place.invariant.1)) c.loop-place.invariant.2).none

pub returns-clause-others : goal.returns-clause-others
returns-clause-others g c =
    (took_none _ c.loop-place.policies.items _ _ c.loop-place.place c.loop-place.invariant.0 (omega (arith, c.loop-place-test.false, c.loop-place.invariant.1)) c.loop-place.invariant.2).others
