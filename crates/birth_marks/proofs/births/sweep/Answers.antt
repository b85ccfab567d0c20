use Rattle.std.proofs.Common.{◌≡◌, arith, Option, None, Some, refl, sym, ◌∙◌, subst}
use Rattle.birth_marks.specs.declared.births.Pair.{Pair}
use Rattle.birth_marks.specs.Kept.{TakenOff}
use Rattle.birth_marks.proofs.LinkLemmas.{all_gone, taken_one, taken_start}
use Rattle.birth_marks.proofs.births.sweep.Goals as goal

pub loop-next-init : goal.loop-next-init
loop-next-init c = record {
  none = λ h. (h, (refl, refl));
  taken = λ page moment heads. taken_start page moment c.args.last _ _ heads;
  records_fit = omega arith;
  moments_fit = omega arith;
}

pub loop-next-preserved : goal.loop-next-preserved
loop-next-preserved c = record {
  none = λ h. let no : Some c.in-Some.pair ≡ None = sym c.in-Some.is ∙ (c.loop-next.invariant.none h).0 in absurd (cc);
  taken = λ page moment heads. taken_one page moment c.args.last _ _ heads c.in-Some.pair _ _ (subst (λ (o : Option Pair). TakenOff page o c.args.records.now.entries c.args.moments.now.entries c.loop-next.records.entries c.loop-next.moments.entries) c.in-Some.is (c.loop-next.invariant.taken page moment heads)) c.in-Some-remove.met (sym c.in-Some-remove.ensures.value) _ _ c.remove-in-Some.ensures.updates.0 c.remove.ensures.updates.0;
  records_fit = omega (arith, c.loop-next.invariant.records_fit, c.remove-in-Some.ensures.spare);
  moments_fit = omega (arith, c.loop-next.invariant.moments_fit, c.remove.ensures.spare);
}

pub returns-clause-gone : goal.returns-clause-gone
returns-clause-gone c = λ page moment heads. all_gone page moment c.args.last _ _ heads _ _ (subst (λ (o : Option Pair). TakenOff page o c.args.records.now.entries c.args.moments.now.entries c.loop-next.records.entries c.loop-next.moments.entries) c.in_default.is (c.loop-next.invariant.taken page moment heads))
