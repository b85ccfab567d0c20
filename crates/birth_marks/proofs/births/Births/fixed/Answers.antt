use Rattle.std.proofs.Common.{arith, refl, sym}
use Rattle.birth_marks.specs.Births.{BirthsView}
use Rattle.birth_marks.proofs.KeptLemmas.{kept_recorded, linked_still}
use Rattle.birth_marks.proofs.TableLemmas.{behind_still, fixed_behind, fixed_is}
use Rattle.birth_marks.proofs.SweepLemmas.{swept_behind, swept_fixed}
use Rattle.birth_marks.proofs.births.Births.fixed.Goals as goal

abbrev before : goal.After-settle_all → BirthsView
before c = record { records = c.self.inside.records.entries; moments = c.self.inside.moments.entries; pages = c.self.inside.pages; spare = c.self.inside.spare }

abbrev settled : goal.After-settle_all → BirthsView
settled c = record { records = c.self.inside.records.entries; moments = c.self.inside.moments.entries; pages = c.settle_all.new.pages; spare = c.self.inside.spare }

pub invariant_of-self : goal.invariant_of-self
invariant_of-self c = (
  swept_behind _ _ _ _ _ c.settle_all.ensures.swept c.self.inside.spare c.self.inside.moment
      (fixed_behind (before c) (settled c) (λ s. refl) (λ s v. refl) c.self.inside.moment c.self.invariant.0 c.settle_all.ensures.mark c.settle_all.ensures.known),
  linked_still _ _ (λ s. refl) (λ q. refl) (λ p. refl) (λ p. refl) c.self.inside.moment c.settle_all.ensures.linked,
  record {
    pages_fit = omega (arith, c.settle_all.ensures.spare, c.self.invariant.2.pages_fit);
    records_fit = omega (arith, c.settle_all.ensures.room.0, c.self.invariant.2.records_fit);
    moments_fit = omega (arith, c.settle_all.ensures.room.1, c.self.invariant.2.moments_fit);
    few = c.self.invariant.2.few;
  },
)

pub returns-clause-fixed : goal.returns-clause-fixed
returns-clause-fixed c = rw (sym c.self.view_is)
    (swept_fixed _ _ _ _ _ c.settle_all.ensures.swept (before c) c.self.inside.spare
    (fixed_is (before c) (settled c) (λ s. refl) (λ s v. refl) c.self.inside.moment c.self.invariant.0 c.settle_all.ensures.mark c.settle_all.ensures.known))

pub settle_all-requires-clause-behind : goal.settle_all-requires-clause-behind
settle_all-requires-clause-behind c = behind_still _ _ (λ s. refl) (λ s v. refl) c.self.inside.moment c.self.invariant.0 c.self.invariant.0.settled c.self.invariant.0.tried (λ p. refl) c.self.invariant.0.noted

pub settle_all-requires-clause-linked : goal.settle_all-requires-clause-linked
settle_all-requires-clause-linked c = linked_still _ _ (λ s. refl) (λ q. refl) (λ p. refl) (λ p. refl) c.self.inside.moment c.self.invariant.1

pub returns-clause-kept : goal.returns-clause-kept
returns-clause-kept c = kept_recorded _ c.self.inside.moment (invariant_of-self c).1
