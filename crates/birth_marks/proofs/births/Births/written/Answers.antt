use Rattle.std.proofs.Common.{ap, arith, refl, sym}
use Rattle.birth_marks.specs.declared.pages.Mark.{Mark}
use Rattle.birth_marks.proofs.KeptLemmas.{linked_still}
use Rattle.birth_marks.proofs.TableLemmas.{written_behind, written_is}
use Rattle.birth_marks.proofs.births.Births.written.Goals as goal

pub invariant_of-self : goal.invariant_of-self
invariant_of-self c = (
  written_behind _ _ (λ s. refl) (λ s v. refl) c.self.inside.moment c.args.at c.self.invariant.0 c.written.ensures.mark c.written.ensures.known,
  linked_still _ _ (λ s. refl) (λ q. refl) (λ p. ap (λ (m : Mark). m.settled_at) (c.written.ensures.mark p)) (λ p. ap (λ (m : Mark). m.last) (c.written.ensures.mark p)) c.self.inside.moment c.self.invariant.1,
  record { pages_fit = omega (arith, c.written.ensures.spare, c.self.invariant.2.pages_fit); records_fit = c.self.invariant.2.records_fit; moments_fit = c.self.invariant.2.moments_fit; few = c.self.invariant.2.few },
)

pub returns-clause-written : goal.returns-clause-written
returns-clause-written c = rw (sym c.self.view_is) (written_is _ _ (λ s. refl) (λ s v. refl) c.self.inside.moment c.args.at c.self.invariant.0 c.written.ensures.mark c.written.ensures.known)
