use Rattle.std.proofs.Common.{ap, arith}
use Rattle.birth_marks.specs.declared.pages.Mark.{Mark}
use Rattle.birth_marks.proofs.KeptLemmas.{linked_still}
use Rattle.birth_marks.proofs.TableLemmas.{behind_still}
use Rattle.birth_marks.proofs.births.Births.reserve.Goals as goal

pub invariant_of-self : goal.invariant_of-self
invariant_of-self c = (
  behind_still _ _ c.room_for.ensures.records (λ s v. c.room_for.ensures.moments _) c.self.inside.moment c.self.invariant.0 (λ p. rw (c.room_for.ensures.mark p) (c.self.invariant.0.settled p)) (λ p. rw (c.room_for.ensures.mark p) (c.self.invariant.0.tried p)) c.room_for.ensures.known (λ s r h still. rw (c.room_for.ensures.mark r.page) (c.self.invariant.0.noted s r h (rw (c.room_for.ensures.mark r.page) at still))),
  linked_still _ _ c.room_for.ensures.records c.room_for.ensures.moments (λ p. ap (λ (m : Mark). m.settled_at) (c.room_for.ensures.mark p)) (λ p. ap (λ (m : Mark). m.last) (c.room_for.ensures.mark p)) c.self.inside.moment c.self.invariant.1,
  record {
    pages_fit = omega (arith, c.room_for.ensures.room.0, c.self.invariant.2.pages_fit);
    records_fit = omega (arith, c.room_for.ensures.room.1, c.self.invariant.2.records_fit);
    moments_fit = omega (arith, c.room_for.ensures.room.2, c.self.invariant.2.moments_fit);
    few = c.self.invariant.2.few;
  },
)

pub invariant_of-self-2 : goal.invariant_of-self-2
invariant_of-self-2 c = (
  behind_still _ _ c.room_for.ensures.records (λ s v. c.room_for.ensures.moments _) c.self.inside.moment c.self.invariant.0 (λ p. rw (c.room_for.ensures.mark p) (c.self.invariant.0.settled p)) (λ p. rw (c.room_for.ensures.mark p) (c.self.invariant.0.tried p)) c.room_for.ensures.known (λ s r h still. rw (c.room_for.ensures.mark r.page) (c.self.invariant.0.noted s r h (rw (c.room_for.ensures.mark r.page) at still))),
  linked_still _ _ c.room_for.ensures.records c.room_for.ensures.moments (λ p. ap (λ (m : Mark). m.settled_at) (c.room_for.ensures.mark p)) (λ p. ap (λ (m : Mark). m.last) (c.room_for.ensures.mark p)) c.self.inside.moment c.self.invariant.1,
  record {
    pages_fit = c.in-Ok.ensures.ok.0;
    records_fit = c.in-Ok.ensures.ok.1;
    moments_fit = c.in-Ok.ensures.ok.2;
    few = c.in-Some.ensures.0;
  },
)
