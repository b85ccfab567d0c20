use Rattle.std.proofs.Common.{ap, sym}
use Rattle.birth_marks.specs.declared.pages.Mark.{Mark}
use Rattle.birth_marks.proofs.PageLemmas.{settled_listed, still_placed, still_room}
use Rattle.birth_marks.proofs.pages.Pages.settle.Goals as goal

pub invariant_of-self-2 : goal.invariant_of-self-2
invariant_of-self-2 c = (
  still_placed _ _ _ c.self.invariant.0 c.self.invariant.1 c.in-Some.page c.in-Some-get.field-0.now (sym c.in-Some-get.ensures.value) c.index.result.now c.index.ensures _ (ap (λ (m : Mark). m.page) c.settle-last.ensures.mark),
  settled_listed _ _ _ c.self.invariant.0 c.self.invariant.1 c.in-Some.page c.in-Some-get.field-0.now (sym c.in-Some-get.ensures.value) c.index.result.now c.index.ensures _ _
      (ap (λ (m : Mark). m.written) c.settle-last.ensures.mark) (ap (λ (m : Mark). m.listed) c.settle-last.ensures.mark) c.in-Some.ensures.items,
  rw c.pop.ensures.capacity (still_room _ _ _ c.self.invariant.0 c.self.invariant.1 c.in-Some.page c.in-Some-get.field-0.now (sym c.in-Some-get.ensures.value) c.index.result.now c.index.ensures _ _ c.self.invariant.2),
)
