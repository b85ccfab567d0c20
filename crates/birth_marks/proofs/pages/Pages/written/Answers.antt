use Rattle.std.proofs.Common.{◌∙◌, ap, arith, refl, sym}
use Rattle.birth_marks.specs.declared.pages.Mark.{Mark}
use Rattle.birth_marks.proofs.PageLemmas.{is_inside, listed_below, still_placed, still_room, written_listed}
use Rattle.birth_marks.proofs.pages.Pages.written.Goals as goal

pub list-requires : goal.list-requires
list-requires c off =
    let inside = is_inside _ _ _ c.self.invariant.0 c.self.invariant.1 c.args.page c.in-Some.field-0.now (sym c.in-Some.ensures.value) c.index.result.now c.index.ensures in
    let few = listed_below c.self.inside.marks.items c.in-Some.field-0.now c.index.result.now inside (sym (ap (λ (m : Mark). m.listed) c.index.ensures) ∙ off) in
    omega (arith, few, c.self.invariant.1.few, c.self.invariant.2)

pub invariant_of-self : goal.invariant_of-self
invariant_of-self c = (
  still_placed _ _ _ c.self.invariant.0 c.self.invariant.1 c.args.page c.in-Some.field-0.now (sym c.in-Some.ensures.value) c.index.result.now c.index.ensures _ refl,
  rw c.list.ensures.items (written_listed _ _ _ c.self.invariant.0 c.self.invariant.1 c.args.page c.in-Some.field-0.now (sym c.in-Some.ensures.value) c.index.result.now c.index.ensures _ refl),
  rw c.list.ensures.capacity (still_room _ _ _ c.self.invariant.0 c.self.invariant.1 c.args.page c.in-Some.field-0.now (sym c.in-Some.ensures.value) c.index.result.now c.index.ensures _ _ c.self.invariant.2),
)
