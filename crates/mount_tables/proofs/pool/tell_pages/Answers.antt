use Rattle.std.proofs.Common.{◌≡◌, ⊎_elim, false, not, eqb, eq-eqb, ◌∙◌, arith}
use Rattle.std.proofs.lemmas.Bool.{cases_eq, ne_eqb}
use Rattle.page_layout.specs.Shape.{count_page}
use Rattle.image_reader.specs.Tallies.{tally_of}
use Rattle.store_core.specs.Layout.{lay_of}
use Rattle.mount_tables.proofs.Told.{laid_out, told_here, told_elsewhere}
use Rattle.mount_tables.proofs.pool.tell_pages.Goals as goal

pub loop-page-preserved : goal.loop-page-preserved
loop-page-preserved c =
    let shape = c.args.shape.now in
    let counts = c.args.counts.now in
    let page = c.loop-page.page in
    let inv = c.loop-page.invariant in
    let a = c.loop-page.pool in
    let b = c.count_tried.new.self in
    let d = c.count_written.new.self in
    let after : b.shape ≡ shape = c.count_tried.ensures.shape ∙ inv.shape_is in
    let tried = c.count_tried.ensures.told (lay_of shape) (laid_out a.shape shape inv.shape_is) in
    let written = c.count_written.ensures.told (lay_of shape) (laid_out b.shape shape after) in
    record {
      shape_is = c.count_written.ensures.shape ∙ after;
      done = λ p one le before. ⊎_elim
          (λ same. told_here shape page a b d inv.shape_is after tried written p one le (tally_of counts p) (eq-eqb (count_page shape p) page same) (inv.rest p one le (omega (arith, same))))
          (λ other. told_elsewhere shape page a b d inv.shape_is after tried written p one le (eqb (tally_of counts p) 0) (not (eqb (tally_of counts p) 0)) (not (eqb (tally_of counts p) 0)) (ne_eqb (count_page shape p) page other) (inv.done p one le (omega (arith, before, other))))
          (cases_eq (count_page shape p) page);
      rest = λ p one le behind. told_elsewhere shape page a b d inv.shape_is after tried written p one le (eqb (tally_of counts p) 0) false false (ne_eqb (count_page shape p) page (λ same. omega (arith, same, behind))) (inv.rest p one le (omega (arith, behind)));
    }
