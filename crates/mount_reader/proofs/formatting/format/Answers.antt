use Rattle.std.proofs.Common.{ℕ, inr, subst}
use Rattle.page_device.specs.Meaning.{Grows}
use Rattle.page_layout.specs.Shape.{ShapeView, total}
use Rattle.mount_reader.specs.Format.{Formats, IsFormatted}
use Rattle.mount_reader.proofs.Formats.{formats_from, formatted_from}
use Rattle.mount_reader.proofs.formatting.format.Goals as goal

pub returns-in-Err-lay_out-clause-failed : goal.returns-in-Err-lay_out-clause-failed
returns-in-Err-lay_out-clause-failed g c = λ _.
    let d = g.D.Device.seen c.args.device.now in
    let mid = g.D.Device.seen c.room.new.self in
    let new = g.D.Device.seen c.lay_out.new.device in
    let grown : Grows (total c.in-Ok.shape) d mid = subst (λ (n : ℕ). Grows n d mid) c.total.ensures c.in-Ok-room.ensures.grown in
    inr (subst (λ (shape : ShapeView). Formats shape d new) c.in-Ok.ensures.shape (formats_from c.in-Ok.shape c.lay_out.result d mid new grown c.lay_out.ensures.writes c.lay_out.ensures.lays_out))

pub returns-in-Ok-lay_out-clause-done : goal.returns-in-Ok-lay_out-clause-done
returns-in-Ok-lay_out-clause-done g c = λ _.
    let d = g.D.Device.seen c.args.device.now in
    let mid = g.D.Device.seen c.room.new.self in
    let new = g.D.Device.seen c.lay_out.new.device in
    let grown : Grows (total c.in-Ok.shape) d mid = subst (λ (n : ℕ). Grows n d mid) c.total.ensures c.in-Ok-room.ensures.grown in
    subst (λ (shape : ShapeView). IsFormatted shape d new) c.in-Ok.ensures.shape (formatted_from c.in-Ok.shape c.lay_out.result d mid new grown c.lay_out.ensures.writes c.lay_out.ensures.lays_out c.in-Ok-lay_out.is)
