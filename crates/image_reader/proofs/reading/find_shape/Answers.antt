use Rattle.std.proofs.Common.{◌≡◌, ◌≤◌, List, length, sym, ◌∙◌, ap, subst, arith}
use Rattle.page_device.specs.Block.{Block}
use Rattle.page_device.specs.Disk.{newest}
use Rattle.page_device.specs.Possible.{length-overlay}
use Rattle.page_layout.specs.Shape.{ShapeView, IsSuperblock, told_shape, total}
use Rattle.page_layout.specs.Tables.{page_of}
use Rattle.image_reader.proofs.Looking.{looked_room, held_before}
use Rattle.image_reader.proofs.reading.find_shape.Goals as goal

pub returns-then-pages-eq0-clause-none : goal.returns-then-pages-eq0-clause-none
returns-then-pages-eq0-clause-none g c = λ honest tells shape.
    let d = g.D.Device.seen c.args.device.now in
    omega (arith, shape.enough, shape.superblock.valid.a_page, length-overlay d.state.fixed d.state.since, g.met.D.Device.counts c.args.device.now tells, c.pages.ensures, c.if-pages-eq0.true, c.in-Ok.ensures.grown.never_fewer)

pub returns-then-pages-total-clause-none : goal.returns-then-pages-total-clause-none
returns-then-pages-total-clause-none g c = λ honest tells shape.
    let d = g.D.Device.seen c.args.device.now in
    let e = g.D.Device.seen c.room.new.self in
    let image = newest d.state in
    let looked = looked_room d e c.in-Ok.ensures.grown in
    let read = held_before (λ (i : List Block). page_of i 0 ≡ c.in-Ok-read_page.page) d e looked c.in-Ok-read_page.ensures.read honest tells in
    let told : told_shape (page_of image 0) ≡ c.in-Ok-read_super.shape = ap told_shape read ∙ sym c.in-Ok-read_super.ensures.shape in
    let enough : total c.in-Ok-read_super.shape ≤ length image = subst (λ (s : ShapeView). total s ≤ length image) told shape.enough in
    omega (arith, enough, length-overlay d.state.fixed d.state.since, g.met.D.Device.counts c.args.device.now tells, looked.pages tells, c.in-Ok-read_page.ensures.pages, c.pages-2.ensures, c.total.ensures, c.if-pages-total.true)

pub returns-clause-has_shape : goal.returns-clause-has_shape
returns-clause-has_shape g c = λ honest tells.
    let d = g.D.Device.seen c.args.device.now in
    let e = g.D.Device.seen c.room.new.self in
    let image = newest d.state in
    let looked = looked_room d e c.in-Ok.ensures.grown in
    let read = held_before (λ (i : List Block). page_of i 0 ≡ c.in-Ok-read_page.page) d e looked c.in-Ok-read_page.ensures.read honest tells in
    let told : told_shape (page_of image 0) ≡ c.in-Ok-read_super.shape = ap told_shape read ∙ sym c.in-Ok-read_super.ensures.shape in
    let enough : total c.in-Ok-read_super.shape ≤ length image = omega (arith, length-overlay d.state.fixed d.state.since, g.met.D.Device.counts c.args.device.now tells, looked.pages tells, c.in-Ok-read_page.ensures.pages, c.pages-2.ensures, c.total.ensures, c.if-pages-total.false) in
    record { superblock = subst IsSuperblock (sym read) c.in-Ok-read_super.ensures.superblock; enough = subst (λ (s : ShapeView). total s ≤ length image) (sym told) enough }
