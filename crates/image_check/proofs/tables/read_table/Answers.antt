use Rattle.std.proofs.Common.{◌≡◌, Some, sym, subst}
use Rattle.page_device.specs.Block.{Block}
use Rattle.page_device.specs.Disk.{newest}
use Rattle.page_layout.specs.Tables.{page_of}
use Rattle.page_layout.specs.Entries.{entries_of, IsEntry, IsFirstFault}
use Rattle.image_check.proofs.Malformed.{damaged_here}
use Rattle.image_check.proofs.tables.read_table.Goals as goal

pub returns-in-Some-clause-cause : goal.returns-in-Some-clause-cause
returns-in-Some-clause-cause g c = λ honest tells has told below.
    let d0 = g.D.Device.seen c.args.device.now in
    let k = c.args.k in
    let image = newest d0.state in
    let read : page_of image k ≡ c.in-Ok.page = c.in-Ok.ensures.read honest tells in
    damaged_here c.args.shape.now image k c.in-Some.entry has told below c.requires.table
    (λ t is. subst (λ (b : Block). IsFirstFault (IsEntry t c.args.shape.now k b) (entries_of t) (Some c.in-Some.entry)) (sym read) (c.in-Some.ensures t is))
