use Rattle.std.proofs.Common.{◌≡◌, List, Option, IfSome, subst}
use Rattle.page_device.specs.Disk.{newest}
use Rattle.page_device.specs.Block.{Block}
use Rattle.page_layout.specs.Shape.{ShapeView}
use Rattle.page_layout.specs.Tables.{shape_of, HasShape}
use Rattle.image_reader.specs.Looked.{Holds, Reads, TellsShape}
use Rattle.image_reader.proofs.Looking.{held_before}
use Rattle.image_check.specs.declared.verdict.Stop.{Stop}
use Rattle.image_check.specs.Verdicts.{IsVerdict}
use Rattle.image_check.specs.Stops.{StopCause, NothingKnown}
use Rattle.image_check.specs.Reads.{ReadsAfter, StopReads, reads_of}
use Rattle.image_check.proofs.Reading.{with_super}
use Rattle.image_check.proofs.Judging.{unsound}
use Rattle.image_check.proofs.checking.check.Goals as goal

pub returns-in-Ok-look_over-clause-unsound : goal.returns-in-Ok-look_over-clause-unsound
returns-in-Ok-look_over-clause-unsound g c =
    let d0 = g.D.Device.seen c.args.device.now in
    let d1 = g.D.Device.seen c.find_shape.new.device in
    let found = c.in-Ok-Some.ensures in
    let shape = c.in-Ok-Some.shape in
    let has : Holds HasShape d0 = subst (λ (o : Option ShapeView). IfSome o (λ _. Holds HasShape d0)) c.in-Ok-Some.field-0-is found.has_shape in
    let tells_it : Holds (TellsShape shape) d0 = subst (λ (o : Option ShapeView). IfSome o (λ s. Holds (TellsShape s) d0)) c.in-Ok-Some.field-0-is found.shape in
    let verdict = c.in-Ok-look_over.verdict in
    unsound verdict d0 (λ honest tells. held_before (λ (i : List Block). HasShape i → shape_of i ≡ shape → IsVerdict verdict i) d0 d1 found.looked c.in-Ok-look_over.ensures.verdict honest tells (has honest tells) (tells_it honest tells).is)

pub returns-in-Err-Told-clause-unsound : goal.returns-in-Err-Told-clause-unsound
returns-in-Err-Told-clause-unsound g c =
    let d0 = g.D.Device.seen c.args.device.now in
    let d1 = g.D.Device.seen c.find_shape.new.device in
    let d2 = g.D.Device.seen c.look_over.new.device in
    let found = c.in-Ok-Some.ensures in
    let shape = c.in-Ok-Some.shape in
    let has : Holds HasShape d0 = subst (λ (o : Option ShapeView). IfSome o (λ _. Holds HasShape d0)) c.in-Ok-Some.field-0-is found.has_shape in
    let tells_it : Holds (TellsShape shape) d0 = subst (λ (o : Option ShapeView). IfSome o (λ s. Holds (TellsShape s) d0)) c.in-Ok-Some.field-0-is found.shape in
    let verdict = c.in-Err-Told.verdict in
    let told = subst (λ (s : Stop). StopCause shape NothingKnown s d1 d2) c.in-Err-Told.field-0-is c.in-Err-Told.ensures.cause in
    unsound verdict d0 (λ honest tells. held_before (λ (i : List Block). HasShape i → shape_of i ≡ shape → NothingKnown i → IsVerdict verdict i) d0 d1 found.looked told honest tells (has honest tells) (tells_it honest tells).is tt)

pub returns-in-Ok-look_over-clause-reads : goal.returns-in-Ok-look_over-clause-reads
returns-in-Ok-look_over-clause-reads g c = λ honest tells.
    let d0 = g.D.Device.seen c.args.device.now in
    let d1 = g.D.Device.seen c.find_shape.new.device in
    let d2 = g.D.Device.seen c.look_over.new.device in
    let found = c.in-Ok-Some.ensures in
    let shape = c.in-Ok-Some.shape in
    let verdict = c.in-Ok-look_over.verdict in
    let one : Reads 1 d0 d1 = subst (λ (o : Option ShapeView). IfSome o (λ _. Reads 1 d0 d1)) c.in-Ok-Some.field-0-is found.one in
    let tells_it : Holds (TellsShape shape) d0 = subst (λ (o : Option ShapeView). IfSome o (λ s. Holds (TellsShape s) d0)) c.in-Ok-Some.field-0-is found.shape in
    with_super (reads_of verdict (newest d0.state)) d0 d1 d2 found.looked.kind one
    (held_before (λ (i : List Block). shape_of i ≡ shape → ReadsAfter 1 (reads_of verdict i) d1 d2) d0 d1 found.looked c.in-Ok-look_over.ensures.reads honest tells (tells_it honest tells).is)

pub returns-in-Err-Told-clause-reads : goal.returns-in-Err-Told-clause-reads
returns-in-Err-Told-clause-reads g c = λ honest tells.
    let d0 = g.D.Device.seen c.args.device.now in
    let d1 = g.D.Device.seen c.find_shape.new.device in
    let d2 = g.D.Device.seen c.look_over.new.device in
    let found = c.in-Ok-Some.ensures in
    let shape = c.in-Ok-Some.shape in
    let verdict = c.in-Err-Told.verdict in
    let one : Reads 1 d0 d1 = subst (λ (o : Option ShapeView). IfSome o (λ _. Reads 1 d0 d1)) c.in-Ok-Some.field-0-is found.one in
    let tells_it : Holds (TellsShape shape) d0 = subst (λ (o : Option ShapeView). IfSome o (λ s. Holds (TellsShape s) d0)) c.in-Ok-Some.field-0-is found.shape in
    let told = subst (λ (s : Stop). Holds (λ i. shape_of i ≡ shape → StopReads 1 s i d1 d2) d1) c.in-Err-Told.field-0-is c.in-Err-Told.ensures.stopped in
    with_super (reads_of verdict (newest d0.state)) d0 d1 d2 found.looked.kind one
    (held_before (λ (i : List Block). shape_of i ≡ shape → ReadsAfter 1 (reads_of verdict i) d1 d2) d0 d1 found.looked told honest tells (tells_it honest tells).is)
