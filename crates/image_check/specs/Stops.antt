-- Why looking over an image ends early.
use Rattle.std.specs.Prelude.{◌≡◌, List}
use Rattle.page_device.specs.Block.{Block}
use Rattle.page_device.specs.Meaning.{Meaning}
use Rattle.page_layout.specs.Shape.{ShapeView}
use Rattle.page_layout.specs.Tables.{shape_of, HasShape}
use Rattle.image_reader.specs.Looked.{Holds}
use Rattle.image_check.specs.declared.verdict.CheckError.TheVariants as error
use Rattle.image_check.specs.declared.verdict.Stop.{Stop}
use Rattle.image_check.specs.declared.verdict.Stop.TheVariants.{Device, Told}
use Rattle.image_check.specs.Verdicts.{IsVerdict, CheckCause}

-- the device counted a fault, or there is a verdict on the image of this shape, of which this was known
abbrev pub StopCause : ShapeView → (List Block → Type 0) → Stop → Meaning → Meaning → Type 0
StopCause shape known Device old new = CheckCause error.Device old new
StopCause shape known (Told verdict) old new = Holds (λ image. HasShape image → shape_of image ≡ shape → known image → IsVerdict verdict image) old

-- nothing was known
abbrev pub NothingKnown : List Block → Type 0
NothingKnown image = Unit {0}
