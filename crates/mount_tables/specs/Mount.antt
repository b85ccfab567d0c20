-- What mounting finds.
use Rattle.page_device.specs.Meaning.{Meaning, FaultRose}
use Rattle.page_layout.specs.Tables.{HasShape}
use Rattle.array_model.specs.Images.{IsFit}
use Rattle.mount_tables.specs.declared.error.MountError.{MountError}
use Rattle.mount_tables.specs.declared.error.MountError.TheVariants.{Device, NotFormatted, Damaged, NoMemory}
use Rattle.image_reader.specs.Looked.{Holds}
use Rattle.mount_tables.specs.Faults.{IsFirstDamage}

-- why an image does not mount
abbrev pub MountCause : MountError → Meaning → Meaning → Type 0
MountCause Device old new = FaultRose old new
MountCause NotFormatted old new = Holds (λ image. ¬ HasShape image) old
MountCause (Damaged damage) old new = Holds (λ image. HasShape image × IsFirstDamage image damage) old
MountCause NoMemory old new = Unit {0}

-- an image that is refused is not fit
abbrev pub IsRefusal : MountError → Meaning → Type 0
IsRefusal Device old = Unit {0}
IsRefusal NotFormatted old = Holds (λ image. ¬ IsFit image) old
IsRefusal (Damaged damage) old = Holds (λ image. ¬ IsFit image) old
IsRefusal NoMemory old = Unit {0}
