-- Every entry of a fit image is fit, so an image with a first damage is not.
use Rattle.std.proofs.Common.{ℕ, ◌≤◌, List, IsSome, sym, subst}
use Rattle.page_device.specs.Block.{Block}
use Rattle.page_device.specs.declared.error.Damage.{Damage}
use Rattle.page_layout.specs.Numbers.{entry_of}
use Rattle.page_layout.specs.Shape.{ShapeView, count_place, print_place}
use Rattle.page_layout.specs.Tables.{page_of, shape_of, print_entry_of, HasShape}
use Rattle.array_model.specs.Images.{IsFit}
use Rattle.page_device.specs.Disk.{newest}
use Rattle.page_device.specs.Meaning.{Meaning}
use Rattle.mount_tables.specs.declared.error.MountError.{MountError}
use Rattle.mount_tables.specs.declared.error.MountError.TheVariants.{Device, NotFormatted, Damaged, NoMemory}
use Rattle.mount_tables.specs.Mount.{MountCause, IsRefusal}
use Rattle.mount_tables.specs.Faults.{IsFitEntry, IsFirstDamage, names_in}
use Rattle.image_reader.proofs.WellFormed.{formed_entry}

module _ (image : List Block) (fit : IsFit image) where
  abbrev shape : ShapeView
  shape = shape_of image

  -- each entry is fit
  pub fit_entry : (k i : ℕ) → IsFitEntry shape image k i
  fit_entry k i = record {
    well_formed = formed_entry image fit.well_formed k i;
    named = λ p one le page place. subst (λ (j : ℕ). names_in shape image p ≤ entry_of (page_of image k) j) place
        (subst (λ (n : ℕ). names_in shape image p ≤ entry_of (page_of image n) (count_place p)) page (fit.names_counted p one le));
    printed = λ p one le page place some. fit.prints_counted p one le
        (subst (λ (n : ℕ). IsSome (print_entry_of (page_of image n) (print_place p))) (sym page)
        (subst (λ (j : ℕ). IsSome (print_entry_of (page_of image k) j)) (sym place) some));
  }

-- so an image that is damaged is not fit, and neither is one without a shape
pub damaged_is_not_fit : (image : List Block) (damage : Damage) → IsFirstDamage image damage → IsFit image → ⊥
damaged_is_not_fit image damage first fit = first.fault (fit_entry image fit damage.page damage.entry)

pub shapeless_is_not_fit : (image : List Block) → (HasShape image → ⊥) → IsFit image → ⊥
shapeless_is_not_fit image none fit = none fit.shape

-- an image that does not mount is not fit
pub refusal : (why : MountError) (d e : Meaning) → MountCause why d e → IsRefusal why d
refusal Device d e h = tt
refusal NotFormatted d e h = λ honest tells. shapeless_is_not_fit (newest d.state) (h honest tells)
refusal (Damaged damage) d e h = λ honest tells. damaged_is_not_fit (newest d.state) damage (h honest tells).1
refusal NoMemory d e h = tt
