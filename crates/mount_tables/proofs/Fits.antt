-- An image whose entries are fit is fit, and why one does not mount.
use Rattle.std.proofs.Common.{◌≡◌, ⊎_elim, ℕ, ◌+◌, ◌≤◌, ◌^◌, List, refl, sym, subst, arith}
use Rattle.std.proofs.lemmas.Bool.{cases_lt}
use Rattle.page_device.specs.Block.{Block}
use Rattle.page_device.specs.Disk.{newest}
use Rattle.page_device.specs.Meaning.{Meaning, FaultRose}
use Rattle.page_device.specs.declared.error.Damage.{Damage}
use Rattle.page_layout.specs.Shape.{ShapeView, first_data_page, count_page, count_place, print_page, print_place}
use Rattle.page_layout.specs.Tables.{shape_of, HasShape}
use Rattle.array_model.specs.Images.{IsFit}
use Rattle.page_device.specs.Meaning.{FaultRose}
use Rattle.mount_tables.specs.declared.error.MountError.{MountError}
use Rattle.mount_tables.specs.declared.error.MountError.TheVariants.{Device, NotFormatted, Damaged, NoMemory}
use Rattle.image_reader.specs.Looked.{Looked, Holds, TellsShape}
use Rattle.mount_tables.specs.Faults.{IsFitEntry, IsFirstFrom, IsFirstDamage}
use Rattle.mount_tables.specs.Reading.{FitBetween, ReadCause}
use Rattle.mount_tables.specs.Mount.{MountCause}
use Rattle.image_reader.proofs.Looking.{held_before}
use Rattle.image_reader.proofs.WellFormed.{formed}
use Rattle.mount_tables.proofs.Entries.{super_fit}

-- the pages of an image, piece by piece
pub fit_then : (a b c : ℕ) (shape : ShapeView) (image : List Block) → FitBetween a b shape image → FitBetween b c shape image → FitBetween a c shape image
fit_then a b c shape image first next k i low high = ⊎_elim (λ lt. first k i low lt) (λ le. next k i le high) (cases_lt k b)

pub fit_super : (shape : ShapeView) (image : List Block) → FitBetween 0 1 shape image
fit_super shape image k i low high = let same : 0 ≡ k = omega (arith, high) in subst (λ (n : ℕ). IsFitEntry shape image n i) same (super_fit shape image i)

module _ (image : List Block) (has : HasShape image) (fit : FitBetween 0 (first_data_page (shape_of image)) (shape_of image) image) where
  abbrev shape : ShapeView
  shape = shape_of image

  -- an image is fit where each entry is
  pub fit_image : IsFit image
  fit_image = record {
    shape = has;
    well_formed = formed image (λ k i lt. (fit k i (omega arith) lt).well_formed);
    names_counted = λ p one le. (fit (count_page shape p) (count_place p) (omega arith) (omega (arith, one, le))).named p one le refl refl;
    prints_counted = λ p one le some. (fit (print_page shape p) (print_place p) (omega arith) (omega (arith, one, le))).printed p one le refl refl some;
    prints_true = tt;
    exact = tt;
    once = tt;
  }

-- the first fault of a rest of the pages is the first of all, where what is before it is fit
first_of_all : (from : ℕ) (s : ShapeView) (image : List Block) (damage : Damage) → TellsShape s image → FitBetween 0 from s image → IsFirstFrom from s image damage → IsFirstDamage image damage
first_of_all from s image damage told before first = subst (λ (v : ShapeView). IsFirstFrom 0 v image damage) (sym told.is) (record {
  fault = first.fault;
  first = λ k i low order. ⊎_elim (λ lt. before k i low lt) (λ le. first.first k i le order) (cases_lt k from);
})

module _ (from : ℕ) (shape : ShapeView) (known : List Block → Type 0) (d0 d1 e : Meaning) (looked : Looked d0 d1) (never_falls : d0.faults ≤ d1.faults) (then_neither : d1.faults ≤ e.faults)
    (has : Holds HasShape d0) (told : Holds (TellsShape shape) d0) (is_known : Holds known d0) (before : Holds (FitBetween 0 from shape) d0) where
  -- a fault of the device is one since the beginning
  pub rose_before : FaultRose d1 e → FaultRose d0 e
  rose_before rose few = ⊎_elim (λ lt. omega (arith, never_falls, rose lt)) (λ le. omega (arith, few, le, then_neither)) (cases_lt (d1.faults + 1) (2 ^ 64))

  -- why reading a part of the tables ends is why the image does not mount
  pub mount_cause : (why : MountError) → ReadCause from shape known why d1 e → MountCause why d0 e
  mount_cause Device h = rose_before h
  mount_cause NotFormatted h = absurd h
  mount_cause (Damaged damage) h = λ honest tells. (
    has honest tells,
    first_of_all from shape (newest d0.state) damage (told honest tells) (before honest tells)
        (held_before (λ image. known image → IsFirstFrom from shape image damage) d0 d1 looked h honest tells (is_known honest tells)),
  )
  mount_cause NoMemory h = tt
