-- What each verdict means of an image.
use Rattle.std.specs.Prelude.{◌≡◌, ◌⊎◌, ℕ, ◌+◌, ◌<◌, ◌≤◌, ◌^◌, List, Some, IsSome}
use Rattle.page_device.specs.Block.{Block}
use Rattle.page_device.specs.Meaning.{Meaning}
use Rattle.page_device.specs.declared.error.Damage.{Damage}
use Rattle.page_layout.specs.Tables.{shape_of, HasShape, IsWellFormed, count_of, print_of, data_of}
use Rattle.page_layout.specs.Fingerprint.{fingerprint_of}
use Rattle.array_model.specs.Images.{EachPage, IsSound, names, waste_of}
use Rattle.image_reader.specs.Looked.{Holds}
use Rattle.image_reader.specs.Formed.{IsFormed}
use Rattle.image_check.specs.declared.verdict.CheckError.{CheckError}
use Rattle.image_check.specs.declared.verdict.CheckError.TheVariants as error
use Rattle.image_check.specs.declared.verdict.Verdict.{Verdict}
use Rattle.image_check.specs.declared.verdict.Verdict.TheVariants.{Sound, Damaged, LowCount, WrongPrint, PrintOnZero}

-- what is asked of a data page: its count is not below the number of blocks that name it, its print is that of its content, and
-- where it has a print it is counted
abbrev pub IsCovered : List Block → ℕ → Type 0
IsCovered image p = names image p ≤ count_of image p

abbrev pub HasTruePrint : List Block → ℕ → Type 0
HasTruePrint image p = (f : List ℕ) → print_of image p ≡ Some f → f ≡ fingerprint_of (shape_of image).version (data_of image p)

abbrev pub IsBacked : List Block → ℕ → Type 0
IsBacked image p = IsSome (print_of image p) → 1 ≤ count_of image p

-- the first data page of which this does not hold
pub record IsFirstPage (image : List Block) (Asked : ℕ → Type 0) (page : ℕ) : Type 0 where
  pub one : 1 ≤ page
  pub within : page ≤ (shape_of image).pages
  pub fault : ¬ Asked page
  pub first : (q : ℕ) → 1 ≤ q → q < page → Asked q

-- the first malformed entry, in rising pages and in one page in rising entries
pub record IsFirstMalformed (image : List Block) (damage : Damage) : Type 0 where
  pub fault : ¬ IsFormed (shape_of image) image damage.page damage.entry
  pub first : (k i : ℕ) → (k < damage.page) ⊎ ((k ≡ damage.page) × (i < damage.entry)) → IsFormed (shape_of image) image k i

-- the first low count of an image of well-formed tables
pub record IsLowCount (image : List Block) (page stored named : ℕ) : Type 0 where
  pub shape : HasShape image
  pub well_formed : IsWellFormed image
  pub low : IsFirstPage image (IsCovered image) page
  pub stored_is : stored ≡ count_of image page
  pub named_is : named ≡ names image page

-- the first wrong print, where no count is low
pub record IsWrongPrint (image : List Block) (page : ℕ) : Type 0 where
  pub shape : HasShape image
  pub well_formed : IsWellFormed image
  pub names_counted : EachPage image (IsCovered image)
  pub wrong : IsFirstPage image (HasTruePrint image) page

-- the first print on a data page that nothing counts, where no count is low and each print is true
pub record IsPrintOnZero (image : List Block) (page : ℕ) : Type 0 where
  pub shape : HasShape image
  pub well_formed : IsWellFormed image
  pub names_counted : EachPage image (IsCovered image)
  pub prints_true : EachPage image (HasTruePrint image)
  pub bare : IsFirstPage image (IsBacked image) page

abbrev pub IsVerdict : Verdict → List Block → Type 0
IsVerdict (Sound waste) image = IsSound image × (waste ≡ waste_of image)
IsVerdict (Damaged damage) image = HasShape image × IsFirstMalformed image damage
IsVerdict (LowCount page stored named) image = IsLowCount image page stored named
IsVerdict (WrongPrint page) image = IsWrongPrint image page
IsVerdict (PrintOnZero page) image = IsPrintOnZero image page

-- why there is no verdict
abbrev pub CheckCause : CheckError → Meaning → Meaning → Type 0
CheckCause error.Device old new = old.faults + 1 < 2 ^ 64 → old.faults < new.faults
CheckCause error.NotFormatted old new = Holds (λ image. ¬ HasShape image) old
CheckCause error.NoMemory old new = Unit {0}

-- an image of another verdict than sound is not sound
abbrev pub IsUnsound : Verdict → Meaning → Type 0
IsUnsound (Sound waste) old = Unit {0}
IsUnsound (Damaged damage) old = Holds (λ image. ¬ IsSound image) old
IsUnsound (LowCount page stored named) old = Holds (λ image. ¬ IsSound image) old
IsUnsound (WrongPrint page) old = Holds (λ image. ¬ IsSound image) old
IsUnsound (PrintOnZero page) old = Holds (λ image. ¬ IsSound image) old
