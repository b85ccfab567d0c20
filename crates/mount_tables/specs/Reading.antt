-- What is read of the tables, and why the reading ends.
use Rattle.std.specs.Prelude.{◌≡◌, ℕ, ◌+◌, ◌*◌, ◌<◌, ◌≤◌, List, Option, Some, None, IsSome, min}
use Rattle.page_device.specs.Block.{Block}
use Rattle.page_device.specs.Meaning.{Meaning, FaultRose}
use Rattle.page_layout.specs.Numbers.{entry_of}
use Rattle.page_layout.specs.Shape.{ShapeView, count_page, count_place, print_page, print_place}
use Rattle.page_layout.specs.Tables.{page_of, print_entry_of}
use Rattle.finger_table.specs.Order.{print_in}
use Rattle.image_reader.specs.Looked.{Holds}
use Rattle.image_reader.specs.Tallies.{tally_of}
use Rattle.mount_tables.specs.declared.error.MountError.{MountError}
use Rattle.mount_tables.specs.declared.error.MountError.TheVariants.{Device, NotFormatted, Damaged, NoMemory}
use Rattle.mount_tables.specs.Faults.{IsFitEntry, IsFirstFrom, names_in}

-- the tallies are the numbers of names
abbrev pub AreTallies : ShapeView → List ℕ → List Block → Type 0
AreTallies shape tallies image = (p : ℕ) → 1 ≤ p → p ≤ shape.pages → tally_of tallies p ≡ names_in shape image p

-- those of the data pages behind the first `n`
abbrev pub AreTalliesBehind : ℕ → ShapeView → List ℕ → List Block → Type 0
AreTalliesBehind n shape tallies image = (p : ℕ) → n < p → p ≤ shape.pages → tally_of tallies p ≡ names_in shape image p

-- the numbers of the first `n` data pages are their counts
abbrev pub AreCountsUpTo : ℕ → ShapeView → List ℕ → List Block → Type 0
AreCountsUpTo n shape counts image = (p : ℕ) → 1 ≤ p → p ≤ n → p ≤ shape.pages → tally_of counts p ≡ entry_of (page_of image (count_page shape p)) (count_place p)

abbrev pub AreCounts : ShapeView → List ℕ → List Block → Type 0
AreCounts shape counts image = AreCountsUpTo shape.pages shape counts image

-- the table has the prints of the first `n` data pages
abbrev pub ArePrintsUpTo : ℕ → ShapeView → List (Option (List ℕ)) → List Block → Type 0
ArePrintsUpTo n shape table image = (p : ℕ) → 1 ≤ p → p ≤ n → p ≤ shape.pages → print_in table p ≡ print_entry_of (page_of image (print_page shape p)) (print_place p)

abbrev pub ArePrints : ShapeView → List (Option (List ℕ)) → List Block → Type 0
ArePrints shape table image = ArePrintsUpTo shape.pages shape table image

-- an entry of the count page `j`, counted from 0, is not below its tally
abbrev pub IsEnough : ShapeView → List ℕ → ℕ → Block → ℕ → Type 0
IsEnough shape tallies j page i = 1024 * j + i < shape.pages → tally_of tallies (1024 * j + i + 1) ≤ entry_of page i

-- a print of the print page `j`, counted from 0, stands on a page that is counted
abbrev pub IsBacked : ShapeView → List ℕ → ℕ → Block → ℕ → Type 0
IsBacked shape counts j page i = i < 170 → 170 * j + i < shape.pages → IsSome (print_entry_of page i) → 1 ≤ tally_of counts (170 * j + i + 1)

-- the lower of two places
abbrev pub lower_of : Option ℕ → Option ℕ → Option ℕ
lower_of None b = b
lower_of (Some a) None = Some a
lower_of (Some a) (Some b) = Some (min a b)

-- each entry of these pages is fit
abbrev pub FitBetween : ℕ → ℕ → ShapeView → List Block → Type 0
FitBetween from to shape image = (k i : ℕ) → from ≤ k → k < to → IsFitEntry shape image k i

-- the same of an image of which this is known
abbrev pub ReadFit : ℕ → ℕ → ShapeView → (List Block → Type 0) → Meaning → Type 0
ReadFit from to shape known d = Holds (λ image. known image → FitBetween from to shape image) d

-- why reading tables from a page on ends, where what was read before is known of the image
abbrev pub ReadCause : ℕ → ShapeView → (List Block → Type 0) → MountError → Meaning → Meaning → Type 0
ReadCause from shape known Device old new = FaultRose old new
ReadCause from shape known NotFormatted old new = ⊥
ReadCause from shape known (Damaged damage) old new = Holds (λ image. known image → IsFirstFrom from shape image damage) old
ReadCause from shape known NoMemory old new = Unit {0}
