-- How many pages a check reads.
use Rattle.std.specs.Prelude.{◌≡◌, ℕ, ◌+◌, ◌-◌, ◌/◌, ◌<◌, ◌≤◌, ◌^◌, true, is_some, List, Option}
use Rattle.page_device.specs.Block.{Block}
use Rattle.page_device.specs.Counts.{raised}
use Rattle.page_device.specs.Meaning.{Meaning}
use Rattle.page_layout.specs.Shape.{first_data_page, print_place}
use Rattle.page_layout.specs.Tables.{page_of, shape_of, print_of, print_entry_of}
use Rattle.array_model.specs.Counting.{count_below}
use Rattle.image_reader.specs.Looked.{Reads}
use Rattle.image_check.specs.declared.verdict.Stop.{Stop}
use Rattle.image_check.specs.declared.verdict.Stop.TheVariants.{Device, Told}
use Rattle.image_check.specs.declared.verdict.Verdict.{Verdict}
use Rattle.image_check.specs.declared.verdict.Verdict.TheVariants.{Sound, Damaged, LowCount, WrongPrint, PrintOnZero}

-- how many of the first so many data pages have a print
abbrev pub printed : List Block → ℕ → ℕ
printed image n = count_below (λ k. is_some (print_of image (k + 1))) n

-- page 0 and the table pages once each, up to the first malformed entry; and where no entry is malformed and no count is low,
-- each data page that has a print once, up to the first wrong one
abbrev pub reads_of : Verdict → List Block → ℕ
reads_of (Damaged damage) image = damage.page + 1
reads_of (LowCount page stored named) image = first_data_page (shape_of image)
reads_of (WrongPrint page) image = first_data_page (shape_of image) + printed image page
reads_of (PrintOnZero page) image = first_data_page (shape_of image) + printed image (shape_of image).pages
reads_of (Sound waste) image = first_data_page (shape_of image) + printed image (shape_of image).pages

-- at most so many reads were made, where they are told
pub record AtMost (most : ℕ) (old new : Meaning) : Type 0 where
  pub counted : old.tells_reads ≡ true → old.reads < 2 ^ 64 → (old.reads ≤ new.reads) × (new.reads ≤ raised old.reads most)

-- the print of a data page in the print pages, and how many of the first so many data pages have one
abbrev pub print_in : List Block → ℕ → Option (List ℕ)
print_in prints p = print_entry_of (page_of prints ((p - 1) / 170)) (print_place p)

abbrev pub printed_in : List Block → ℕ → ℕ
printed_in prints n = count_below (λ k. is_some (print_in prints (k + 1))) n

-- what ended the reading of tables is an entry of this page, or a fault
abbrev pub IsDamageOf : ℕ → Verdict → Type 0
IsDamageOf k (Damaged damage) = damage.page ≡ k
IsDamageOf k (LowCount page stored named) = ⊥
IsDamageOf k (WrongPrint page) = ⊥
IsDamageOf k (PrintOnZero page) = ⊥
IsDamageOf k (Sound waste) = ⊥

abbrev pub StopPage : ℕ → Stop → Type 0
StopPage k Device = Unit {0}
StopPage k (Told verdict) = IsDamageOf k verdict

-- the table pages from this one up to the one at which it ended were read once each
pub record StoppedFrom (from : ℕ) (stop : Stop) (old new : Meaning) : Type 0 where
  pub page : ℕ
  pub is : StopPage page stop
  pub at_least : from ≤ page
  pub reads : Reads (page + 1 - from) old new

-- each data page that has a print was read once, up to the first wrong one
abbrev pub Hashed : List Block → ℕ → Verdict → Meaning → Meaning → Type 0
Hashed prints pages (Damaged damage) old new = ⊥
Hashed prints pages (LowCount page stored named) old new = ⊥
Hashed prints pages (WrongPrint page) old new = (page ≤ pages) × Reads (printed_in prints page) old new
Hashed prints pages (PrintOnZero page) old new = Reads (printed_in prints pages) old new
Hashed prints pages (Sound waste) old new = Reads (printed_in prints pages) old new

abbrev pub StoppedHashing : List Block → ℕ → Stop → Meaning → Meaning → Type 0
StoppedHashing prints pages Device old new = Unit {0}
StoppedHashing prints pages (Told verdict) old new = Hashed prints pages verdict old new

-- so many reads in all, of which so many were made before
pub record ReadsAfter (before all : ℕ) (old new : Meaning) : Type 0 where
  pub made : ℕ
  pub all_is : all ≡ before + made
  pub reads : Reads made old new

abbrev pub StopReads : ℕ → Stop → List Block → Meaning → Meaning → Type 0
StopReads before Device image old new = Unit {0}
StopReads before (Told verdict) image old new = ReadsAfter before (reads_of verdict image) old new
