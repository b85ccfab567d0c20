-- Which table a page serves, when an entry of it is well formed, and what a write of a print leaves.
use Rattle.std.specs.Prelude.{◌≡◌, ◌≢◌, ◌⊎◌, ℕ, ◌+◌, ◌-◌, ◌*◌, ◌<◌, ◌≤◌, ◌==◌, nat_lt, if◌then◌else◌, List, ◌∷◌, replicate, slice_index, Option, Some, None}
use Rattle.page_device.specs.Block.{Block}
use Rattle.page_layout.specs.Numbers.{entry_of}
use Rattle.page_layout.specs.Shape.{ShapeView, first_count_page, first_print_page, first_data_page}
use Rattle.page_layout.specs.Tables.{print_entry_of, IsMapPage, IsCountPage, IsPrintPage, IsPrintEntry, AreZero}
use Rattle.page_layout.specs.declared.shape.Table.{Table}
use Rattle.page_layout.specs.declared.shape.Table.TheVariants.{Map, Count, Print}

-- the table that a page of the device serves: none for the superblock, a data page, or a page behind them
abbrev pub table_at : ShapeView → ℕ → Option Table
table_at shape page =
    (if page == 0 then None else
    (if nat_lt page (first_count_page shape) then Some Map else
    (if nat_lt page (first_print_page shape) then Some Count else
    (if nat_lt page (first_data_page shape) then Some Print else None))))

-- the page of its table, counted from 0, that a page of the device is
abbrev pub page_in_table : Table → ShapeView → ℕ → ℕ
page_in_table Map shape page = page - 1
page_in_table Count shape page = page - first_count_page shape
page_in_table Print shape page = page - first_print_page shape

-- the content is well formed for the place of its page
abbrev pub IsTablePage : Table → ShapeView → ℕ → Block → Type 0
IsTablePage Map shape page content = IsMapPage shape (page_in_table Map shape page) content
IsTablePage Count shape page content = IsCountPage shape (page_in_table Count shape page) content
IsTablePage Print shape page content = IsPrintPage shape (page_in_table Print shape page) content

-- an entry of a page whose first `used` entries are used: a number up to a limit, and 0 behind them
pub record IsNumberEntry (used limit : ℕ) (content : Block) (i : ℕ) : Type 0 where
  pub within : i < used → entry_of content i ≤ limit
  pub behind : used ≤ i → entry_of content i ≡ 0

-- the same of a print page, whose last 16 bytes count as the entry 170
pub record IsPrintPlace (used : ℕ) (content : Block) (i : ℕ) : Type 0 where
  pub within : i < 170 → i < used → IsPrintEntry content i
  pub behind : i < 170 → used ≤ i → AreZero content (24 * i) (24 * i + 24)
  pub tail : i ≡ 170 → AreZero content 4080 4096

-- the entry of a page of the device is well formed
abbrev pub IsEntry : Table → ShapeView → ℕ → Block → ℕ → Type 0
IsEntry Map shape page = IsNumberEntry (shape.blocks - 1024 * page_in_table Map shape page) shape.pages
IsEntry Count shape page = IsNumberEntry (shape.pages - 1024 * page_in_table Count shape page) 2147483647
IsEntry Print shape page = IsPrintPlace (shape.pages - 170 * page_in_table Print shape page)

-- how many entries are looked at
abbrev pub entries_of : Table → ℕ
entries_of Map = 1024
entries_of Count = 1024
entries_of Print = 171

-- the first malformed one of so many entries, and none where each is well formed
abbrev pub IsFirstFault : (ℕ → Type 0) → ℕ → Option ℕ → Type 0
IsFirstFault IsGood entries None = (i : ℕ) → i < entries → IsGood i
IsFirstFault IsGood entries (Some i) = (i < entries) × (¬ IsGood i) × ((j : ℕ) → j < i → IsGood j)

-- the 24 bytes of a print entry
abbrev pub print_bytes : Option (List ℕ) → List ℕ
print_bytes None = replicate 24 0
print_bytes (Some print) = 1 ∷ 0 ∷ 0 ∷ 0 ∷ print

-- One print entry is set, well formed; every other entry stays, and every other byte of the page. Where the entry is that of
-- a data page, a well-formed page stays so.
pub record SetsPrint (old : List ℕ) (i : ℕ) (print : Option (List ℕ)) (new : List ℕ) : Type 0 where
  pub entry : print_entry_of new i ≡ print
  pub well_formed : IsPrintEntry new i
  pub others : (j : ℕ) → j ≢ i → print_entry_of new j ≡ print_entry_of old j
  pub bytes : (k : ℕ) → (k < 24 * i) ⊎ (24 * i + 24 ≤ k) → slice_index new k ≡ slice_index old k
  pub formed : (shape : ShapeView) (k : ℕ) → 170 * k + i < shape.pages → IsPrintPage shape k old → IsPrintPage shape k new
