-- What is known of an image once so many of its pages, blocks or data pages were looked at.
use Rattle.std.specs.Prelude.{◌≡◌, ℕ, ◌+◌, ◌<◌, ◌≤◌, ◌==◌, nat_lt, ◌&&◌, if◌then◌else◌, Bool, List, Option, Some, None}
use Rattle.page_device.specs.Block.{Block}
use Rattle.page_layout.specs.declared.shape.Table.{Table}
use Rattle.page_layout.specs.Shape.{ShapeView, print_pages, first_print_page, first_data_page}
use Rattle.page_layout.specs.Tables.{page_of, count_of}
use Rattle.page_layout.specs.Entries.{table_at, entries_of, IsEntry}
use Rattle.array_model.specs.Images.{names}
use Rattle.image_reader.specs.Formed.{IsFormed}
use Rattle.image_reader.specs.Tallies.{tally_of}
use Rattle.image_check.specs.declared.counts.Low.{Low}
use Rattle.image_check.specs.Verdicts.{IsCovered, HasTruePrint, IsBacked}

-- each entry of the pages before this one is well formed, and each entry of one page
abbrev pub FormedBelow : ℕ → ShapeView → List Block → Type 0
FormedBelow k shape image = (q i : ℕ) → q < k → IsFormed shape image q i

abbrev pub IsFormedPage : ShapeView → ℕ → Block → Type 0
IsFormedPage shape k page = (t : Table) → table_at shape k ≡ Some t → (i : ℕ) → i < entries_of t → IsEntry t shape k page i

-- the tallies are the names of the image
abbrev pub NamesAre : ℕ → List Block → List ℕ → Type 0
NamesAre pages image tallies = (p : ℕ) → 1 ≤ p → p ≤ pages → tally_of tallies p ≡ names image p

-- the first low count, after one more was looked at
abbrev pub noted : Option Low → ℕ → ℕ → ℕ → Option Low
noted (Some low) p stored named = Some low
noted None p stored named = (if nat_lt stored named then Some (record { page = p; stored = stored; named = named }) else None)

-- it is the first of the first so many data pages
pub record IsFirstLow (n : ℕ) (image : List Block) (low : Low) : Type 0 where
  pub one : 1 ≤ low.page
  pub within : low.page ≤ n
  pub less : count_of image low.page < names image low.page
  pub stored_is : low.stored ≡ count_of image low.page
  pub named_is : low.named ≡ names image low.page
  pub first : (q : ℕ) → 1 ≤ q → q < low.page → IsCovered image q

abbrev pub LowTo : ℕ → List Block → Option Low → Type 0
LowTo n image None = (p : ℕ) → 1 ≤ p → p ≤ n → IsCovered image p
LowTo n image (Some low) = IsFirstLow n image low

-- the first so many tallies are counts, the others still names, and this is the first low count
pub record CountsTo (pages n : ℕ) (image : List Block) (tallies : List ℕ) (low : Option Low) : Type 0 where
  pub counted : (p : ℕ) → 1 ≤ p → p ≤ n → tally_of tallies p ≡ count_of image p
  pub named : (p : ℕ) → n < p → p ≤ pages → tally_of tallies p ≡ names image p
  pub lowest : LowTo n image low

-- all that the fingerprints need: the tables are well formed, these are the counts, and none is low
pub record IsReady (shape : ShapeView) (counts : List ℕ) (image : List Block) : Type 0 where
  pub formed : FormedBelow (first_data_page shape) shape image
  pub counted : (p : ℕ) → 1 ≤ p → p ≤ shape.pages → tally_of counts p ≡ count_of image p
  pub covered : (p : ℕ) → 1 ≤ p → p ≤ shape.pages → IsCovered image p

-- the print pages of the image
abbrev pub ArePrints : ShapeView → List Block → List Block → Type 0
ArePrints shape prints image = (j : ℕ) → j < print_pages shape → page_of prints j ≡ page_of image (first_print_page shape + j)

-- the first print on a data page that nothing counts, after one more was looked at
abbrev pub noted_zero : Option ℕ → ℕ → Bool → ℕ → Option ℕ
noted_zero (Some bare) p printed count = Some bare
noted_zero None p printed count = (if printed && (count == 0) then Some p else None)

abbrev pub ZeroTo : ℕ → List Block → Option ℕ → Type 0
ZeroTo n image None = (p : ℕ) → 1 ≤ p → p ≤ n → IsBacked image p
ZeroTo n image (Some bare) = (1 ≤ bare) × (bare ≤ n) × (¬ IsBacked image bare) × ((q : ℕ) → 1 ≤ q → q < bare → IsBacked image q)

-- the first so many data pages have true prints, and this is the first print on one that nothing counts
pub record PrintsTo (n : ℕ) (image : List Block) (first : Option ℕ) : Type 0 where
  pub true_to : (p : ℕ) → 1 ≤ p → p ≤ n → HasTruePrint image p
  pub zero_to : ZeroTo n image first
