-- An image as its tables: what the map, the counts and the data pages of a list of pages say.
use Rattle.std.specs.Prelude.{◌≡◌, ℕ, ◌+◌, ◌*◌, ◌≤◌, ◌<◌, ◌==◌, if◌then◌else◌, List, take, drop, length, slice_index, slice_index_or, Option, Some, None}
use Rattle.page_device.specs.Block.{Block, zero_block}
use Rattle.page_layout.specs.Numbers.{entry_of}
use Rattle.page_layout.specs.Shape.{ShapeView, IsSuperblock, told_shape, total, map_pages, count_pages, print_pages, first_count_page, first_print_page, first_data_page, map_page, map_place, count_page, count_place, print_page, print_place, data_page}

-- one page of an image
abbrev pub page_of : List Block → ℕ → Block
page_of image k = slice_index_or image k zero_block

-- the shape that page 0 tells
abbrev pub shape_of : List Block → ShapeView
shape_of image = told_shape (page_of image 0)

-- page 0 is a superblock, and the image has the pages of its shape
pub record HasShape (image : List Block) : Type 0 where
  pub superblock : IsSuperblock (page_of image 0)
  pub enough : total (shape_of image) ≤ length image

-- the data page that a block names, or 0
abbrev pub map_of : List Block → ℕ → ℕ
map_of image block = entry_of (page_of image (map_page block)) (map_place block)

-- the stored count of a data page
abbrev pub count_of : List Block → ℕ → ℕ
count_of image p = entry_of (page_of image (count_page (shape_of image) p)) (count_place p)

-- the content of a data page
abbrev pub data_of : List Block → ℕ → Block
data_of image p = page_of image (data_page (shape_of image) p)

-- the fingerprint in an entry of a print page, where its flag says that there is one
abbrev pub print_entry_of : Block → ℕ → Option (List ℕ)
print_entry_of page i = (if slice_index page (24 * i) == 1 then Some (take 20 (drop (24 * i + 4) page)) else None)

-- the stored fingerprint of a data page, if there is one
abbrev pub print_of : List Block → ℕ → Option (List ℕ)
print_of image p = print_entry_of (page_of image (print_page (shape_of image) p)) (print_place p)

-- the entries of the map page `k`, counted from 0: each names a data page or none, and those behind the last block are 0
pub record IsMapPage (shape : ShapeView) (k : ℕ) (page : Block) : Type 0 where
  pub used : (i : ℕ) → i < 1024 → 1024 * k + i < shape.blocks → entry_of page i ≤ shape.pages
  pub rest : (i : ℕ) → i < 1024 → shape.blocks ≤ 1024 * k + i → entry_of page i ≡ 0

-- the entries of the count page `k`, counted from 0: each is a count, and those behind the last data page are 0
pub record IsCountPage (shape : ShapeView) (k : ℕ) (page : Block) : Type 0 where
  pub used : (i : ℕ) → i < 1024 → 1024 * k + i < shape.pages → entry_of page i ≤ 2147483647
  pub rest : (i : ℕ) → i < 1024 → shape.pages ≤ 1024 * k + i → entry_of page i ≡ 0

-- bytes from a place up to another are zero
abbrev pub AreZero : Block → ℕ → ℕ → Type 0
AreZero page from to = (j : ℕ) → from ≤ j → j < to → slice_index page j ≡ 0

-- an entry of a print page: a flag of 0 or 1, three zero bytes, and 20 bytes that are zero where the flag is 0
pub record IsPrintEntry (page : Block) (i : ℕ) : Type 0 where
  pub flag : slice_index page (24 * i) ≤ 1
  pub padding : AreZero page (24 * i + 1) (24 * i + 4)
  pub none : slice_index page (24 * i) ≡ 0 → AreZero page (24 * i + 4) (24 * i + 24)

-- the entries of the print page `k`, counted from 0; those behind the last data page are zero, and the last 16 bytes
pub record IsPrintPage (shape : ShapeView) (k : ℕ) (page : Block) : Type 0 where
  pub used : (i : ℕ) → i < 170 → 170 * k + i < shape.pages → IsPrintEntry page i
  pub rest : (i : ℕ) → i < 170 → shape.pages ≤ 170 * k + i → AreZero page (24 * i) (24 * i + 24)
  pub tail : AreZero page 4080 4096

-- every table page is well formed
pub record IsWellFormed (image : List Block) : Type 0 where
  pub maps : (k : ℕ) → k < map_pages (shape_of image) → IsMapPage (shape_of image) k (page_of image (1 + k))
  pub counts : (k : ℕ) → k < count_pages (shape_of image) → IsCountPage (shape_of image) k (page_of image (first_count_page (shape_of image) + k))
  pub prints : (k : ℕ) → k < print_pages (shape_of image) → IsPrintPage (shape_of image) k (page_of image (first_print_page (shape_of image) + k))

-- a freshly formatted image: a superblock of version 1, and every table page zero
pub record IsFresh (image : List Block) : Type 0 where
  pub shape : HasShape image
  pub version : (shape_of image).version ≡ 1
  pub tables : (k : ℕ) → 1 ≤ k → k < first_data_page (shape_of image) → page_of image k ≡ zero_block
