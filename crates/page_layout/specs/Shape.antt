-- The shape of an image, as its superblock tells it.
use Rattle.std.specs.Prelude.{◌≡◌, ℕ, ◌+◌, ◌-◌, ◌/◌, ◌%◌, ◌≤◌, List, [], ◌∷◌, take, slice_index}
use Rattle.page_device.specs.Block.{Block}
use Rattle.page_layout.specs.Numbers.{number_at}

-- the numbers of a superblock: logical blocks, data pages, and the version of the format
pub record ShapeView : Type 0 where
  pub blocks : ℕ
  pub pages : ℕ
  pub version : ℕ

-- the limits
pub record IsValid (shape : ShapeView) : Type 0 where
  pub a_block : 1 ≤ shape.blocks
  pub few_blocks : shape.blocks ≤ 4194304
  pub a_page : 1 ≤ shape.pages
  pub few_pages : shape.pages ≤ 1048576
  pub first_version : 1 ≤ shape.version
  pub last_version : shape.version ≤ 2

-- `OMDEDUP1`
abbrev pub magic : List ℕ
magic = 79 ∷ 77 ∷ 68 ∷ 69 ∷ 68 ∷ 85 ∷ 80 ∷ 49 ∷ []

-- the numbers that stand in the places of a superblock
abbrev pub told_shape : Block → ShapeView
told_shape page = record { blocks = number_at page 12; pages = number_at page 16; version = number_at page 8 }

-- the page is a superblock
pub record IsSuperblock (page : Block) : Type 0 where
  pub starts : take 8 page ≡ magic
  pub valid : IsValid (told_shape page)
  pub zeros : (k : ℕ) → 20 ≤ k → slice_index page k ≡ 0

-- how many pages of `per` entries hold so many entries
abbrev pub pages_for : ℕ → ℕ → ℕ
pages_for entries per = (entries + (per - 1)) / per

-- the pages of an image: the superblock, map, counts, prints and data, in this order
abbrev pub map_pages : ShapeView → ℕ
map_pages shape = pages_for shape.blocks 1024

abbrev pub count_pages : ShapeView → ℕ
count_pages shape = pages_for shape.pages 1024

abbrev pub print_pages : ShapeView → ℕ
print_pages shape = pages_for shape.pages 170

abbrev pub first_count_page : ShapeView → ℕ
first_count_page shape = 1 + map_pages shape

abbrev pub first_print_page : ShapeView → ℕ
first_print_page shape = first_count_page shape + count_pages shape

abbrev pub first_data_page : ShapeView → ℕ
first_data_page shape = first_print_page shape + print_pages shape

abbrev pub total : ShapeView → ℕ
total shape = first_data_page shape + shape.pages

-- the device page that holds the map entry of a block, the count or the print of a data page, or the data page itself
abbrev pub map_page : ℕ → ℕ
map_page block = 1 + block / 1024

abbrev pub count_page : ShapeView → ℕ → ℕ
count_page shape p = first_count_page shape + (p - 1) / 1024

abbrev pub print_page : ShapeView → ℕ → ℕ
print_page shape p = first_print_page shape + (p - 1) / 170

abbrev pub data_page : ShapeView → ℕ → ℕ
data_page shape p = first_data_page shape + (p - 1)

-- the entry of a block or of a data page in its page
abbrev pub map_place : ℕ → ℕ
map_place block = block % 1024

abbrev pub count_place : ℕ → ℕ
count_place p = (p - 1) % 1024

abbrev pub print_place : ℕ → ℕ
print_place p = (p - 1) % 170
