-- One slot of a map page: what it holds, and what it is to set it.
use Rattle.std.specs.Prelude.{◌≡◌, ◌≢◌, ◌⊎◌, ℕ, ◌+◌, ◌*◌, ◌/◌, ◌<◌, ◌≤◌, List, slice_index, slice_set, length}
use Rattle.page_device.specs.Block.{Block}
use Rattle.page_layout.specs.Numbers.{entry_of}
use Rattle.page_layout.specs.Shape.{ShapeView, map_page, map_place}
use Rattle.page_layout.specs.Tables.{IsMapPage, map_of, page_of}

-- the slot of a block, in the content of its map page
abbrev pub slot_of : Block → ℕ → ℕ
slot_of page block = entry_of page (map_place block)

-- in an image one block has another name, or none; every other block keeps its own
pub record SetsName (old : List Block) (block p : ℕ) (new : List Block) : Type 0 where
  pub here : map_of new block ≡ p
  pub others : (other : ℕ) → other ≢ block → map_of new other ≡ map_of old other

-- The slot of a block is set. Every other slot of the page stays, and every byte of it but the four of the slot. A name that
-- the format knows leaves the page well formed. Put in the place of the old page in an image, the new one names p at the
-- block, and changes no other name.
pub record SetsSlot (shape : ShapeView) (old : Block) (block p : ℕ) (new : Block) : Type 0 where
  pub here : slot_of new block ≡ p
  pub others : (other : ℕ) → other ≢ block → map_page other ≡ map_page block → slot_of new other ≡ slot_of old other
  pub bytes : (k : ℕ) → (k < 4 * map_place block) ⊎ (4 * map_place block + 4 ≤ k) → slice_index new k ≡ slice_index old k
  pub formed : p ≤ shape.pages → IsMapPage shape (block / 1024) old → IsMapPage shape (block / 1024) new
  pub image : (pages : List Block) → map_page block < length pages → page_of pages (map_page block) ≡ old
      → SetsName pages block p (slice_set pages (map_page block) new)
