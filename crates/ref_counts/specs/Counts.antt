-- One count of a count page: what it holds, and what it is to set it.
use Rattle.std.specs.Prelude.{◌≡◌, ◌≢◌, ◌⊎◌, ℕ, ◌+◌, ◌-◌, ◌*◌, ◌/◌, ◌<◌, ◌≤◌, List, slice_index, slice_set, length}
use Rattle.page_device.specs.Block.{Block}
use Rattle.page_layout.specs.Numbers.{entry_of}
use Rattle.page_layout.specs.Shape.{ShapeView, count_page, count_place}
use Rattle.page_layout.specs.Tables.{IsCountPage, count_of, page_of, shape_of}

-- the count of a data page, in the content of its count page
abbrev pub count_in : Block → ℕ → ℕ
count_in page p = entry_of page (count_place p)

-- in an image one data page has another count; every other one keeps its own, and the image its shape
pub record CountsPage (old : List Block) (p n : ℕ) (new : List Block) : Type 0 where
  pub here : count_of new p ≡ n
  pub others : (q : ℕ) → 1 ≤ q → q ≢ p → count_of new q ≡ count_of old q
  pub shape : shape_of new ≡ shape_of old

-- The count of a data page is set. Every other count of the page stays, and every byte of it but the four of the count. A
-- count that the format knows leaves the page well formed. Put in the place of the old page in an image of this shape, the
-- new one counts the data page so, and changes no other count.
pub record SetsCount (shape : ShapeView) (old : Block) (p n : ℕ) (new : Block) : Type 0 where
  pub here : count_in new p ≡ n
  pub others : (q : ℕ) → 1 ≤ q → q ≢ p → count_page shape q ≡ count_page shape p → count_in new q ≡ count_in old q
  pub bytes : (k : ℕ) → (k < 4 * count_place p) ⊎ (4 * count_place p + 4 ≤ k) → slice_index new k ≡ slice_index old k
  pub formed : n ≤ 2147483647 → IsCountPage shape ((p - 1) / 1024) old → IsCountPage shape ((p - 1) / 1024) new
  pub image : (pages : List Block) → shape_of pages ≡ shape → count_page shape p < length pages → page_of pages (count_page shape p) ≡ old
      → CountsPage pages p n (slice_set pages (count_page shape p) new)
