-- What a list of pages is, and how it is kept.
use Rattle.std.specs.Prelude.{◌≡◌, ℕ, ◌+◌, ◌<◌, ◌≤◌, ◌^◌, ◌==◌, List, [], ◌∷◌, length, map, slice_index_or, if◌then◌else◌}
use Rattle.page_device.specs.Block.{Block, zero_block}

-- the pages in order, and the most that there may be
pub record PagesView : Type 0 where
  pub items : List Block
  pub limit : ℕ

-- the pages at these places among those that are kept
abbrev pub pages_at : List ℕ → List Block → List Block
pages_at places kept = map (λ at. slice_index_or kept at zero_block) places

-- how many share the page of zeros, which stands at place 0
unfoldable pub sharing : List ℕ → ℕ
sharing [] = 0
sharing (at ∷ places) = (if at == 0 then 1 else 0) + sharing places

-- every other place is that of one page alone
pub record AreKept (places : List ℕ) (kept : List Block) : Type 0 where
  pub zeros : slice_index_or kept 0 zero_block ≡ zero_block
  pub some : 1 ≤ length kept
  pub within : (j : ℕ) → j < length places → slice_index_or places j 0 < length kept
  pub apart : (i j : ℕ) → i < length places → j < length places → slice_index_or places i 0 ≡ slice_index_or places j 0 → 1 ≤ slice_index_or places i 0 → i ≡ j
  pub counted : length kept + sharing places ≡ length places + 1

-- and there is room for all pages that may come or be edited
pub record IsWhole (places : List ℕ) (kept : List Block) (limit room spare : ℕ) : Type 0 where
  pub are : AreKept places kept
  pub within : length places ≤ limit
  pub for_places : limit ≤ room
  pub for_pages : limit + 1 ≤ spare
  pub few : limit + 1 < 2 ^ 32
