-- Numbers in a page: four bytes, lowest first.
use Rattle.std.specs.Prelude.{◌≡◌, ◌⊎◌, ℕ, ◌+◌, ◌*◌, ◌<◌, ◌≤◌, List, drop, length, slice_index}
use Rattle.byteorder.specs.Endian.{little_number}

-- the number in the four bytes from a place
unfoldable pub number_at : List ℕ → ℕ → ℕ
number_at page at = little_number 4 (drop at page)

-- the entry of a map or count page, which has 1024 of them
abbrev pub entry_of : List ℕ → ℕ → ℕ
entry_of page i = number_at page (4 * i)

-- the number is changed, and every other byte stays
pub record SetsNumber (old : List ℕ) (at value : ℕ) (new : List ℕ) : Type 0 where
  pub number : number_at new at ≡ value
  pub length : length new ≡ length old
  pub others : (k : ℕ) → (k < at) ⊎ (at + 4 ≤ k) → slice_index new k ≡ slice_index old k

-- one entry is changed; every other entry stays, and every other byte of the page
pub record SetsEntry (old : List ℕ) (i value : ℕ) (new : List ℕ) : Type 0 where
  pub entry : entry_of new i ≡ value
  pub others : (j : ℕ) → (j ≡ i → ⊥) → entry_of new j ≡ entry_of old j
  pub bytes : (k : ℕ) → (k < 4 * i) ⊎ (4 * i + 4 ≤ k) → slice_index new k ≡ slice_index old k
