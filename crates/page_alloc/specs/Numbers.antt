-- A set of small numbers, by a bit for each.
use Rattle.std.specs.Prelude.{◌≡◌, ℕ, ◌*◌, ◌/◌, ◌%◌, ◌^◌, ◌<◌, ◌≤◌, Bool, true, false, not, eqb, List, length, slice_index}
use Rattle.page_alloc.specs.Bits.{is_one}

-- the number is in the set
unfoldable pub holds : List ℕ → ℕ → Bool
holds words k = is_one (slice_index words (k / 64)) (k % 64)

-- the least number of the set
pub record IsLeast (words : List ℕ) (n : ℕ) : Type 0 where
  pub within : n < 64 * length words
  pub here : holds words n ≡ true
  pub below : (k : ℕ) → k < n → holds words k ≡ false

abbrev pub HoldsNone : List ℕ → Type 0
HoldsNone words = (k : ℕ) → holds words k ≡ false

-- which words of a set hold a number, as a set
pub record IsSummary (words tops : List ℕ) : Type 0 where
  pub room : length words ≤ 64 * length tops
  pub few : length words < 2 ^ 32
  pub few_tops : length tops < 2 ^ 32
  pub is : (w : ℕ) → holds tops w ≡ not (eqb (slice_index words w) 0)
