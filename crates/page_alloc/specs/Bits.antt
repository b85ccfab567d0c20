-- The bits of a word.
use Rattle.std.specs.Prelude.{◌≡◌, ℕ, ◌<◌, ◌==◌, Bool, true, false}
use Rattle.std.specs.Int.{bit_at}

-- a bit is set
unfoldable pub is_one : ℕ → ℕ → Bool
is_one word i = bit_at word i == 1

-- the lowest bit that is set, of 64
pub record IsLowestBit (word bit : ℕ) : Type 0 where
  pub within : bit < 64
  pub here : is_one word bit ≡ true
  pub below : (i : ℕ) → i < bit → is_one word i ≡ false
