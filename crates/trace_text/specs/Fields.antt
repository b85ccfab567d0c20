-- The fields of a line.
use Rattle.std.specs.Prelude.{◌≡◌, ℕ, ◌%◌, ◌<◌, ◌≤◌, List, ◌++◌, length, codes, decimal, slice_index}

-- some byte, and a zero in front only where it is all
pub record BeginsPlain (text : List ℕ) : Type 0 where
  pub some : 0 < length text
  pub no_zero_front : slice_index text 0 ≡ 48 → length text ≡ 1

-- a number and a space before the rest of a text
abbrev pub before_rest : ℕ → List ℕ → List ℕ
before_rest number rest = decimal number ++ codes " " ++ rest

-- so many digits write 1 to 4096 bytes
pub record FitsPage (digits : ℕ) : Type 0 where
  pub even : digits % 2 ≡ 0
  pub some : 2 ≤ digits
  pub few : digits ≤ 8192
