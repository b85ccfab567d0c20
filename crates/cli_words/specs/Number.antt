-- A number in a word or in a line: `0`, or a digit from 1 to 9 followed by any digits, at most a stated limit.
-- There is no sign, no leading zero and no other character. This file stands on std alone.
use Rattle.std.specs.Prelude.{◌≡◌, ℕ, ◌+◌, ◌-◌, ◌*◌, ◌≤◌, List, [], ◌∷◌}

-- a character from `0` to `9`
abbrev pub IsDigit : ℕ → Type 0
IsDigit c = (48 ≤ c) × (c ≤ 57)

abbrev pub AreDigits : List ℕ → Type 0
AreDigits [] = Unit {0}
AreDigits (c ∷ cs) = IsDigit c × AreDigits cs

-- the value of digits that come after a part whose value is n
abbrev pub value_after : ℕ → List ℕ → ℕ
value_after n [] = n
value_after n (c ∷ cs) = value_after (10 * n + (c - 48)) cs

-- digits, and `0` begins none but itself
abbrev pub IsNumeral : List ℕ → Type 0
IsNumeral [] = ⊥
IsNumeral (c ∷ cs) = AreDigits (c ∷ cs) × (c ≡ 48 → cs ≡ [])

-- the text says the number n, which is at most the limit
pub record IsNumber (limit : ℕ) (text : List ℕ) (n : ℕ) : Type 0 where
  pub numeral : IsNumeral text
  pub value : value_after 0 text ≡ n
  pub within : n ≤ limit
