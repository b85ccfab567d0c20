-- Digits that come after a part of a number, and what they make of it.
use Rattle.std.specs.Prelude.{◌≡◌, ℕ, ◌≤◌, List}
use Rattle.cli_words.specs.Number.{AreDigits, value_after}

-- after a part whose value is n the characters are digits, with which the value is m, and at most the limit
pub record EndsAt (limit n : ℕ) (cs : List ℕ) (m : ℕ) : Type 0 where
  pub digits : AreDigits cs
  pub value : value_after n cs ≡ m
  pub within : m ≤ limit
