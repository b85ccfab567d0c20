-- Pairs of hexadecimal digits.
use Rattle.std.proofs.Common.{◌≡◌, ℕ, zero, suc, ◌==◌, Bool, true, ◌&&◌, slice_index, ◌+◌, ◌*◌, ◌<◌, ◌≤◌, ◌⊎◌, inl, inr, Option, Some, None, Ok, Err, unwrap_or, refl, sym, ap, arith}
use Rattle.std.proofs.lemmas.Bool.{and_parts, cases_lt, eqb-true}
use Rattle.hex.specs.Hex.{hex_digit_value, pair_value}
use Rattle.hex.specs.declared.error.FromHexError.{FromHexError}
use Rattle.hex.specs.declared.error.FromHexError.TheVariants.{InvalidHexCharacter}
use Rattle.trace_text.specs.declared.digits.TheConstants.{VALUES}

-- a value below 16 is a digit's
some_below : (o : Option ℕ) (value : ℕ) → value ≡ unwrap_or o 255 → value < 16 → o ≡ Some value
some_below (Some v) value is low = ap Some (sym is)
some_below None value is low = absurd (omega arith)

pub digit_some : (byte value : ℕ) → value ≡ unwrap_or (hex_digit_value byte) 255 → value ≤ 15 → hex_digit_value byte ≡ Some value
digit_some byte value is low = some_below (hex_digit_value byte) value is (omega arith)

-- another is no digit's
digit_small : (byte v : ℕ) → hex_digit_value byte ≡ Some v → v < 16
digit_small byte v is = grind (arith)

none_above : (o : Option ℕ) (value : ℕ) → ((v : ℕ) → o ≡ Some v → v < 16) → value ≡ unwrap_or o 255 → 15 < value → o ≡ None
none_above (Some v) value small is high = let low = small v refl in absurd (omega arith)
none_above None value small is high = refl

pub digit_none : (byte value : ℕ) → value ≡ unwrap_or (hex_digit_value byte) 255 → 15 < value → hex_digit_value byte ≡ None
digit_none byte value is high = none_above (hex_digit_value byte) value (digit_small byte) is high

-- two digits make a byte
pub pair_ok : (a b i high low : ℕ) → hex_digit_value a ≡ Some high → hex_digit_value b ≡ Some low
    → pair_value a b i ≡ Ok (high * 16 + low)
pair_ok a b i high low first second = rw (first, second) refl

-- and no byte where the first is none
first_bad : (a b i : ℕ) → hex_digit_value a ≡ None → (e : FromHexError) × (pair_value a b i ≡ Err e)
first_bad a b i first = (InvalidHexCharacter a i, rw first refl)

-- nor where the second is
second_bad : (a b i : ℕ) (o : Option ℕ) → hex_digit_value a ≡ o → hex_digit_value b ≡ None
    → (e : FromHexError) × (pair_value a b i ≡ Err e)
second_bad a b i None first second = first_bad a b i first
second_bad a b i (Some high) first second = (InvalidHexCharacter b (i + 1), rw (first, second) refl)

pub pair_err : (a b i : ℕ) → (hex_digit_value a ≡ None) ⊎ (hex_digit_value b ≡ None)
    → (e : FromHexError) × (pair_value a b i ≡ Err e)
pair_err a b i (inl first) = first_bad a b i first
pair_err a b i (inr second) = second_bad a b i (hex_digit_value a) refl second

-- which of two bytes is no digit
pub either_none : (a b high low : ℕ) → high ≡ unwrap_or (hex_digit_value a) 255 → low ≡ unwrap_or (hex_digit_value b) 255
    → (15 < high) ⊎ ((high ≤ 15) × (15 < low)) → (hex_digit_value a ≡ None) ⊎ (hex_digit_value b ≡ None)
either_none a b high low first second (inl above) = inl (digit_none a high first above)
either_none a b high low first second (inr above) = inr (digit_none b low second above.1)

-- the test of the first n places of the table
abbrev agree : ℕ → Bool
agree zero = true
agree (suc n) = (slice_index VALUES n == unwrap_or (hex_digit_value (n + 48)) 255) && agree n

-- a place below n passed the test
agree-at : (n place : ℕ) → agree n ≡ true → place < n → slice_index VALUES place ≡ unwrap_or (hex_digit_value (place + 48)) 255
agree-at zero place h below = absurd (omega arith)
agree-at (suc n) place h below =
    let parts = and_parts (slice_index VALUES n == unwrap_or (hex_digit_value (n + 48)) 255) (agree n) h in
    elim (cases_lt place n) [
      | inl lower ↦ agree-at n place parts.1 lower
      | inr top ↦
          let e : place ≡ n = omega arith in
          rw e (eqb-true (slice_index VALUES n) (unwrap_or (hex_digit_value (n + 48)) 255) parts.0)
    ]

-- what the table says of a byte
pub value_of : (byte place : ℕ) → byte ≡ place + 48 → place < 55 → slice_index VALUES place ≡ unwrap_or (hex_digit_value byte) 255
value_of byte place e below = rw e (agree-at 55 place refl below)
