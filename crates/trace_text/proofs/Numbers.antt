-- Decimal digits and the numbers that they write.
use Rattle.std.proofs.Common.{◌≡◌, ℕ, zero, suc, ◌+◌, ◌*◌, ◌^◌, ◌<◌, List, [], ◌∷◌, length, take, get_or, decimal, Option, Some, None, inl, inr, refl, sym, ap, ◌∙◌, arith}
use Rattle.std.proofs.lemmas.Fmt.{decimal_is_IsNumeral, decimal-digits_value, decimal_digit, decimal_nonempty, first_decimal}
use Rattle.std.proofs.lemmas.Int.Digits.{digits_value_more, digits_more}
use Rattle.std.proofs.lemmas.Str.Parse.{IsNumeralModel, digits_value-take-le}
use Rattle.std.proofs.lemmas.Bool.{cases_eq}
use Rattle.std.specs.Char.{digit_value}
use Rattle.std.specs.Option.{SomeIff}
use Rattle.std.specs.Prelude.{IfSome}
use Rattle.std.specs.Str.Parse.{AllDigits, digits_value}
use Rattle.trace_text.specs.Fields.{BeginsPlain}

-- the words of `parse` are a model of numerals
abbrev digits_model : IsNumeralModel (AllDigits 10) (digits_value 10)
digits_model = record { to = λ ds h. h; from = λ ds h. h; same = λ ds h. refl }

-- what the first i bytes of a text write
pub record ReadSoFar (text : List ℕ) (i number : ℕ) : Type 0 where
  pub digits : AllDigits 10 (take i text)
  pub value : number ≡ digits_value 10 (take i text)
  pub small : number < 2 ^ 64

pub read_start : (text : List ℕ) → ReadSoFar text 0 0
read_start text = record { digits = tt; value = refl; small = omega arith }

-- each byte of digits is one
pub digit_at : (text : List ℕ) (i : ℕ) → AllDigits 10 text → i < length text → digit_value (get_or text i 0) < 10
digit_at [] i digits lt = absurd (omega arith)
digit_at (d ∷ ds) zero digits lt = digits.0
digit_at (d ∷ ds) (suc i) digits lt = digit_at ds i digits.1 (omega arith)

-- a digit more
pub read_more : (text : List ℕ) (i number digit : ℕ) → ReadSoFar text i number → i < length text
    → digit_value (get_or text i 0) ≡ digit → digit < 10 → number * 10 + digit < 2 ^ 64
    → ReadSoFar text (i + 1) (number * 10 + digit)
read_more text i number digit so_far lt is low small = record {
  digits = digits_more 10 text i lt so_far.digits (omega (arith, is));
  value = rw (← is, so_far.value) (sym (digits_value_more 10 text i lt));
  small = small;
}

-- a digit that makes the number too large
pub read_too_large : (text : List ℕ) (i number digit : ℕ) → ReadSoFar text i number → i < length text
    → digit_value (get_or text i 0) ≡ digit → ¬ (number * 10 + digit < 2 ^ 64)
    → ¬ (AllDigits 10 text × (digits_value 10 text < 2 ^ 64))
read_too_large text i number digit so_far lt is large both =
    let front = digits_value-take-le 10 text (i + 1) (omega arith) in
    let more = digits_value_more 10 text i lt in
    let value = so_far.value in
    let below = both.1 in
    large (omega (arith, front, more, value, below, is))

-- what an option that knows its case holds
pub some_of : (o : Option ℕ) (P : Type 0) (v : ℕ) → SomeIff o P v → P → o ≡ Some v
some_of None P v h p = absurd (h p)
some_of (Some x) P v h p = ap Some h.1

-- a printed number reads back
pub decimal_reads : (text : List ℕ) (number : ℕ) → number < 2 ^ 64 → text ≡ decimal number
    → AllDigits 10 text × (digits_value 10 text ≡ number)
decimal_reads text number small e =
    let reads = decimal_is_IsNumeral number small in
    rw e (reads.0.1, reads.1)

-- no printed number is empty, and none of two digits or more has a zero in front
pub decimal_begins : (text : List ℕ) (number : ℕ) → number < 2 ^ 64 → text ≡ decimal number → BeginsPlain text
decimal_begins text number small e =
    let some = decimal_nonempty number small in
    elim (cases_eq number 0) [
      | inl none ↦
          let one : decimal number ≡ 48 ∷ [] = rw none (decimal_digit 0 (omega arith)) in
          rw (e, one) (record { some = omega arith; no_zero_front = λ zero_first. refl })
      | inr above ↦
          let first = first_decimal number (omega arith) small in
          rw e (record { some = some; no_zero_front = λ zero_first. absurd (omega arith) })
    ]

-- digits with no zero in front are the text of their number
pub decimal_of_digits : (text : List ℕ) (number : ℕ) → BeginsPlain text → AllDigits 10 text
    → number ≡ digits_value 10 text → number < 2 ^ 64 → text ≡ decimal number
decimal_of_digits text number begins digits is small =
    rw is (sym (decimal-digits_value digits_model text digits begins.some begins.no_zero_front (omega (arith, is))))

-- the text of a number that was read
pub plain_read : (text : List ℕ) (o : Option ℕ) → BeginsPlain text
    → SomeIff o (AllDigits 10 text × (digits_value 10 text < 2 ^ 64)) (digits_value 10 text)
    → IfSome o (λ number. text ≡ decimal number)
plain_read text None begins h = tt
plain_read text (Some number) begins h =
    let is = h.1 in
    let small = h.0.1 in
    decimal_of_digits text number begins h.0.0 is (omega (arith, is, small))

-- the only number of a text
pub plain_only : (text : List ℕ) (o : Option ℕ)
    → SomeIff o (AllDigits 10 text × (digits_value 10 text < 2 ^ 64)) (digits_value 10 text)
    → (number : ℕ) → number < 2 ^ 64 → text ≡ decimal number → o ≡ Some number
plain_only text o h number small e =
    let reads = decimal_reads text number small e in
    let value = reads.1 in
    some_of o (AllDigits 10 text × (digits_value 10 text < 2 ^ 64)) (digits_value 10 text) h (reads.0, omega (arith, value)) ∙ ap Some value
