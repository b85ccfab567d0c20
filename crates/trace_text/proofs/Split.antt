-- A number and a space before the rest of a text.
use Rattle.std.proofs.Common.{◌≡◌, ℕ, suc, ◌+◌, ◌-◌, ◌^◌, ◌<◌, ◌≤◌, ◌==◌, List, [], ◌∷◌, ◌++◌, length, take, drop, get_or, cond, not, decimal, Option, Some, refl, sym, ap, ◌∙◌, append_assoc, add-one, arith, length-append, length-drop, drop-cons}
use Rattle.std.proofs.lemmas.Bool.Decides.{nat_tests}
use Rattle.std.proofs.lemmas.Bool.{eqb-true}
use Rattle.std.proofs.lemmas.Fmt.{decimal_is_IsNumeral}
use Rattle.std.proofs.lemmas.List.{take-append-drop, take_all}
use Rattle.std.proofs.lemmas.List.Quantifiers.{position-Some}
use Rattle.std.proofs.lemmas.Str.Parse.{digit_from_value}
use Rattle.std.proofs.Math.Seq.{take-append_seam, drop-append-add}
use Rattle.std.specs.List.{position, position_or_len}
use Rattle.std.specs.Prelude.{unwrap_or}
use Rattle.std.specs.Str.Parse.{AllDigits}
use Rattle.trace_text.specs.Fields.{before_rest}

-- the place of the first space
abbrev pub space_in : List ℕ → Option ℕ
space_in text = position (λ byte. byte == 32) text

-- a digit is no space
digit_no_space : (byte k : ℕ) → 48 ≤ byte → cond (not (byte == 32)) (1 + k) 0 ≡ suc k
digit_no_space byte k high = grind (arith, nat_tests)

-- the first space after digits
space_after : (digits rest : List ℕ) → AllDigits 10 digits
    → position_or_len (λ byte. byte == 32) (digits ++ 32 ∷ rest) ≡ length digits
space_after [] rest each = refl
space_after (byte ∷ digits) rest each =
    let range = digit_from_value byte each.0 in
    let tail = space_after digits rest each.1 in
    rw tail (digit_no_space byte (length digits) (omega arith))

-- a place that is inside
position_inside : (text : List ℕ) (i : ℕ) → position_or_len (λ byte. byte == 32) text ≡ i → i < length text → space_in text ≡ Some i
position_inside text i is inside = rw is (grind (arith, nat_tests))

-- the same text with the space beside the rest
before_rest_is : (number : ℕ) (rest : List ℕ) → before_rest number rest ≡ decimal number ++ 32 ∷ rest
before_rest_is number rest = append_assoc (decimal number) (32 ∷ []) rest

-- the first space of a number, a space and the rest
pub space_of : (text : List ℕ) (number : ℕ) (rest : List ℕ) → number < 2 ^ 32 → text ≡ before_rest number rest
    → space_in text ≡ Some (length (decimal number))
space_of text number rest small e =
    let digits = decimal_is_IsNumeral number (omega arith) in
    let size = length-append (decimal number) (32 ∷ rest) in
    rw (e, before_rest_is number rest)
    (position_inside (decimal number ++ 32 ∷ rest) (length (decimal number)) (space_after (decimal number) rest digits.0.1) (omega (arith, size)))

-- the rest of a text up to its end
rest_whole : (text : List ℕ) (k : ℕ) → take (length text - k) (drop k text) ≡ drop k text
rest_whole text k = take_all (length text - k) (drop k text) (omega (arith, length-drop k text))

-- a text that is cut at its first space
pub split_read : (text : List ℕ) (end number : ℕ) → Some end ≡ space_in text → take end text ≡ decimal number
    → text ≡ before_rest number (take (length text - (end + 1)) (drop (end + 1) text))
split_read text end number found front =
    let at = position-Some (λ (byte : ℕ). byte == 32) text end 0 (sym found) in
    let space = eqb-true (get_or text end 0) 32 at.1 in
    let tail : drop end text ≡ 32 ∷ drop (end + 1) text =
    drop-cons text end 0 at.0 ∙ rw (space, add-one) refl in
    sym (rw (rest_whole text (end + 1), before_rest_is number (drop (end + 1) text), ← front, ← tail) (take-append-drop end text))

-- the parts of a text that begins with a number and a space
pub split_only : (text : List ℕ) (end number : ℕ) (rest : List ℕ) → Some end ≡ space_in text → number < 2 ^ 32
    → text ≡ before_rest number rest
    → (take end text ≡ decimal number) × (take (length text - (end + 1)) (drop (end + 1) text) ≡ rest)
split_only text end number rest found small e =
    let same : end ≡ length (decimal number) =
    ap (λ (o : Option ℕ). unwrap_or o 0) (found ∙ space_of text number rest small e) in
    let parts = e ∙ before_rest_is number rest in (
      rw (same, parts) (take-append_seam (decimal number) (32 ∷ rest)),
      rest_whole text (end + 1) ∙ rw (same, parts) (drop-append-add (decimal number) (32 ∷ rest) 1),
    )
