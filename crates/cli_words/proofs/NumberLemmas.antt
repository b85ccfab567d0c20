-- Digits from the left, and the numbers that they are.
use Rattle.std.proofs.Common.{arith, ◌≡◌, ℕ, ◌+◌, ◌-◌, ◌*◌, ◌≤◌, ◌<◌, List, [], ◌∷◌, length, get_or, drop, refl, sym, subst, add-one, drop-cons, Option, Some, None, IfNone}
use Rattle.cli_words.specs.Digits.{EndsAt}
use Rattle.cli_words.specs.Number.{IsDigit, IsNumber, value_after}

-- more digits make no smaller number
pub value_after-grows : (n : ℕ) (cs : List ℕ) → n ≤ value_after n cs
value_after-grows n [] = omega arith
value_after-grows n (c ∷ cs) = omega (arith, value_after-grows (10 * n + (c - 48)) cs)

pub ends_before : (limit n c m : ℕ) (cs : List ℕ) → IsDigit c → EndsAt limit (10 * n + (c - 48)) cs m → EndsAt limit n (c ∷ cs) m
ends_before limit n c m cs digit e = record { digits = (digit, e.digits); value = e.value; within = e.within }

pub ends_after : (limit n c m : ℕ) (cs : List ℕ) → EndsAt limit n (c ∷ cs) m → EndsAt limit (10 * n + (c - 48)) cs m
ends_after limit n c m cs e = record { digits = e.digits.1; value = e.value; within = e.within }

pub digit_first : (limit n c m : ℕ) (cs : List ℕ) → EndsAt limit n (c ∷ cs) m → IsDigit c × (10 * n + (c - 48) ≤ limit)
digit_first limit n c m cs e =
    let grows = value_after-grows (10 * n + (c - 48)) cs in
    (e.digits.0, omega (arith, e.value, e.within, grows))

rest_at : (i : ℕ) (ds : List ℕ) → i < length ds → drop i ds ≡ get_or ds i 0 ∷ drop (i + 1) ds
rest_at i ds inside = rw (add-one, drop-cons ds i 0) refl

-- from index i on, with the value n so far, the digits are what they are from the left
abbrev pub SameFrom : ℕ → ℕ → ℕ → List ℕ → Type 0
SameFrom limit n i ds =
    (n ≤ limit) × ((m : ℕ) → EndsAt limit n (drop i ds) m → EndsAt limit 0 ds m) × ((m : ℕ) → EndsAt limit 0 ds m → EndsAt limit n (drop i ds) m)

pub same_next : (limit n v i digit : ℕ) (ds : List ℕ) → i < length ds → digit ≡ get_or ds i 0
    → IsDigit digit × (10 * n + (digit - 48) ≤ limit) → 10 * n + (digit - 48) ≡ v → SameFrom limit n i ds → SameFrom limit v (i + 1) ds
same_next limit n v i digit ds inside at fits is same =
    let rest : drop i ds ≡ digit ∷ drop (i + 1) ds = rw at (rest_at i ds inside) in (
      omega (arith, fits.1, is),
      λ m e. same.1 m (subst (λ cs. EndsAt limit n cs m) (sym rest)
          (ends_before limit n digit m (drop (i + 1) ds) fits.0 (subst (λ k. EndsAt limit k (drop (i + 1) ds) m) (sym is) e))),
      λ m e. subst (λ k. EndsAt limit k (drop (i + 1) ds) m) is
          (ends_after limit n digit m (drop (i + 1) ds) (subst (λ cs. EndsAt limit n cs m) rest (same.2 m e))),
    )

pub no_end : (limit n i digit : ℕ) (ds : List ℕ) → i < length ds → digit ≡ get_or ds i 0
    → ¬ (IsDigit digit × (10 * n + (digit - 48) ≤ limit)) → SameFrom limit n i ds → (m : ℕ) → ¬ EndsAt limit 0 ds m
no_end limit n i digit ds inside at refused same m e =
    let rest : drop i ds ≡ digit ∷ drop (i + 1) ds = rw at (rest_at i ds inside) in
    refused (digit_first limit n digit m (drop (i + 1) ds) (subst (λ cs. EndsAt limit n cs m) rest (same.2 m e)))

pub if_none : (o : Option ℕ) (P : Type 0) → P → IfNone o P
if_none None P h = h
if_none (Some n) P h = tt

-- not empty, and `0` begins only itself
abbrev pub BeginsWell : List ℕ → Type 0
BeginsWell text = (0 < length text) × (get_or text 0 0 ≡ 48 → length text ≤ 1)

no_more : (cs : List ℕ) (k : ℕ) → k + length cs ≤ k → cs ≡ []
no_more [] k h = refl
no_more (c ∷ cs) k h = absurd (omega arith)

pub number_from_end : (limit n : ℕ) (text : List ℕ) → BeginsWell text → EndsAt limit 0 text n → IsNumber limit text n
number_from_end limit n [] h e = absurd (omega (arith, h.0))
number_from_end limit n (c ∷ cs) h e =
    record { numeral = (e.digits, λ is. no_more cs 1 (omega (arith, h.1 is))); value = e.value; within = e.within }

pub end_from_number : (limit n : ℕ) (text : List ℕ) → IsNumber limit text n → EndsAt limit 0 text n
end_from_number limit n [] h = absurd h.numeral
end_from_number limit n (c ∷ cs) h = record { digits = h.numeral.0; value = h.value; within = h.within }

length_none : (cs : List ℕ) → cs ≡ [] → length cs ≡ 0
length_none [] h = refl
length_none (c ∷ cs) h = absurd cc

pub number_begins : (limit n : ℕ) (text : List ℕ) → IsNumber limit text n → BeginsWell text
number_begins limit n [] h = absurd h.numeral
number_begins limit n (c ∷ cs) h = (omega arith, λ is. omega (arith, length_none cs (h.numeral.1 is)))
