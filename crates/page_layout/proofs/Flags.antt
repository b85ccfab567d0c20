-- The first four bytes of a print's entry as one number: its flag and three bytes that are to be zero.
use Rattle.std.proofs.Common.{◌≡◌, ⊎_elim, ℕ, ◌+◌, ◌*◌, ◌≤◌, List, drop, ◌∙◌, ap, arith, get_or, slice_index}
use Rattle.std.proofs.lemmas.List.{get_or-drop}
use Rattle.std.proofs.lemmas.Bool.{cases_lt}
use Rattle.page_layout.specs.Numbers.{number_at}
use Rattle.page_layout.specs.Tables.{AreZero}

-- a number by its bytes
by_bytes : (p : List ℕ) (at : ℕ) → number_at p at ≡ slice_index p at + 256 * (slice_index p (at + 1) + 256 * (slice_index p (at + 2) + 256 * slice_index p (at + 3)))
unfolding number_at
by_bytes p at =
    let first : get_or (drop at p) 0 0 ≡ slice_index p at = get_or-drop at p 0 0 ∙ ap (λ (k : ℕ). slice_index p k) (omega arith) in
    omega (arith, first, get_or-drop at p 1 0, get_or-drop at p 2 0, get_or-drop at p 3 0)

-- three bytes
three_zeros : (p : List ℕ) (at : ℕ) → slice_index p (at + 1) ≡ 0 → slice_index p (at + 2) ≡ 0 → slice_index p (at + 3) ≡ 0 → AreZero p (at + 1) (at + 4)
three_zeros p at first second third j low high =
    ⊎_elim (λ lt. ap (λ (k : ℕ). slice_index p k) (omega arith) ∙ first) (λ ge.
    ⊎_elim (λ lt. ap (λ (k : ℕ). slice_index p k) (omega arith) ∙ second) (λ more. ap (λ (k : ℕ). slice_index p k) (omega arith) ∙ third) (cases_lt j (at + 3)))
    (cases_lt j (at + 2))

-- where the number is at most 1, it is the flag, and the other bytes are zero
pub flagged : (p : List ℕ) (at : ℕ) → number_at p at ≤ 1 → (slice_index p at ≡ number_at p at) × AreZero p (at + 1) (at + 4)
flagged p at few = (omega (arith, by_bytes p at), three_zeros p at (omega (arith, by_bytes p at)) (omega (arith, by_bytes p at)) (omega (arith, by_bytes p at)))

-- where the other bytes are zero, it is the flag
pub padded : (p : List ℕ) (at : ℕ) → AreZero p (at + 1) (at + 4) → number_at p at ≡ slice_index p at
padded p at zeros = omega (arith, by_bytes p at, zeros (at + 1) (omega arith) (omega arith), zeros (at + 2) (omega arith) (omega arith), zeros (at + 3) (omega arith) (omega arith))

-- an entry without a flag is zero where its 20 bytes are
pub all_zero : (p : List ℕ) (at : ℕ) → number_at p at ≡ 0 → AreZero p (at + 4) (at + 24) → AreZero p at (at + 24)
all_zero p at none rest j low high =
    let front = flagged p at (omega arith) in
    ⊎_elim (λ lt. ⊎_elim (λ first. ap (λ (k : ℕ). slice_index p k) (omega arith) ∙ front.0 ∙ none) (λ behind. front.1 j (omega arith) lt) (cases_lt j (at + 1))) (λ ge. rest j ge high) (cases_lt j (at + 4))
