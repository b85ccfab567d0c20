-- Bytes without the zeros at their end.
use Rattle.std.proofs.Common.{◌≡◌, ℕ, ◌+◌, ◌-◌, ◌<◌, ◌≤◌, List, [], ◌∷◌, ◌++◌, length, take, get_or, refl, sym, ap, ◌∙◌, arith}
use Rattle.std.proofs.lemmas.List.{take_more}
use Rattle.trace_text.specs.Texts.{cut_before, trimmed}

-- a zero at the end is cut
trimmed-zero : (bytes : List ℕ) → trimmed (bytes ++ 0 ∷ []) ≡ trimmed bytes
unfolding trimmed
trimmed-zero [] = refl
trimmed-zero (byte ∷ rest) = ap (cut_before byte) (trimmed-zero rest)

-- nothing is cut before bytes that do not end there
cut_before-some : (byte : ℕ) (rest : List ℕ) (last : ℕ) → cut_before byte (rest ++ last ∷ []) ≡ byte ∷ (rest ++ last ∷ [])
cut_before-some byte [] last = refl
cut_before-some byte (next ∷ rest) last = refl

-- the last byte, which is not zero, stays
pub cut_before-last : (last : ℕ) → (last ≡ 0 → ⊥) → cut_before last [] ≡ last ∷ []
cut_before-last last not_zero = grind (arith)

-- another byte at the end stays, and all before it
trimmed-last : (bytes : List ℕ) (last : ℕ) → (last ≡ 0 → ⊥) → trimmed (bytes ++ last ∷ []) ≡ bytes ++ last ∷ []
unfolding trimmed
trimmed-last [] last not_zero = cut_before-last last not_zero
trimmed-last (byte ∷ rest) last not_zero = ap (cut_before byte) (trimmed-last rest last not_zero) ∙ cut_before-some byte rest last

-- the front of some bytes up to a place past its last byte
front_last : (bytes : List ℕ) (end : ℕ) → 0 < end → end ≤ length bytes
    → take end bytes ≡ take (end - 1) bytes ++ get_or bytes (end - 1) 0 ∷ []
front_last bytes end some fits =
    let e : end - 1 + 1 ≡ end = omega arith in
    rw e at (take_more bytes (end - 1) 0 (omega arith))

-- one zero less at the end
pub trimmed_shorter : (bytes : List ℕ) (end : ℕ) → 0 < end → end ≤ length bytes → get_or bytes (end - 1) 0 ≡ 0
    → trimmed (take end bytes) ≡ trimmed (take (end - 1) bytes)
trimmed_shorter bytes end some fits is_zero =
    ap trimmed (front_last bytes end some fits)
    ∙ ap (λ (byte : ℕ). trimmed (take (end - 1) bytes ++ byte ∷ [])) is_zero
    ∙ trimmed-zero (take (end - 1) bytes)

-- no zero at the end
pub trimmed_ends : (bytes : List ℕ) (end : ℕ) → 0 < end → end ≤ length bytes → (get_or bytes (end - 1) 0 ≡ 0 → ⊥)
    → trimmed (take end bytes) ≡ take end bytes
trimmed_ends bytes end some fits not_zero =
    let last = front_last bytes end some fits in
    ap trimmed last ∙ trimmed-last (take (end - 1) bytes) (get_or bytes (end - 1) 0) not_zero ∙ sym last

-- nothing is left
pub trimmed_none : (bytes : List ℕ) (end : ℕ) → end ≡ 0 → trimmed (take end bytes) ≡ take end bytes
unfolding trimmed
trimmed_none bytes end none = rw none refl
