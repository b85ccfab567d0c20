-- Bits of a word, tested, set and cleared.
use Rattle.std.proofs.Common.{◌≡◌, ◌≢◌, ℕ, suc, ◌-◌, ◌*◌, ◌/◌, ◌%◌, ◌^◌, ◌<◌, ◌≤◌, inl, inr, true, false, not, ◌&&◌, ◌||◌, eqb, refl, sym, ◌∙◌, ap, subst, arith, eq-eqb, ne_eqb, w64, bit_and, bit_or, pow_pos, pow_mono}
use Rattle.std.proofs.Math.Nat.{two-pow-succ}
use Rattle.std.proofs.lemmas.Bool.{cases_eq}
use Rattle.std.proofs.lemmas.Nat.{and-not, and_comm}
use Rattle.std.proofs.lemmas.Nat.Bits.{bit_at-zero, bit_at_and, bit_at_or, bit_at_not, bit_at_set_same, bit_at_set_other, bit_at_clear_same, bit_at_clear_other, and_pow, bit_at-trailing_zeros, bit_at-lt, ones_shr, bit_at_ones, bit_at_ones_above}
use Rattle.std.specs.Int.{bit_at, bit_not, trailing_zeros}
use Rattle.page_alloc.specs.Bits.{is_one, IsLowestBit}

-- of a bit that is 1, of one that is not, and back
pub one_is : (word i : ℕ) → bit_at word i ≡ 1 → is_one word i ≡ true
unfolding is_one
one_is word i one = eq-eqb _ 1 one

pub zero_is : (word i : ℕ) → bit_at word i ≡ 0 → is_one word i ≡ false
unfolding is_one
zero_is word i zero = ne_eqb _ 1 (λ one. omega (arith, one, zero))

pub is_one-bit : (word i : ℕ) → is_one word i ≡ true → bit_at word i ≡ 1
unfolding is_one
is_one-bit word i is =
    elim (cases_eq (bit_at word i) 1) [ inl one ↦ one | inr other ↦ absurd (cc (sym (ne_eqb _ 1 other) ∙ is)) ]

-- equal bits are both set or both clear
pub same_bit : (a b i : ℕ) → bit_at a i ≡ bit_at b i → is_one a i ≡ is_one b i
unfolding is_one
same_bit a b i same = ap (λ x. eqb x 1) same

pub none_is : (i : ℕ) → is_one 0 i ≡ false
none_is i = zero_is 0 i (bit_at-zero i)

pub set_bits : (word bit : ℕ) → bit < 64 → (i : ℕ) → i < 64 → is_one (bit_or word (1 * 2 ^ bit % 2 ^ 64)) i ≡ (eqb bit i || is_one word i)
set_bits word bit within i lt =
    elim (cases_eq bit i) [
      | inl same ↦ rw (← same, eq-eqb bit bit refl) (one_is _ bit (bit_at_set_same w64 word bit within))
      | inr other ↦ rw (ne_eqb bit i other) (same_bit _ word i (bit_at_set_other w64 word bit within i (λ is. other (sym is))))
    ]

pub cleared_bits : (word bit : ℕ) → bit < 64 → (i : ℕ) → i < 64 → is_one (bit_and word (2 ^ 64 - 1 - 1 * 2 ^ bit % 2 ^ 64)) i ≡ (not (eqb bit i) && is_one word i)
cleared_bits word bit within i lt =
    elim (cases_eq bit i) [
      | inl same ↦ rw (← same, eq-eqb bit bit refl) (zero_is _ bit (bit_at_clear_same w64 word bit within))
      | inr other ↦ rw (ne_eqb bit i other) (same_bit _ word i (bit_at_clear_other w64 word bit within i lt (λ is. other (sym is))))
    ]

-- a word without one of its bits is less, and never more
module _ (word bit : ℕ) (fits : word < 2 ^ 64) (within : bit < 64) where
  small : 2 ^ bit < 2 ^ 64
  small = omega (arith, two-pow-succ bit, pow_pos bit, pow_mono {i = suc bit} {j = 64} (omega arith))

  shifted : 1 * 2 ^ bit % 2 ^ 64 ≡ 2 ^ bit
  shifted = let lt = small in omega (arith, lt)

  pub cleared_at_most : bit_and word (2 ^ 64 - 1 - 1 * 2 ^ bit % 2 ^ 64) ≤ word
  cleared_at_most =
      let parts = and-not 64 (2 ^ bit) word small fits in
      subst (λ x. bit_and word (2 ^ 64 - 1 - x) ≤ word) (sym shifted) (omega (arith, parts, and_comm word (2 ^ 64 - 1 - 2 ^ bit)))

  pub cleared_less : is_one word bit ≡ true → bit_and word (2 ^ 64 - 1 - 1 * 2 ^ bit % 2 ^ 64) < word
  cleared_less is =
      let parts = and-not 64 (2 ^ bit) word small fits in
      let there : bit_and (2 ^ bit) word ≡ 1 * 2 ^ bit = and_comm _ _ ∙ and_pow word bit ∙ ap (λ x. x * 2 ^ bit) (is_one-bit word bit is) in
      subst (λ x. bit_and word (2 ^ 64 - 1 - x) < word) (sym shifted) (omega (arith, parts, there, and_comm word (2 ^ 64 - 1 - 2 ^ bit), pow_pos bit))

pub lowest_is : (word : ℕ) → word < 2 ^ 64 → word ≢ 0 → IsLowestBit word (trailing_zeros w64 word)
lowest_is word fits some =
    let h = bit_at-trailing_zeros w64 word (omega (arith, some)) fits in
    record { within = h.0; here = one_is word _ h.1; below = λ i lt. zero_is word i (h.2 i lt) }

-- so many ones
pub ones_inside : (count : ℕ) → 1 ≤ count → count ≤ 64 → (i : ℕ) → i < count → is_one ((2 ^ 64 - 1) / 2 ^ (64 - count)) i ≡ true
ones_inside count some fits i lt =
    let back : 64 - (64 - count) ≡ count = omega arith in
    rw (ones_shr 64 (64 - count) (omega arith), back) (one_is _ i (bit_at_ones count i lt))

pub ones_behind : (count : ℕ) → 1 ≤ count → count ≤ 64 → (i : ℕ) → count ≤ i → is_one ((2 ^ 64 - 1) / 2 ^ (64 - count)) i ≡ false
ones_behind count some fits i le =
    let back : 64 - (64 - count) ≡ count = omega arith in
    rw (ones_shr 64 (64 - count) (omega arith), back) (zero_is _ i (bit_at_ones_above count i le))

-- the bits of either word, and those that are not set
pub either_bits : (a b i : ℕ) → is_one (bit_or a b) i ≡ (is_one a i || is_one b i)
unfolding is_one
either_bits a b i =
    let or = bit_at_or a b i in
    elim (cases_eq (bit_at a i) 1) [
      | inl one ↦ rw (eq-eqb _ 1 one) (eq-eqb _ 1 (omega (arith, one, or, bit_at-lt b i)))
      | inr other ↦
          let same : bit_at (bit_or a b) i ≡ bit_at b i = omega (arith, or, other, bit_at-lt a i) in
          rw (ne_eqb _ 1 other) (ap (λ x. eqb x 1) same)
    ]

pub other_bits : (word i : ℕ) → word < 2 ^ 64 → i < 64 → is_one (2 ^ 64 - 1 - word) i ≡ not (is_one word i)
unfolding is_one
other_bits word i fits lt =
    let opposite : bit_at (bit_not w64 word) i ≡ 1 - bit_at word i = bit_at_not w64 word i fits lt in
    elim (cases_eq (bit_at word i) 1) [
      | inl one ↦ rw (eq-eqb _ 1 one) (ne_eqb _ 1 (λ is. omega (arith, is, opposite, one)))
      | inr other ↦ rw (ne_eqb _ 1 other) (eq-eqb _ 1 (omega (arith, opposite, other, bit_at-lt word i)))
    ]

pub with_others : (word other i : ℕ) → other < 2 ^ 64 → i < 64 → is_one (bit_or word (2 ^ 64 - 1 - other)) i ≡ (is_one word i || not (is_one other i))
with_others word other i fits lt = either_bits word (2 ^ 64 - 1 - other) i ∙ ap (λ b. is_one word i || b) (other_bits other i fits lt)

-- the bits of one word that are not bits of another
pub without_bits : (word other i : ℕ) → other < 2 ^ 64 → i < 64 → is_one (bit_and word (2 ^ 64 - 1 - other)) i ≡ (is_one word i && not (is_one other i))
unfolding is_one
without_bits word other i fits lt =
    let and = bit_at_and word (bit_not w64 other) i in
    let opposite : bit_at (bit_not w64 other) i ≡ 1 - bit_at other i = bit_at_not w64 other i fits lt in
    elim (cases_eq (bit_at word i) 1) [
      | inl one ↦
          elim (cases_eq (bit_at other i) 1) [
            | inl both ↦ rw (eq-eqb _ 1 one, eq-eqb _ 1 both) (ne_eqb _ 1 (λ is. omega (arith, is, and, opposite)))
            | inr only ↦ rw (eq-eqb _ 1 one, ne_eqb _ 1 only) (eq-eqb _ 1 (omega (arith, and, opposite, one, bit_at-lt other i)))
          ]
      | inr none ↦ rw (ne_eqb _ 1 none) (ne_eqb _ 1 (λ is. omega (arith, is, and, none, bit_at-lt word i)))
    ]
