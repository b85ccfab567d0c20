-- Numbers put into a set and taken out of it, and the least one.
use Rattle.std.proofs.Common.{◌≡◌, ◌≢◌, ℕ, ◌+◌, ◌*◌, ◌/◌, ◌%◌, ◌<◌, ◌≤◌, inl, inr, true, false, not, ◌&&◌, ◌||◌, eqb, List, length, get_or, set, sym, ◌∙◌, ap, ap₂, arith, replicate, true≢false, ◌^◌, eq-eqb, ne_eqb, get_or-set_same, get_or-set_other}
use Rattle.std.proofs.lemmas.Bool.{cases_eq, cases_lt}
use Rattle.std.proofs.lemmas.List.{get_or_past, get_or-replicate, length-replicate}
use Rattle.std.proofs.lemmas.List.Sums.{sum_by-set}
use Rattle.std.specs.Prelude.{sum}
use Rattle.page_alloc.specs.Bits.{is_one, IsLowestBit}
use Rattle.page_alloc.specs.Numbers.{holds, HoldsNone, IsLeast, IsSummary}
use Rattle.page_alloc.proofs.BitLemmas.{none_is}

-- one word is changed: its numbers, and all others
pub held_here : (words : List ℕ) (n word k : ℕ) → n < 64 * length words → k / 64 ≡ n / 64 → holds (set words (n / 64) word) k ≡ is_one word (k % 64)
unfolding holds
held_here words n word k within same =
    ap (λ w. is_one (get_or (set words (n / 64) word) w 0) (k % 64)) same
    ∙ ap (λ x. is_one x (k % 64)) (get_or-set_same words (n / 64) word 0 (omega arith))

pub held_there : (words : List ℕ) (n word k : ℕ) → k / 64 ≢ n / 64 → holds (set words (n / 64) word) k ≡ holds words k
unfolding holds
held_there words n word k apart = ap (λ x. is_one x (k % 64)) (get_or-set_other words (n / 64) (k / 64) word 0 apart)

-- a number of the same word is this one exactly where its bit is
pub eqb_bit : (n k : ℕ) → k / 64 ≡ n / 64 → eqb (n % 64) (k % 64) ≡ eqb n k
eqb_bit n k same =
    elim (cases_eq n k) [
      | inl is ↦ eq-eqb (n % 64) (k % 64) (ap (λ x. x % 64) is) ∙ sym (eq-eqb n k is)
      | inr other ↦ ne_eqb (n % 64) (k % 64) (λ is. other (omega (arith, is, same))) ∙ sym (ne_eqb n k other)
    ]

eqb_apart : (n k : ℕ) → k / 64 ≢ n / 64 → eqb n k ≡ false
eqb_apart n k apart = ne_eqb n k (λ is. apart (ap (λ x. x / 64) (sym is)))

-- the word of a number, as the set has it
word_of : (words : List ℕ) (n k : ℕ) → k / 64 ≡ n / 64 → is_one (get_or words (n / 64) 0) (k % 64) ≡ holds words k
unfolding holds
word_of words n k same = ap (λ w. is_one (get_or words w 0) (k % 64)) (sym same)

pub set_holds : (words : List ℕ) (n word : ℕ) → n < 64 * length words → ((i : ℕ) → i < 64 → is_one word i ≡ (eqb (n % 64) i || is_one (get_or words (n / 64) 0) i))
    → (k : ℕ) → holds (set words (n / 64) word) k ≡ (eqb n k || holds words k)
set_holds words n word within bits k =
    elim (cases_eq (k / 64) (n / 64)) [
      | inl same ↦ held_here words n word k within same ∙ bits (k % 64) (omega arith) ∙ ap₂ (λ a b. a || b) (eqb_bit n k same) (word_of words n k same)
      | inr apart ↦ held_there words n word k apart ∙ ap (λ b. b || holds words k) (sym (eqb_apart n k apart))
    ]

pub clear_holds : (words : List ℕ) (n word : ℕ) → n < 64 * length words → ((i : ℕ) → i < 64 → is_one word i ≡ (not (eqb (n % 64) i) && is_one (get_or words (n / 64) 0) i))
    → (k : ℕ) → holds (set words (n / 64) word) k ≡ (not (eqb n k) && holds words k)
clear_holds words n word within bits k =
    elim (cases_eq (k / 64) (n / 64)) [
      | inl same ↦ held_here words n word k within same ∙ bits (k % 64) (omega arith) ∙ ap₂ (λ a b. not a && b) (eqb_bit n k same) (word_of words n k same)
      | inr apart ↦ held_there words n word k apart ∙ ap (λ b. not b && holds words k) (sym (eqb_apart n k apart))
    ]

-- with less in a word, the words are less in all
pub clear_less : (words : List ℕ) (n word : ℕ) → n < 64 * length words → word < get_or words (n / 64) 0 → sum (set words (n / 64) word) < sum words
clear_less words n word within less = omega (arith, sum_by-set (λ x. x) words (n / 64) word 0 (omega arith), less)

pub bit_holds : (words : List ℕ) (n : ℕ) → holds words n ≡ true → is_one (get_or words (n / 64) 0) (n % 64) ≡ true
unfolding holds
bit_holds words n is = is

-- the numbers of an empty word are not in the set
pub word_holds_none : (words : List ℕ) (k : ℕ) → get_or words (k / 64) 0 ≡ 0 → holds words k ≡ false
unfolding holds
word_holds_none words k none = ap (λ x. is_one x (k % 64)) none ∙ none_is (k % 64)

pub none_past : (words : List ℕ) (k : ℕ) → 64 * length words ≤ k → holds words k ≡ false
none_past words k past = word_holds_none words k (get_or_past words (k / 64) 0 (omega arith))

-- the least number is in the first word that has one
pub least_here : (words : List ℕ) (i bit : ℕ) → i < length words → ((k : ℕ) → k < 64 * i → holds words k ≡ false) → IsLowestBit (get_or words i 0) bit → IsLeast words (64 * i + bit)
unfolding holds
least_here words i bit lt before low =
    let within : bit < 64 = low.within in
    let word : (64 * i + bit) / 64 ≡ i = omega arith in
    let place : (64 * i + bit) % 64 ≡ bit = omega arith in
    record {
      within = omega arith;
      here = ap₂ (λ w b. is_one (get_or words w 0) b) word place ∙ low.here;
      below = λ k less. elim (cases_lt k (64 * i)) [
        | inl earlier ↦ before k earlier
        | inr later ↦
            let same : k / 64 ≡ i = omega arith in
            ap (λ w. is_one (get_or words w 0) (k % 64)) same ∙ low.below (k % 64) (omega arith)
      ];
    }

-- one more word has none
pub none_more : (words : List ℕ) (i : ℕ) → ((k : ℕ) → k < 64 * i → holds words k ≡ false) → get_or words i 0 ≡ 0 → (k : ℕ) → k < 64 * (i + 1) → holds words k ≡ false
none_more words i before none k less =
    elim (cases_lt k (64 * i)) [
      | inl earlier ↦ before k earlier
      | inr later ↦
          let same : k / 64 ≡ i = omega arith in
          word_holds_none words k (ap (λ w. get_or words w 0) same ∙ none)
    ]

-- a word that holds a number is not empty
some_word : (words : List ℕ) (n : ℕ) → holds words n ≡ true → get_or words (n / 64) 0 ≢ 0
some_word words n held none = true≢false (sym held ∙ word_holds_none words n none)

-- the upper bits after a number was put in
pub summary_set : (words tops later tops_later : List ℕ) (n : ℕ) → IsSummary words tops → length later ≡ length words → length tops_later ≡ length tops
    → ((w : ℕ) → w ≢ n / 64 → get_or later w 0 ≡ get_or words w 0) → holds later n ≡ true → ((w : ℕ) → holds tops_later w ≡ (eqb (n / 64) w || holds tops w))
    → IsSummary later tops_later
summary_set words tops later tops_later n was len len_tops others held top = record {
  room = omega (arith, was.room);
  few = omega (arith, was.few);
  few_tops = omega (arith, was.few_tops);
  is = λ w. elim (cases_eq w (n / 64)) [
    | inl same ↦ top w ∙ ap (λ b. b || holds tops w) (eq-eqb (n / 64) w (sym same)) ∙ sym (ap not (ne_eqb (get_or later w 0) 0 (λ none. some_word later n held (sym (ap (λ k. get_or later k 0) same) ∙ none))))
    | inr apart ↦
        top w ∙ ap (λ b. b || holds tops w) (ne_eqb (n / 64) w (λ is. apart (sym is)))
        ∙ was.is w ∙ ap (λ x. not (eqb x 0)) (sym (others w apart))
  ];
}

-- nothing is in a set of empty words
zero_word : (n i : ℕ) → ◌≡◌ {A = ℕ} (get_or (replicate n 0) i 0) 0
zero_word n i = elim (cases_lt i n) [ inl within ↦ get_or-replicate n i 0 0 within | inr past ↦ get_or_past (replicate n 0) i 0 (omega (arith, length-replicate {A = ℕ} n 0)) ]

pub zeros_hold_none : (n k : ℕ) → holds (replicate n 0) k ≡ false
zeros_hold_none n k = word_holds_none (replicate n 0) k (zero_word n (k / 64))

pub summary_new : (m n : ℕ) → m ≤ 64 * n → m < 2 ^ 32 → n < 2 ^ 32 → IsSummary (replicate m 0) (replicate n 0)
summary_new m n room few few_tops = record {
  room = omega (arith, length-replicate {A = ℕ} m 0, length-replicate {A = ℕ} n 0);
  few = omega (arith, length-replicate {A = ℕ} m 0);
  few_tops = omega (arith, length-replicate {A = ℕ} n 0);
  is = λ w. zeros_hold_none n w ∙ sym (ap not (eq-eqb (get_or (replicate m 0) w 0) 0 (zero_word m w)));
}

-- the first word with a number has the least one
module _ (words tops : List ℕ) (is : IsSummary words tops) where
  pub word_within : (w : ℕ) → holds tops w ≡ true → w < length words
  word_within w held =
      elim (cases_lt w (length words)) [
        | inl within ↦ within
        | inr past ↦ absurd (true≢false (sym held ∙ is.is w ∙ ap not (eq-eqb (get_or words w 0) 0 (get_or_past words w 0 past))))
      ]

  pub word_empty : (w : ℕ) → holds tops w ≡ false → get_or words w 0 ≡ 0
  word_empty w held =
      elim (cases_eq (get_or words w 0) 0) [
        | inl none ↦ none
        | inr some ↦ absurd (true≢false (sym (ap not (ne_eqb (get_or words w 0) 0 some)) ∙ sym (is.is w) ∙ held))
      ]

  pub least_in : (w bit : ℕ) → IsLeast tops w → IsLowestBit (get_or words w 0) bit → IsLeast words (64 * w + bit)
  least_in w bit first low =
      least_here words w bit (word_within w first.here) (λ k less. word_holds_none words k (word_empty (k / 64) (first.below (k / 64) (omega arith)))) low

  pub none_in : HoldsNone tops → HoldsNone words
  none_in none k = word_holds_none words k (word_empty (k / 64) (none (k / 64)))
