-- The lowest free page: the lowest of the first group that has one.
use Rattle.std.proofs.Common.{◌≡◌, ◌≢◌, ℕ, ◌+◌, ◌-◌, ◌*◌, ◌/◌, ◌%◌, ◌<◌, ◌≤◌, inl, inr, true, false, not, ◌&&◌, List, length, get_or, sym, ◌∙◌, ap, arith, true≢false}
use Rattle.std.proofs.lemmas.Bool.{cases_eq, cases_lt}
use Rattle.std.proofs.lemmas.List.{get_or_past, get_or_read}
use Rattle.order_model.specs.Pool.{is_free, IsLowest}
use Rattle.order_model.specs.World.{Layout}
use Rattle.page_layout.specs.Shape.{ShapeView}
use Rattle.page_alloc.specs.Bits.{is_one, IsLowestBit}
use Rattle.page_alloc.specs.Marks.{told_in, free_word}
use Rattle.page_alloc.specs.Numbers.{holds, IsLeast, HoldsNone}
use Rattle.page_alloc.specs.Kept.{marks_at, told_at, IsIndexed, IsPool}
use Rattle.page_alloc.specs.Pool.{PoolView, pool_told, told_of, IsLaidOut}
use Rattle.page_alloc.specs.declared.marks.Marks.{Marks}
use Rattle.page_alloc.proofs.PoolLemmas.{told_of-pool}

-- a page of a group that is not in the set is not free
none_free : (groups : List Marks) (free : List ℕ) (p : ℕ) → IsIndexed groups free → holds free ((p - 1) / 64) ≡ false → is_free (told_at groups p) ≡ false
unfolding told_at
none_free groups free p indexed away = indexed.none ((p - 1) / 64) ((p - 1) % 64) away (omega arith)

-- what a view tells of the pages, where the marks do
viewed : (shape : ShapeView) (groups : List Marks) (view : PoolView) → pool_told shape (told_at groups) ≡ view → (p : ℕ) → 1 ≤ p → p ≤ view.shape.pages → told_of view p ≡ told_at groups p
viewed shape groups view is p first last =
    ap (λ (v : PoolView). told_of v p) (sym is) ∙ told_of-pool shape (told_at groups) p first (omega (arith, last, ap (λ (v : PoolView). v.shape.pages) is))

pub no_page_free : (shape : ShapeView) (groups : List Marks) (free written : List ℕ) (view : PoolView) → IsPool shape groups free written → pool_told shape (told_at groups) ≡ view → HoldsNone free
    → (p : ℕ) → 1 ≤ p → p ≤ view.shape.pages → is_free (told_of view p) ≡ false
no_page_free shape groups free written view was is none p first last = ap is_free (viewed shape groups view is p first last) ∙ none_free groups free p was.indexed (none ((p - 1) / 64))

module _ (shape : ShapeView) (groups : List Marks) (free written : List ℕ) (was : IsPool shape groups free written) (g : ℕ) (least : IsLeast free g) where
  pub group_is_there : g < length groups
  group_is_there =
      elim (cases_lt g (length groups)) [
        | inl within ↦ within
        | inr past ↦ absurd (was.indexed.some g least.here (ap free_word (get_or_past groups g _ past)))
      ]

  module _ (word : ℕ) (old : Marks) (read : old ≡ get_or groups g old) (is_word : word ≡ free_word old) (bits : (i : ℕ) → i < 64 → is_one word i ≡ is_free (told_in old i)) where
    marks_are : old ≡ marks_at groups g
    marks_are = get_or_read groups g old group_is_there read _

    pub word_is_some : word ≢ 0
    word_is_some none = was.indexed.some g least.here (sym (is_word ∙ ap free_word marks_are) ∙ none)

    bit_is : (i : ℕ) → i < 64 → is_one word i ≡ is_free (told_in (marks_at groups g) i)
    bit_is i lt = bits i lt ∙ ap (λ (m : Marks). is_free (told_in m i)) marks_are

    module _ (bit : ℕ) (low : IsLowestBit word bit) where
      page_is : (p : ℕ) → (p - 1) / 64 ≡ g → is_free (told_at groups p) ≡ is_one word ((p - 1) % 64)
      unfolding told_at
      page_is p same = ap (λ (k : ℕ). is_free (told_in (marks_at groups k) ((p - 1) % 64))) same ∙ sym (bit_is ((p - 1) % 64) (omega arith))

      lowest_free : is_free (told_at groups (64 * g + bit + 1)) ≡ true
      lowest_free =
          let within : bit < 64 = low.within in
          let group : (64 * g + bit + 1 - 1) / 64 ≡ g = omega arith in
          let place : (64 * g + bit + 1 - 1) % 64 ≡ bit = omega arith in
          page_is (64 * g + bit + 1) group ∙ ap (is_one word) place ∙ low.here

      below_free : (q : ℕ) → 1 ≤ q → q < 64 * g + bit + 1 → is_free (told_at groups q) ≡ false
      below_free q first less =
          let within : bit < 64 = low.within in
          elim (cases_lt ((q - 1) / 64) g) [
            | inl earlier ↦ none_free groups free q was.indexed (least.below ((q - 1) / 64) earlier)
            | inr later ↦
                elim (cases_eq ((q - 1) / 64) g) [
                  | inl same ↦ elim (cases_lt ((q - 1) % 64) bit) [
                    | inl lower ↦ page_is q same ∙ low.below ((q - 1) % 64) lower
                    | inr higher ↦ absurd (omega (arith, first, less, same, higher, within))
                  ]
                  | inr other ↦ absurd (omega (arith, less, later, other, within))
                ]
          ]

      pub lowest_within : 64 * g + bit + 1 ≤ shape.pages
      lowest_within =
          elim (cases_lt shape.pages (64 * g + bit + 1)) [
            | inl far ↦ absurd (true≢false (sym lowest_free ∙ ap (λ b. b && not (told_at groups (64 * g + bit + 1)).tried) (was.behind (64 * g + bit + 1) far)))
            | inr within ↦ within
          ]

      pub lowest_is_least : (view : PoolView) → pool_told shape (told_at groups) ≡ view → (lay : Layout) → IsLaidOut view.shape lay → IsLowest lay (told_of view) (64 * g + bit + 1)
      lowest_is_least view is lay laid =
          let same : shape.pages ≡ view.shape.pages = ap (λ (v : PoolView). v.shape.pages) is in
          record {
            is_data = (omega arith, omega (arith, laid.pages, same, lowest_within));
            free = ap is_free (viewed shape groups view is (64 * g + bit + 1) (omega arith) (omega (arith, same, lowest_within))) ∙ lowest_free;
            below = λ q first less. ap is_free (viewed shape groups view is q (omega (arith, first)) (omega (arith, less, same, lowest_within))) ∙ below_free q (omega (arith, first)) less;
          }

-- whether a page is free, by the word of its group
pub free_bit : (shape : ShapeView) (groups : List Marks) (free written : List ℕ) (view : PoolView) (p g bit word : ℕ) (old : Marks) → IsPool shape groups free written → pool_told shape (told_at groups) ≡ view → 1 ≤ p → p ≤ view.shape.pages
    → g ≡ (p - 1) / 64 → bit ≡ (p - 1) % 64 → old ≡ get_or groups g old → ((i : ℕ) → i < 64 → is_one word i ≡ is_free (told_in old i)) → is_one word bit ≡ is_free (told_of view p)
unfolding told_at
free_bit shape groups free written view p g bit word old was is first last at_group at_bit read bits =
    let inside : p ≤ shape.pages = omega (arith, last, ap (λ (v : PoolView). v.shape.pages) is) in
    let within : g < length groups = omega (arith, at_group, was.long, inside, first) in
    let there : old ≡ marks_at groups ((p - 1) / 64) = get_or_read groups g old within read _ ∙ ap (marks_at groups) at_group in
    bits bit (omega (arith, at_bit)) ∙ ap (λ (m : Marks). is_free (told_in m bit)) there ∙ ap (λ (b : ℕ). is_free (told_in (marks_at groups ((p - 1) / 64)) b)) at_bit
    ∙ sym (ap is_free (viewed shape groups view is p first last))
