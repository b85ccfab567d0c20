-- The test of a table page tells whether it is well formed.
use Rattle.std.proofs.Common.{◌≡◌, ◌↔◌, inl, inr, ℕ, zero, suc, ◌+◌, ◌-◌, ◌*◌, ◌<◌, ◌≤◌, Bool, true, false, ◌&&◌, ◌||◌, not, cond, eqb, nat_le, nat_lt, Option, Some, refl, sym, ◌∙◌, ap, subst, arith, eqb-true, eq-eqb, ne_eqb, slice_index, lt-ltb, le-ltb}
use Rattle.std.proofs.lemmas.Bool.{and_from, and_parts, cases_Bool, cases_eq, cases_lt, le-leb, leb-true, or_cases, or_left, or_right, true≢false}
use Rattle.page_device.specs.Block.{Block}
use Rattle.page_layout.specs.Numbers.{entry_of}
use Rattle.page_layout.specs.Shape.{ShapeView, count_pages, first_count_page, first_print_page, map_pages, print_pages}
use Rattle.page_layout.specs.Tables.{AreZero, IsCountPage, IsMapPage, IsPrintEntry, IsPrintPage}
use Rattle.page_layout.specs.Entries.{IsTablePage, table_at}
use Rattle.page_layout.specs.Formed.{all_below, are_numbers, are_prints, are_zero, is_formed, is_formed_as, is_print_entry}
use Rattle.page_layout.specs.declared.shape.Table.{Table}
use Rattle.page_layout.specs.declared.shape.Table.TheVariants.{Map, Count, Print}
use Rattle.page_layout.proofs.Laws.{count_table, map_table, print_table}

each_below : (n : ℕ) (passes : ℕ → Bool) → all_below n passes ≡ true → (i : ℕ) → i < n → passes i ≡ true
unfolding all_below
each_below zero passes all i lt = absurd (omega (arith, lt))
each_below (suc n) passes all i lt = elim (cases_eq i n) [
  | inl e ↦ ap passes e ∙ (and_parts _ _ all).0
  | inr ne ↦ each_below n passes (and_parts _ _ all).1 i (omega (arith, lt, ne))
]

from_each : (n : ℕ) (passes : ℕ → Bool) → ((i : ℕ) → i < n → passes i ≡ true) → all_below n passes ≡ true
unfolding all_below
from_each zero passes each = refl
from_each (suc n) passes each = and_from _ _ (each n (omega arith)) (from_each n passes (λ i lt. each i (omega (arith, lt))))

-- bytes that are zero
zeros_pass : (page : Block) (from to : ℕ) → AreZero page from to → are_zero page from to ≡ true
zeros_pass page from to zeros = from_each to _ (λ j lt. elim (cases_lt j from) [
  | inl before ↦ or_left _ _ (lt-ltb j from before)
  | inr le ↦ or_right _ _ (eq-eqb _ _ (zeros j le lt))
])

zeros_are : (page : Block) (from to : ℕ) → are_zero page from to ≡ true → AreZero page from to
zeros_are page from to all j le lt = elim (or_cases _ _ (each_below to _ all j lt)) [
  | inl before ↦ absurd (true≢false (sym before ∙ le-ltb j from le))
  | inr zero' ↦ eqb-true _ _ zero'
]

-- numbers, of which so many are used in all
module _ (used limit k : ℕ) (page : Block) where
  abbrev here : ℕ → Bool → Bool
  here i b = cond b (nat_le (entry_of page i) limit) (eqb (entry_of page i) 0)

  numbers_used : are_numbers used limit k page ≡ true → (i : ℕ) → i < 1024 → 1024 * k + i < used → entry_of page i ≤ limit
  numbers_used all i lt before = leb-true _ _ (sym (ap (here i) (lt-ltb _ _ before)) ∙ each_below 1024 _ all i lt)

  numbers_behind : are_numbers used limit k page ≡ true → (i : ℕ) → i < 1024 → used ≤ 1024 * k + i → entry_of page i ≡ 0
  numbers_behind all i lt behind = eqb-true _ _ (sym (ap (here i) (le-ltb _ _ behind)) ∙ each_below 1024 _ all i lt)

  numbers_pass : ((i : ℕ) → i < 1024 → 1024 * k + i < used → entry_of page i ≤ limit) → ((i : ℕ) → i < 1024 → used ≤ 1024 * k + i → entry_of page i ≡ 0)
      → are_numbers used limit k page ≡ true
  numbers_pass within behind = from_each 1024 _ (λ i lt. elim (cases_lt (1024 * k + i) used) [
    | inl before ↦ ap (here i) (lt-ltb _ _ before) ∙ le-leb _ _ (within i lt before)
    | inr after ↦ ap (here i) (le-ltb _ _ after) ∙ eq-eqb _ _ (behind i lt after)
  ])

entry_passes : (page : Block) (i : ℕ) → IsPrintEntry page i → is_print_entry page i ≡ true
entry_passes page i e = and_from _ _ (le-leb _ _ e.flag) (and_from _ _ (zeros_pass page _ _ e.padding) (elim (cases_eq (slice_index page (24 * i)) 0) [
  | inl none ↦ or_right _ _ (zeros_pass page _ _ (e.none none))
  | inr some ↦ or_left _ _ (ap not (ne_eqb _ _ some))
]))

is_entry : (page : Block) (i : ℕ) → is_print_entry page i ≡ true → IsPrintEntry page i
is_entry page i all =
    let parts = and_parts _ _ all in
    let rest = and_parts _ _ parts.1 in
    record {
      flag = leb-true _ _ parts.0;
      padding = zeros_are page _ _ rest.0;
      none = λ none. elim (or_cases _ _ rest.1) [
        | inl some ↦ absurd (true≢false (sym some ∙ ap not (eq-eqb _ _ none)))
        | inr zeros ↦ zeros_are page _ _ zeros
      ];
    }

module _ (shape : ShapeView) (k : ℕ) (page : Block) where
  abbrev place : ℕ → Bool → Bool
  place i b = cond b (is_print_entry page i) (are_zero page (24 * i) (24 * i + 24))

  prints_pass : IsPrintPage shape k page → are_prints shape.pages k page ≡ true
  prints_pass is = and_from _ _ (from_each 170 _ (λ i lt. elim (cases_lt (170 * k + i) shape.pages) [
    | inl before ↦ ap (place i) (lt-ltb _ _ before) ∙ entry_passes page i (is.used i lt before)
    | inr after ↦ ap (place i) (le-ltb _ _ after) ∙ zeros_pass page _ _ (is.rest i lt after)
  ])) (zeros_pass page 4080 4096 is.tail)

  prints_are : are_prints shape.pages k page ≡ true → IsPrintPage shape k page
  prints_are all = let parts = and_parts _ _ all in record {
    used = λ i lt before. is_entry page i (sym (ap (place i) (lt-ltb _ _ before)) ∙ each_below 170 _ parts.0 i lt);
    rest = λ i lt after. zeros_are page (24 * i) (24 * i + 24) (sym (ap (place i) (le-ltb _ _ after)) ∙ each_below 170 _ parts.0 i lt);
    tail = zeros_are page 4080 4096 parts.1;
  }

formed_as : (t : Table) (shape : ShapeView) (page : ℕ) (content : Block) → (is_formed_as (Some t) shape page content ≡ true) ↔ IsTablePage t shape page content
formed_as Map shape page content = (
  λ all. record { used = numbers_used shape.blocks shape.pages (page - 1) content all; rest = numbers_behind shape.blocks shape.pages (page - 1) content all },
  λ is. numbers_pass shape.blocks shape.pages (page - 1) content is.used is.rest,
)
formed_as Count shape page content = (
  λ all. record {
    used = numbers_used shape.pages 2147483647 (page - first_count_page shape) content all;
    rest = numbers_behind shape.pages 2147483647 (page - first_count_page shape) content all;
  },
  λ is. numbers_pass shape.pages 2147483647 (page - first_count_page shape) content is.used is.rest,
)
formed_as Print shape page content = (prints_are shape (page - first_print_page shape) content, prints_pass shape (page - first_print_page shape) content)

pub formed_at : (shape : ShapeView) (t : Table) (page : ℕ) (content : Block) → table_at shape page ≡ Some t → (is_formed shape page content ≡ true) ↔ IsTablePage t shape page content
unfolding is_formed
formed_at shape t page content is = subst (λ (o : Option Table). (is_formed_as o shape page content ≡ true) ↔ IsTablePage t shape page content) (sym is) (formed_as t shape page content)

pub formed_map : (shape : ShapeView) (k : ℕ) (content : Block) → k < map_pages shape → (is_formed shape (1 + k) content ≡ true) ↔ IsMapPage shape k content
formed_map shape k content lt =
    let at : 1 + k - 1 ≡ k = omega arith in
    subst (λ (n : ℕ). (is_formed shape (1 + k) content ≡ true) ↔ IsMapPage shape n content) at
    (formed_at shape Map (1 + k) content (map_table shape (1 + k) (omega arith) (omega (arith, lt))))

pub formed_count : (shape : ShapeView) (k : ℕ) (content : Block) → k < count_pages shape → (is_formed shape (first_count_page shape + k) content ≡ true) ↔ IsCountPage shape k content
formed_count shape k content lt =
    let at : first_count_page shape + k - first_count_page shape ≡ k = omega arith in
    subst (λ (n : ℕ). (is_formed shape (first_count_page shape + k) content ≡ true) ↔ IsCountPage shape n content) at
    (formed_at shape Count (first_count_page shape + k) content (count_table shape (first_count_page shape + k) (omega arith) (omega (arith, lt))))

pub formed_print : (shape : ShapeView) (k : ℕ) (content : Block) → k < print_pages shape → (is_formed shape (first_print_page shape + k) content ≡ true) ↔ IsPrintPage shape k content
formed_print shape k content lt =
    let at : first_print_page shape + k - first_print_page shape ≡ k = omega arith in
    subst (λ (n : ℕ). (is_formed shape (first_print_page shape + k) content ≡ true) ↔ IsPrintPage shape n content) at
    (formed_at shape Print (first_print_page shape + k) content (print_table shape (first_print_page shape + k) (omega arith) (omega (arith, lt))))
