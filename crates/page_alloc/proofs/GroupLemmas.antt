-- Groups of data pages, changed one by one.
use Rattle.std.proofs.Common.{◌≡◌, ◌≢◌, ℕ, ◌+◌, ◌-◌, ◌*◌, ◌/◌, ◌%◌, ◌<◌, ◌≤◌, inl, inr, true, false, not, ◌&&◌, eqb, List, length, set, refl, sym, ◌∙◌, ap, arith, eq-eqb, ne_eqb, true≢false, get_or-set_same, get_or-set_other, length-set}
use Rattle.std.proofs.lemmas.Bool.{cases_eq, cases_lt}
use Rattle.order_model.specs.Pool.{is_free}
use Rattle.page_alloc.specs.Marks.{told_in, told_after, free_word}
use Rattle.page_alloc.specs.Numbers.{holds}
use Rattle.page_alloc.specs.Kept.{marks_at, told_at, IsIndexed}
use Rattle.page_alloc.specs.declared.marks.Marks.{Marks}
use Rattle.page_alloc.specs.declared.marks.Step.{Step}
use Rattle.page_alloc.specs.declared.marks.Step.TheVariants.{Fixed}

-- the set of groups with a free page, after the marks of a group without one were set
module _ (groups : List Marks) (free later : List ℕ) (g : ℕ) (m : Marks) (held : (k : ℕ) → holds later k ≡ (not (eqb g k) && holds free k)) where
  stays : (k : ℕ) → k ≢ g → holds later k ≡ holds free k
  stays k other = held k ∙ ap (λ b. not b && holds free k) (ne_eqb g k (λ e. other (sym e)))

  is_out : holds later g ≡ false
  is_out = held g ∙ ap (λ b. not b && holds free g) (eq-eqb g g refl)

  pub indexed_removed : IsIndexed groups free → g < length groups → length later ≡ length free → ((i : ℕ) → i < 64 → is_free (told_in m i) ≡ false) → IsIndexed (set groups g m) later
  indexed_removed was within long none = record {
    room = omega (arith, was.room, long, length-set groups g m);
    none = λ k i away lt. elim (cases_eq k g) [
      | inl same ↦ ap (λ (n : Marks). is_free (told_in n i)) (ap (marks_at (set groups g m)) same ∙ get_or-set_same groups g m _ within) ∙ none i lt
      | inr other ↦ ap (λ (n : Marks). is_free (told_in n i)) (get_or-set_other groups g k m _ other) ∙ was.none k i (sym (stays k other) ∙ away) lt
    ];
    some = λ k there. elim (cases_eq k g) [
      | inl same ↦ absurd (true≢false (sym there ∙ ap (holds later) same ∙ is_out))
      | inr other ↦ λ empty. was.some k (sym (stays k other) ∙ there) (sym (ap free_word (get_or-set_other groups g k m _ other)) ∙ empty)
    ];
  }

-- a step of the count page c was told to its groups below g
pub record ToldBelow (step : Step) (c g : ℕ) (old now : List Marks) (free : List ℕ) : Type 0 where
  pub inside : (k i : ℕ) → i < 64 → 16 * c ≤ k → k < g → told_in (marks_at now k) i ≡ told_after step (told_in (marks_at old k) i)
  pub before : (k : ℕ) → k < 16 * c → marks_at now k ≡ marks_at old k
  pub behind : (k : ℕ) → g ≤ k → marks_at now k ≡ marks_at old k
  pub indexed : IsIndexed now free

pub told_more : (step : Step) (c g : ℕ) (old now : List Marks) (free later : List ℕ) (m : Marks) → ToldBelow step c g old now free → 16 * c ≤ g → g < length now
    → ((i : ℕ) → i < 64 → told_in m i ≡ told_after step (told_in (marks_at now g) i)) → IsIndexed (set now g m) later → ToldBelow step c (g + 1) old (set now g m) later
told_more step c g old now free later m so_far low within told is = record {
  inside = λ k i lt from to. elim (cases_eq k g) [
    | inl same ↦
        ap (λ (j : ℕ). told_in (marks_at (set now g m) j) i) same
        ∙ ap (λ (n : Marks). told_in n i) (get_or-set_same now g m _ within)
        ∙ told i lt
        ∙ ap (λ (n : Marks). told_after step (told_in n i)) (so_far.behind g (omega arith))
        ∙ ap (λ (j : ℕ). told_after step (told_in (marks_at old j) i)) (sym same)
    | inr other ↦ ap (λ (n : Marks). told_in n i) (get_or-set_other now g k m _ other) ∙ so_far.inside k i lt from (omega (arith, to, other))
  ];
  before = λ k lt. get_or-set_other now g k m _ (λ e. omega (arith, e, lt, low)) ∙ so_far.before k lt;
  behind = λ k le. get_or-set_other now g k m _ (λ e. omega (arith, e, le)) ∙ so_far.behind k (omega (arith, le));
  indexed = is;
}

-- told to all sixteen of them
module _ (step : Step) (c : ℕ) (old now : List Marks) (free : List ℕ) (told : ToldBelow step c (16 * c + 16) old now free) where
  pub told_inside : (p : ℕ) → (p - 1) / 1024 ≡ c → told_at now p ≡ told_after step (told_at old p)
  unfolding told_at
  told_inside p same = told.inside ((p - 1) / 64) ((p - 1) % 64) (omega arith) (omega (arith, same)) (omega (arith, same))

  pub told_outside : (p : ℕ) → (p - 1) / 1024 ≢ c → told_at now p ≡ told_at old p
  unfolding told_at
  told_outside p other =
      ap (λ (m : Marks). told_in m ((p - 1) % 64))
      (elim (cases_lt ((p - 1) / 64) (16 * c)) [
        | inl earlier ↦ told.before ((p - 1) / 64) earlier
        | inr later ↦ told.behind ((p - 1) / 64) (omega (arith, other, later))
      ])

-- The set had these count pages, and has those now that a barrier is yet to be told to.
pub record Settling (old : List Marks) (were : List ℕ) (now : List Marks) (free left : List ℕ) : Type 0 where
  pub settled : (p : ℕ) → holds were ((p - 1) / 1024) ≡ true → holds left ((p - 1) / 1024) ≡ false → told_at now p ≡ told_after Fixed (told_at old p)
  pub waiting : (p : ℕ) → holds left ((p - 1) / 1024) ≡ true → told_at now p ≡ told_at old p
  pub others : (p : ℕ) → holds were ((p - 1) / 1024) ≡ false → told_at now p ≡ told_at old p
  pub some : (c : ℕ) → holds left c ≡ true → holds were c ≡ true
  pub room : length left ≡ length were
  pub long : length now ≡ length old
  pub indexed : IsIndexed now free
