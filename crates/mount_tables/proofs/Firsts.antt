-- The first of two faults.
use Rattle.std.proofs.Common.{◌≡◌, ⊎_elim, ℕ, suc, ◌<◌, List, Option, Some, None, min, arith, subst, sym}
use Rattle.std.proofs.lemmas.Bool.{cases_lt}
use Rattle.page_layout.specs.Entries.{IsFirstFault}
use Rattle.page_device.specs.Block.{Block}
use Rattle.page_layout.specs.Shape.{ShapeView}
use Rattle.mount_tables.specs.Faults.{IsFitEntry, IsFirstFrom}
use Rattle.mount_tables.specs.Reading.{lower_of, FitBetween}

module _ (A B : ℕ → Type 0) (n : ℕ) where
  -- the lower of the first faults is the first fault of both
  pub first_of_both : (a b : Option ℕ) → IsFirstFault A n a → IsFirstFault B n b → IsFirstFault (λ i. A i × B i) n (lower_of a b)
  first_of_both None None f g = λ i lt. (f i lt, g i lt)
  first_of_both None (Some b) f g = (g.0, λ h. g.1 h.1, λ j lt. (f j (omega (arith, lt, g.0)), g.2 j lt))
  first_of_both (Some a) None f g = (f.0, λ h. f.1 h.0, λ j lt. (f.2 j lt, g j (omega (arith, lt, f.0))))
  first_of_both (Some a) (Some b) f g = ⊎_elim
      (λ lt. let same : min a b ≡ a = omega (arith, lt) in
      subst (λ (m : ℕ). IsFirstFault (λ i. A i × B i) n (Some m)) (sym same) (f.0, λ h. f.1 h.0, λ j less. (f.2 j less, g.2 j (omega (arith, less, lt)))))
      (λ le. let same : min a b ≡ b = omega (arith, le) in
      subst (λ (m : ℕ). IsFirstFault (λ i. A i × B i) n (Some m)) (sym same) (g.0, λ h. g.1 h.1, λ j less. (f.2 j (omega (arith, less, le)), g.2 j less)))
      (cases_lt a b)

-- nothing is asked between a page and itself
pub fit_none : (from : ℕ) (shape : ShapeView) (image : List Block) → FitBetween from from shape image
fit_none from shape image k i low high = absurd (omega (arith, low, high))

-- one page more, of which a test of each entry tells whether it is fit
module _ (from k n : ℕ) (shape : ShapeView) (image : List Block) (T : ℕ → Type 0) (fit : (i : ℕ) → (i < n → T i) → IsFitEntry shape image k i) (of : (i : ℕ) → IsFitEntry shape image k i → i < n → T i)
    (before : FitBetween from k shape image) where
  pub fit_more : IsFirstFault T n None → FitBetween from (suc k) shape image
  fit_more none q i low high = ⊎_elim
      (λ lt. before q i low lt)
      (λ le. let same : k ≡ q = omega (arith, le, high) in subst (λ (m : ℕ). IsFitEntry shape image m i) same (fit i (λ lt. none i lt)))
      (cases_lt q k)

  pub first_here : (e : ℕ) → IsFirstFault T n (Some e) → IsFirstFrom from shape image (record { page = k; entry = e })
  first_here e first = record {
    fault = λ h. first.1 (of e h first.0);
    first = λ q i low order. ⊎_elim
        (λ lt. before q i low lt)
        (λ same. subst (λ (m : ℕ). IsFitEntry shape image m i) (sym same.0) (fit i (λ _. first.2 i same.1)))
        order;
  }
