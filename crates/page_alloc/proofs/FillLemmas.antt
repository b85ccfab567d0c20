-- A new pool, group by group.
use Rattle.std.proofs.Common.{◌≡◌, ℕ, ◌+◌, ◌-◌, ◌*◌, ◌/◌, ◌%◌, ◌<◌, ◌≤◌, inl, inr, List, refl, ◌∙◌, ap, arith}
use Rattle.std.proofs.lemmas.Bool.{cases_lt}
use Rattle.order_model.specs.Pool.{new_pool}
use Rattle.page_alloc.specs.Marks.{told_in, no_told}
use Rattle.page_alloc.specs.Kept.{marks_at, told_at, IsIndexed}
use Rattle.page_alloc.specs.declared.marks.Marks.{Marks}
use Rattle.page_alloc.proofs.BitLemmas.{none_is}

-- nothing is told of a page without marks
unmarked : (i : ℕ) → told_in (record { zero = 0; tried = 0; newest = 0 }) i ≡ no_told
unmarked i = rw none_is refl

-- so many pages are free, as far as they stand in the groups below g
pub record FilledBelow (pages g : ℕ) (groups : List Marks) (free : List ℕ) : Type 0 where
  pub inside : (k i : ℕ) → i < 64 → k < g → 64 * k + i < pages → told_in (marks_at groups k) i ≡ new_pool (64 * k + i + 1)
  pub behind : (k i : ℕ) → i < 64 → k < g → pages ≤ 64 * k + i → told_in (marks_at groups k) i ≡ no_told
  pub rest : (k : ℕ) → g ≤ k → marks_at groups k ≡ record { zero = 0; tried = 0; newest = 0 }
  pub indexed : IsIndexed groups free

-- in all groups
module _ (pages g : ℕ) (groups : List Marks) (free : List ℕ) (filled : FilledBelow pages g groups free) (enough : pages ≤ 64 * g) where
  pub filled_inside : (p : ℕ) → 1 ≤ p → p ≤ pages → told_at groups p ≡ new_pool p
  unfolding told_at
  filled_inside p first last = filled.inside ((p - 1) / 64) ((p - 1) % 64) (omega arith) (omega (arith, last, enough, first)) (omega (arith, last, first))

  pub filled_behind : (p : ℕ) → pages < p → told_at groups p ≡ no_told
  unfolding told_at
  filled_behind p far =
      elim (cases_lt ((p - 1) / 64) g) [
        | inl below ↦ filled.behind ((p - 1) / 64) ((p - 1) % 64) (omega arith) below (omega (arith, far))
        | inr past ↦ ap (λ (m : Marks). told_in m ((p - 1) % 64)) (filled.rest ((p - 1) / 64) past) ∙ unmarked ((p - 1) % 64)
      ]
