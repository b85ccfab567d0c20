-- The lists as the code searches them.
use Rattle.std.proofs.Common.{◌≡◌, ◌↔◌, ⊎_elim, ℕ, ◌<◌, ◌&&◌, Bool, true, false, List, length, sym, subst, ap, arith, get_or, slice_index, Option, Some, refl}
use Rattle.std.specs.List.Sorted.{IsNonDecreasingBy, IsStrictlyIncreasing}
use Rattle.std.proofs.lemmas.Bool.{cases_eq}
use Rattle.std.proofs.lemmas.List.{get_or_default}
use Rattle.finger_table.specs.Order.{IsPrint, key_in, print_in, bucket_of}
use Rattle.finger_table.specs.Index.{StandsIn, IsIndexed, IsRange}
use Rattle.finger_table.proofs.Found.{part_rises, part_exact}

-- both hold
pub both_true : (a b : Bool) → (a && b) ≡ true → (a ≡ true) × (b ≡ true)
both_true true b is = (refl, is)
both_true false b is = absurd cc

-- a list is in order
pub order_of : (table : List (Option (List ℕ))) (lists : ℕ → List ℕ) → IsIndexed (print_in table) lists → (b : ℕ) → IsNonDecreasingBy (key_in table) (lists b)
order_of table lists index b = λ i j d le lt. ⊎_elim (λ e. omega (arith, ap (λ (k : ℕ). key_in table (get_or (lists b) k d)) e))
    (λ ne. omega (arith, index.rises b i j (omega (arith, ne)) lt, ap (key_in table) (same i d (omega arith)), ap (key_in table) (same j d lt))) (cases_eq i j)
  where
    same : (k d : ℕ) → k < length (lists b) → get_or (lists b) k d ≡ slice_index (lists b) k
    same k d within = get_or_default (lists b) k d 0 within

module _ (table : List (Option (List ℕ))) (lists : ℕ → List ℕ) (index : IsIndexed (print_in table) lists) (print : List ℕ) (is_print : IsPrint print)
    (pages part : List ℕ) (list : pages ≡ lists (bucket_of print)) (range : IsRange table pages print part) where
  its_range : IsRange table (lists (bucket_of print)) print part
  its_range = subst (λ (xs : List ℕ). IsRange table xs print part) list range

  -- the part of a print rises
  pub range_rises : IsStrictlyIncreasing part
  range_rises = subst IsStrictlyIncreasing (sym its_range.is)
      (part_rises (print_in table) lists index print is_print its_range.first its_range.end its_range.first_within its_range.end_within its_range.first_before its_range.first_behind its_range.end_before its_range.end_behind)

  -- and is exactly its pages
  pub range_exact : (p : ℕ) → (StandsIn part p ↔ (print_in table p ≡ Some print))
  range_exact p = subst (λ (xs : List ℕ). StandsIn xs p ↔ (print_in table p ≡ Some print)) (sym its_range.is)
      (part_exact (print_in table) lists index print is_print its_range.first its_range.end its_range.first_within its_range.end_within its_range.first_before its_range.first_behind its_range.end_before its_range.end_behind p)
