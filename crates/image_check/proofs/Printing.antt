-- One print more, which is true, and it may be the first on a data page that nothing counts.
use Rattle.std.proofs.Common.{◌≡◌, ⊎_elim, ℕ, suc, ◌+◌, ◌≤◌, Bool, if◌then◌else◌, List, Option, Some, None, IsSome, is_some, refl, sym, ◌∙◌, ap, subst, arith, eq-eqb}
use Rattle.std.proofs.lemmas.Bool.{cases_lt, cases_eq, ne_eqb}
use Rattle.page_device.specs.Block.{Block}
use Rattle.page_layout.specs.Shape.{ShapeView, print_page, print_place}
use Rattle.page_layout.specs.Tables.{page_of, shape_of, print_of, count_of, print_entry_of}
use Rattle.image_check.specs.Verdicts.{HasTruePrint, IsBacked}
use Rattle.image_check.specs.Steps.{PrintsTo, ZeroTo, noted_zero}

-- the print of a data page stands in its entry
pub print_told : (shape : ShapeView) (image : List Block) (k i p : ℕ) (page : Block) → shape_of image ≡ shape → page_of image k ≡ page → print_page shape p ≡ k → print_place p ≡ i → print_of image p ≡ print_entry_of page i
print_told shape image k i p page told read at place =
    ap (λ (s : ShapeView). print_entry_of (page_of image (print_page s p)) (print_place p)) told ∙ ap (λ (n : ℕ). print_entry_of (page_of image n) (print_place p)) at
    ∙ ap (λ (b : Block). print_entry_of b (print_place p)) read ∙ ap (print_entry_of page) place

-- no print was looked at yet
pub prints_start : (image : List Block) → PrintsTo 0 image None
prints_start image = record { true_to = λ p one le. absurd (omega (arith, one, le)); zero_to = λ p one le. absurd (omega (arith, one, le)) }

module _ (at : ℕ) (image : List Block) (count : ℕ) (counted : count ≡ count_of image (at + 1)) where
  -- what is so of the first is so of one more
  up_to : (P : ℕ → Type 0) → ((p : ℕ) → 1 ≤ p → p ≤ at → P p) → P (at + 1) → (p : ℕ) → 1 ≤ p → p ≤ suc at → P p
  up_to P before here p one le = ⊎_elim (λ less. before p one (omega (arith, less))) (λ above. let same : at + 1 ≡ p = omega (arith, above, le) in subst P same here) (cases_lt p (at + 1))

  bare_next : (first : Option ℕ) (print : Option (List ℕ)) → print_of image (at + 1) ≡ print → ZeroTo at image first → ZeroTo (suc at) image (noted_zero first (at + 1) (is_some print) count)
  bare_next (Some bare) print is h = (h.0, omega (arith, h.1), h.2, h.3)
  bare_next None None is h = up_to (IsBacked image) h (λ some. absurd (cc (subst IsSome is some)))
  bare_next None (Some f) is h = ⊎_elim
      (λ same. subst (λ (b : Bool). ZeroTo (suc at) image (if b then Some (at + 1) else None)) (sym (eq-eqb count 0 same))
      (omega arith, omega arith, λ backed. omega (arith, backed (subst IsSome (sym is) refl), counted, same), λ q one less. h q one (omega (arith, less))))
      (λ other. subst (λ (b : Bool). ZeroTo (suc at) image (if b then Some (at + 1) else None)) (sym (ne_eqb count 0 other))
      (up_to (IsBacked image) h (λ some. omega (arith, counted, other))))
      (cases_eq count 0)

  pub prints_next : (first : Option ℕ) (print : Option (List ℕ)) → print_of image (at + 1) ≡ print → HasTruePrint image (at + 1) → PrintsTo at image first → PrintsTo (suc at) image (noted_zero first (at + 1) (is_some print) count)
  prints_next first print is true_print before = record { true_to = up_to (HasTruePrint image) before.true_to true_print; zero_to = bare_next first print is before.zero_to }
