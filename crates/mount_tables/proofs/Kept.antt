-- What is kept of a count page or a print page that was read.
use Rattle.std.proofs.Common.{◌≡◌, ⊎_elim, ◌⊎◌, inl, ℕ, ◌+◌, ◌-◌, ◌*◌, ◌<◌, ◌≤◌, List, Option, sym, ◌∙◌, ap, arith}
use Rattle.std.proofs.lemmas.Bool.{cases_lt}
use Rattle.page_device.specs.Block.{Block}
use Rattle.page_layout.specs.Numbers.{entry_of}
use Rattle.page_layout.specs.Shape.{ShapeView, count_page, count_place, first_count_page, print_page, print_place, first_print_page}
use Rattle.page_layout.specs.Tables.{page_of, print_entry_of}
use Rattle.page_layout.specs.Entries.{IsEntry}
use Rattle.page_layout.specs.declared.shape.Table.TheVariants.{Count}
use Rattle.finger_table.specs.Order.{print_in}
use Rattle.image_reader.specs.Tallies.{tally_of}
use Rattle.mount_tables.specs.Reading.{AreCountsUpTo, ArePrintsUpTo}

module _ (shape : ShapeView) (k : ℕ) (page : Block) where
  module _ (low : first_count_page shape ≤ k) (old new : List ℕ)
      (here : (i : ℕ) → i < 1024 → 1024 * (k - first_count_page shape) + i < shape.pages → tally_of new (1024 * (k - first_count_page shape) + i + 1) ≡ entry_of page i)
      (others : (p : ℕ) → 1 ≤ p → (p ≤ 1024 * (k - first_count_page shape)) ⊎ (1024 * (k - first_count_page shape + 1) < p) → tally_of new p ≡ tally_of old p) where
    -- the number of a data page of this count page
    count_here : (p : ℕ) → 1024 * (k - first_count_page shape) < p → p ≤ 1024 * (k + 1 - first_count_page shape) → p ≤ shape.pages → tally_of new p ≡ entry_of page (p - 1 - 1024 * (k - first_count_page shape))
    count_here p above upto le =
        let i = p - 1 - 1024 * (k - first_count_page shape) in
        let at : 1024 * (k - first_count_page shape) + i + 1 ≡ p = omega (arith, above) in
        ap (tally_of new) (sym at) ∙ here i (omega (arith, above, upto, low)) (omega (arith, above, le))

    -- the numbers up to this count page are counts
    pub counts_kept : (image : List Block) → page_of image k ≡ page → AreCountsUpTo (1024 * (k - first_count_page shape)) shape old image → AreCountsUpTo (1024 * (k + 1 - first_count_page shape)) shape new image
    counts_kept image read before p one upto le = ⊎_elim
        (λ above.
        let i = p - 1 - 1024 * (k - first_count_page shape) in
        let at : k ≡ count_page shape p = omega (arith, above, upto, low) in
        let place : i ≡ count_place p = omega (arith, above, upto, low) in
        count_here p above upto le ∙ ap (λ (b : Block). entry_of b i) (sym read) ∙ ap (λ (n : ℕ). entry_of (page_of image n) i) at ∙ ap (entry_of (page_of image (count_page shape p))) place)
        (λ under. others p one (inl under) ∙ before p one under le)
        (cases_lt (1024 * (k - first_count_page shape)) p)

    -- and none is above the highest
    pub few_kept : ((i : ℕ) → i < 1024 → IsEntry Count shape k page i) → ((p : ℕ) → 1 ≤ p → p ≤ 1024 * (k - first_count_page shape) → p ≤ shape.pages → tally_of old p ≤ 2147483647)
        → (p : ℕ) → 1 ≤ p → p ≤ 1024 * (k + 1 - first_count_page shape) → p ≤ shape.pages → tally_of new p ≤ 2147483647
    few_kept formed before p one upto le = ⊎_elim
        (λ above.
        let i = p - 1 - 1024 * (k - first_count_page shape) in
        omega (arith, count_here p above upto le, (formed i (omega (arith, above, upto, low))).within (omega (arith, above, le))))
        (λ under. omega (arith, others p one (inl under), before p one under le))
        (cases_lt (1024 * (k - first_count_page shape)) p)

  -- the prints up to this print page
  module _ (low : first_print_page shape ≤ k) (old new : List (Option (List ℕ)))
      (here : (i : ℕ) → i < 170 → 170 * (k - first_print_page shape) + i < shape.pages → print_in new (170 * (k - first_print_page shape) + i + 1) ≡ print_entry_of page i)
      (others : (p : ℕ) → (p ≤ 170 * (k - first_print_page shape)) ⊎ (170 * (k - first_print_page shape + 1) < p) → print_in new p ≡ print_in old p) where
    pub prints_kept : (image : List Block) → page_of image k ≡ page → ArePrintsUpTo (170 * (k - first_print_page shape)) shape old image → ArePrintsUpTo (170 * (k + 1 - first_print_page shape)) shape new image
    prints_kept image read before p one upto le = ⊎_elim
        (λ above.
        let i = p - 1 - 170 * (k - first_print_page shape) in
        let own : 170 * (k - first_print_page shape) + i + 1 ≡ p = omega (arith, above) in
        let at : k ≡ print_page shape p = omega (arith, above, upto, low) in
        let place : i ≡ print_place p = omega (arith, above, upto, low) in
        ap (print_in new) (sym own) ∙ here i (omega (arith, above, upto, low)) (omega (arith, above, le)) ∙ ap (λ (b : Block). print_entry_of b i) (sym read) ∙ ap (λ (n : ℕ). print_entry_of (page_of image n) i) at ∙ ap (print_entry_of (page_of image (print_page shape p))) place)
        (λ under. others p (inl under) ∙ before p one under le)
        (cases_lt (170 * (k - first_print_page shape)) p)
