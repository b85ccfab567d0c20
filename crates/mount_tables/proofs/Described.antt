-- The tables that are made of what was read describe the image.
use Rattle.std.proofs.Common.{◌≡◌, ⊎_elim, ℕ, ◌+◌, ◌≤◌, ◌==◌, not, List, Option, None, length, sym, ◌∙◌, ap, subst, arith}
use Rattle.std.proofs.Math.ListN.{get_or-eq_default}
use Rattle.page_device.specs.Block.{Block}
use Rattle.page_device.specs.Meaning.{Meaning}
use Rattle.page_layout.specs.Numbers.{entry_of}
use Rattle.page_layout.specs.Shape.{ShapeView, count_page, count_place, print_page, print_place, first_data_page}
use Rattle.page_layout.specs.Tables.{HasShape, page_of, map_of, count_of, print_entry_of}
use Rattle.finger_table.specs.Order.{print_in}
use Rattle.array_model.specs.Counting.{live_of, counted_of, mapped_of}
use Rattle.array_model.proofs.CountingLemmas.{count_below-same, sum_below-same}
use Rattle.store_core.specs.Opened.{counted_so}
use Rattle.image_reader.specs.Looked.{Looked, Holds, TellsShape}
use Rattle.image_reader.specs.Tallies.{NamesTo, tally_of}
use Rattle.image_reader.proofs.Looking.{held_before}
use Rattle.mount_tables.specs.declared.tables.Tables.{Tables}
use Rattle.mount_tables.specs.Describes.{Describes, OfEveryDevice}
use Rattle.mount_tables.specs.Made.{IsMadeOf}
use Rattle.mount_tables.specs.Reading.{AreCounts, ArePrints, FitBetween, ReadFit}
use Rattle.mount_tables.proofs.Fits.{fit_then, fit_image}
use Rattle.page_device.specs.Disk.{newest}

-- one part of the tables more is fit
pub part_fit : (from to : ℕ) (shape : ShapeView) (known : List Block → Type 0) (d0 d1 : Meaning) → Looked d0 d1 → Holds (FitBetween 0 from shape) d0 → Holds known d0 → ReadFit from to shape known d1 → Holds (FitBetween 0 to shape) d0
part_fit from to shape known d0 d1 looked before is_known fit honest tells =
    fit_then 0 from to shape (newest d0.state) (before honest tells) (held_before (λ (i : List Block). known i → FitBetween from to shape i) d0 d1 looked fit honest tells (is_known honest tells))

module _ (shape : ShapeView) (mapped : ℕ) (counts : List ℕ) (table : List (Option (List ℕ))) (tables : Tables) (made : IsMadeOf shape mapped counts table tables) where
  pub of_every_device : print_in table 0 ≡ None → length table ≡ shape.pages + 1 → OfEveryDevice tables
  of_every_device none long = record {
    pool_shape = made.pool.shape_is ∙ sym made.shape_is;
    no_other_print = λ p other. made.printed p ∙ ⊎_elim
        (λ same. ap (print_in table) same ∙ none)
        (λ past. get_or-eq_default table None (omega (arith, past, long, ap (λ (s : ShapeView). s.pages) made.shape_is)))
        other;
  }

  module _ (image : List Block) (tallies : List ℕ) (has : HasShape image) (told : TellsShape shape image) (fit : FitBetween 0 (first_data_page shape) shape image)
      (names : NamesTo shape.pages shape.blocks (map_of image) tallies mapped) (are : AreCounts shape counts image) (prints : ArePrints shape table image) where
    count_is : (p : ℕ) → 1 ≤ p → p ≤ shape.pages → tally_of counts p ≡ count_of image p
    count_is p one le = are p one le le ∙ ap (λ (s : ShapeView). entry_of (page_of image (count_page s p)) (count_place p)) (sym told.is)

    pub described : Describes image tables
    described = record {
      shape_is = told.is ∙ sym made.shape_is;
      fit = fit_image image has (subst (λ (s : ShapeView). FitBetween 0 (first_data_page s) s image) (sym told.is) fit);
      counted = λ p one le. let within : p ≤ shape.pages = omega (arith, le, ap (λ (s : ShapeView). s.pages) told.is) in made.pool.told p one within ∙ ap counted_so (count_is p one within);
      printed = λ p one le. let within : p ≤ shape.pages = omega (arith, le, ap (λ (s : ShapeView). s.pages) made.shape_is) in
          made.printed p ∙ prints p one within within ∙ ap (λ (s : ShapeView). print_entry_of (page_of image (print_page s p)) (print_place p)) (sym told.is);
      live = made.totals.live ∙ count_below-same (λ k. not (tally_of counts (k + 1) == 0)) (λ k. not (count_of image (k + 1) == 0)) shape.pages (λ k lt. ap (λ (n : ℕ). not (n == 0)) (count_is (k + 1) (omega arith) (omega (arith, lt))))
          ∙ ap (λ (s : ShapeView). live_of (count_of image) s.pages) (sym made.shape_is);
      sum = made.totals.sum ∙ sum_below-same (λ k. tally_of counts (k + 1)) (λ k. count_of image (k + 1)) shape.pages (λ k lt. count_is (k + 1) (omega arith) (omega (arith, lt)))
          ∙ ap (λ (s : ShapeView). counted_of (count_of image) s.pages) (sym made.shape_is);
      mapped = made.totals.mapped_is ∙ names.mapped_is ∙ ap (λ (s : ShapeView). mapped_of (map_of image) s.blocks) (sym made.shape_is);
    }
