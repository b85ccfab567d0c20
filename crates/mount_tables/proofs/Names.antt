-- The names of the blocks of a map page that was read.
use Rattle.std.proofs.Common.{◌≡◌, ℕ, ◌+◌, ◌-◌, ◌*◌, ◌≤◌, List, ◌∙◌, ap, arith}
use Rattle.page_device.specs.Block.{Block}
use Rattle.page_layout.specs.Numbers.{entry_of}
use Rattle.page_layout.specs.Shape.{map_page, map_place}
use Rattle.page_layout.specs.Tables.{page_of, map_of}
use Rattle.image_reader.specs.Tallies.{AreNamesOf}

-- are its entries
pub names_of_page : (image : List Block) (k : ℕ) (page : Block) → 1 ≤ k → page_of image k ≡ page → AreNamesOf page (k - 1) (map_of image)
names_of_page image k page low read = record {
  each = λ i lt.
      let block = 1024 * (k - 1) + i in
      let at : map_page block ≡ k = omega (arith, low, lt) in
      let place : map_place block ≡ i = omega (arith, lt) in
      ap (λ (n : ℕ). entry_of (page_of image n) (map_place block)) at ∙ ap (entry_of (page_of image k)) place ∙ ap (λ (b : Block). entry_of b i) read;
}
