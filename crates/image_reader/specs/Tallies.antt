-- One number for each data page, and the names that are counted in them.
use Rattle.std.specs.Prelude.{◌≡◌, ℕ, ◌+◌, ◌-◌, ◌*◌, ◌<◌, ◌≤◌, ◌==◌, List, slice_index_or}
use Rattle.page_device.specs.Block.{Block}
use Rattle.page_layout.specs.Numbers.{entry_of}
use Rattle.array_model.specs.Counting.{count_below, mapped_of}

-- the tally of a data page, of which the first is 1
abbrev pub tally_of : List ℕ → ℕ → ℕ
tally_of tallies p = slice_index_or tallies (p - 1) 0

-- the names of the blocks of the map page `j`, counted from 0, are the entries of a page
pub record AreNamesOf (page : Block) (j : ℕ) (names : ℕ → ℕ) : Type 0 where
  pub each : (i : ℕ) → i < 1024 → names (1024 * j + i) ≡ entry_of page i

-- the tallies are how many of the first so many blocks name each data page, and so many of them are mapped
pub record NamesTo (pages n : ℕ) (names : ℕ → ℕ) (tallies : List ℕ) (mapped : ℕ) : Type 0 where
  pub named : (p : ℕ) → 1 ≤ p → p ≤ pages → tally_of tallies p ≡ count_below (λ block. names block == p) n
  pub mapped_is : mapped ≡ mapped_of names n
