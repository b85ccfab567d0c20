-- What is made of the counts and prints of an image.
use Rattle.std.specs.Prelude.{◌≡◌, ℕ, ◌≤◌, List, Option, eqb, false}
use Rattle.order_model.specs.Pool.{Told}
use Rattle.page_layout.specs.Shape.{ShapeView}
use Rattle.page_alloc.specs.Pool.{PoolView, told_of}
use Rattle.finger_table.specs.Order.{print_in}
use Rattle.finger_table.specs.Index.{print_at}
use Rattle.array_model.specs.Counting.{live_of, counted_of}
use Rattle.image_reader.specs.Tallies.{tally_of}
use Rattle.store_core.specs.Opened.{counted_so}
use Rattle.store_core.specs.declared.totals.Totals.{Totals}
use Rattle.mount_tables.specs.declared.tables.Tables.{Tables}

-- what a pool was told of a data page that is counted so, before its count page is told as written
abbrev pub taken_so : ℕ → Told
taken_so count = record { zero = eqb count 0; tried = false; newest = false }

-- a pool of this shape was told of each data page as it is counted
pub record IsToldOf (shape : ShapeView) (counts : List ℕ) (pool : PoolView) : Type 0 where
  pub shape_is : pool.shape ≡ shape
  pub told : (p : ℕ) → 1 ≤ p → p ≤ shape.pages → told_of pool p ≡ counted_so (tally_of counts p)

-- the totals of so many counts, and of the blocks that are mapped
pub record AreTotalsOf (pages : ℕ) (counts : List ℕ) (mapped : ℕ) (totals : Totals) : Type 0 where
  pub live : totals.live ≡ live_of (tally_of counts) pages
  pub sum : totals.sum ≡ counted_of (tally_of counts) pages
  pub mapped_is : totals.mapped ≡ mapped

-- no count is above the highest
abbrev pub AreFew : ℕ → List ℕ → Type 0
AreFew pages counts = (p : ℕ) → 1 ≤ p → p ≤ pages → tally_of counts p ≤ 2147483647

-- the tables are made of these
pub record IsMadeOf (shape : ShapeView) (mapped : ℕ) (counts : List ℕ) (table : List (Option (List ℕ))) (tables : Tables) : Type 0 where
  pub shape_is : tables.shape ≡ shape
  pub pool : IsToldOf shape counts tables.pool
  pub printed : (p : ℕ) → print_at tables.prints p ≡ print_in table p
  pub totals : AreTotalsOf shape.pages counts mapped tables.totals
