-- A core that was just opened, and what is asked of the device and the pool that it was made for.
use Rattle.std.specs.Prelude.{◌≡◌, ◌+◌, ◌/◌, ◌≤◌, [], ℕ, List, Bool, false, not, eqb}
use Rattle.page_device.specs.Block.{Block}
use Rattle.page_device.specs.Disk.{at_rest}
use Rattle.page_device.specs.Meaning.{Meaning}
use Rattle.page_layout.specs.Shape.{ShapeView}
use Rattle.page_layout.specs.Tables.{count_of, shape_of}
use Rattle.page_cache.specs.Calls.{IsFresh}
use Rattle.order_model.specs.Pool.{Told}
use Rattle.order_model.specs.declared.Slot.{Slot}
use Rattle.page_alloc.specs.Pool.{PoolView, told_of}
use Rattle.birth_marks.specs.Births.{recorded_in}
use Rattle.array_model.specs.Images.{IsGood}
use Rattle.store_core.specs.declared.Core.{Core}
use Rattle.store_core.specs.Views.{IsKnown}
use Rattle.store_core.specs.Weaker.{mode_of}

-- No page is there, dirty or hung, nothing is owed, and no slot is recorded. A quarter more pages than the cache's list is for may be dirty or hung, and an eighth as many releases be owed.
pub record IsOpened (shape : ShapeView) (size : ℕ) (pool : PoolView) (core : Core) : Type 0 where
  pub shape_is : core.shape ≡ shape
  pub cache : IsFresh size core.engine.cache
  pub graph : core.engine.graph ≡ record { dirty = []; hung = []; edges = []; spare_nodes = 0; spare_edges = 0 }
  pub tallies : core.engine.tallies ≡ []
  pub room : size + size / 4 ≤ core.engine.room
  pub queue : core.ledger.queue ≡ record { releases = []; limit = size / 8 }
  pub pool_is : core.ledger.pool ≡ pool
  pub births : (s : Slot) → recorded_in core.ledger.births s ≡ false
  pub changes : core.ledger.births.spare ≡ 0

-- what a pool was told of a data page that is counted so, on the device and in the cache
abbrev pub counted_so : ℕ → Told
counted_so count = record { zero = eqb count 0; tried = not (eqb count 0); newest = not (eqb count 0) }

-- the pool was told of each data page as the image counts it
abbrev pub IsCounted : List Block → PoolView → Type 0
IsCounted image pool = (p : ℕ) → 1 ≤ p → p ≤ (shape_of image).pages → told_of pool p ≡ counted_so (count_of image p)

-- The device is known and has nothing pending, its pages are a good image, and the pool was told of its counts.
pub record CanOpen (sound : Bool) (d : Meaning) (pool : PoolView) : Type 0 where
  pub known : IsKnown d
  pub rest : d.state ≡ at_rest d.state.fixed
  pub good : IsGood (mode_of sound) d.state.fixed
  pub counted : IsCounted d.state.fixed pool
