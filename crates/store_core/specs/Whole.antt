-- What every core keeps, whatever the device.
use Rattle.std.specs.Prelude.{◌≡◌, ◌<◌, ◌≤◌, ℕ, true}
use Rattle.std.specs.List.{All}
use Rattle.order_model.specs.declared.Slot.{Slot}
use Rattle.page_layout.specs.Shape.{ShapeView, total, map_page, count_page, print_page}
use Rattle.page_cache.specs.View.{is_there}
use Rattle.release_queue.specs.declared.Release.{Release}
use Rattle.birth_marks.specs.Births.{place_in, recorded_in}
use Rattle.flush_engine.specs.View.{EngineView}
use Rattle.flush_engine.specs.View.{IsWhole as IsWholeEngine}
use Rattle.store_core.specs.Layout.{place_of}
use Rattle.store_core.specs.declared.ledger.Ledger.{Ledger}

-- a release is of a block and of a data page of the image, and knows their pages
pub record IsPlaced (shape : ShapeView) (r : Release) : Type 0 where
  pub block : r.block < shape.blocks
  pub first : 1 ≤ r.page
  pub last : r.page ≤ shape.pages
  pub map_at : r.map_at ≡ map_page r.block
  pub count_at : r.count_at ≡ count_page shape r.page
  pub print_at : r.print_at ≡ print_page shape r.page

-- The engine is whole, and has pages of the image alone. The releases, the pool and the births are of this image.
pub record IsWhole (shape : ShapeView) (engine : EngineView) (ledger : Ledger) : Type 0 where
  pub engine_whole : IsWholeEngine engine
  pub within : (a : ℕ) → is_there engine.cache a ≡ true → a < total shape
  pub placed : All (IsPlaced shape) ledger.queue.releases
  pub pool_shape : ledger.pool.shape ≡ shape
  pub slots : (s : Slot) → recorded_in ledger.births s ≡ true → place_in ledger.births s ≡ place_of shape s
