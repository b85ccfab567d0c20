-- A pool as its callers see it: what it was told of each data page.
use Rattle.std.specs.Prelude.{◌≡◌, ℕ, ◌-◌, ◌≤◌, List, map, slice_index_or}
use Rattle.std.specs.List.{range_with_len}
use Rattle.order_model.specs.Pool.{Told}
use Rattle.order_model.specs.World.{Layout}
use Rattle.page_layout.specs.Shape.{ShapeView, count_page}
use Rattle.page_alloc.specs.Marks.{no_told}

-- the shape of the image, and what was told of its data pages, from page 1 on
pub record PoolView : Type 0 where
  pub shape : ShapeView
  pub told : List Told

-- what was told of a data page
abbrev pub told_of : PoolView → ℕ → Told
told_of pool p = slice_index_or pool.told (p - 1) no_told

-- the pool that was told so of each data page
abbrev pub pool_told : ShapeView → (ℕ → Told) → PoolView
pool_told shape told = record { shape = shape; told = map told (range_with_len 1 shape.pages) }

-- a pool of this shape was told so of each data page, and so it is the one above
pub record IsTold (shape : ShapeView) (told : ℕ → Told) (pool : PoolView) : Type 0 where
  pub same_shape : pool.shape ≡ shape
  pub each : (p : ℕ) → 1 ≤ p → p ≤ shape.pages → told_of pool p ≡ told p
  pub exact : pool ≡ pool_told shape told

-- a layout has the data pages of the shape, and their counts in the same pages
pub record IsLaidOut (shape : ShapeView) (lay : Layout) : Type 0 where
  pub pages : lay.pages ≡ shape.pages
  pub count_page : (p : ℕ) → lay.count_page p ≡ count_page shape p
