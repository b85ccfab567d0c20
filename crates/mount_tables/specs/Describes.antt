-- What the tables in memory say of an image.
use Rattle.std.specs.Prelude.{◌≡◌, ◌⊎◌, ℕ, ◌<◌, ◌≤◌, List, None}
use Rattle.page_device.specs.Block.{Block}
use Rattle.page_layout.specs.Tables.{shape_of, map_of, count_of, print_of}
use Rattle.array_model.specs.Counting.{counted_of, live_of, mapped_of}
use Rattle.array_model.specs.Images.{IsFit}
use Rattle.finger_table.specs.Index.{print_at}
use Rattle.store_core.specs.Opened.{IsCounted}
use Rattle.mount_tables.specs.declared.tables.Tables.{Tables}

-- Of every device, one that lies too: the pool has the shape, and a print stands for data pages alone.
pub record OfEveryDevice (tables : Tables) : Type 0 where
  pub pool_shape : tables.pool.shape ≡ tables.shape
  pub no_other_print : (p : ℕ) → (p ≡ 0) ⊎ (tables.shape.pages < p) → print_at tables.prints p ≡ None

-- The image is fit, and the tables are its own: the pool was told of each data page as the image counts it, each data page has the
-- print that the image gives it, and the totals are those of its counts and names.
pub record Describes (image : List Block) (tables : Tables) : Type 0 where
  pub shape_is : shape_of image ≡ tables.shape
  pub fit : IsFit image
  pub counted : IsCounted image tables.pool
  pub printed : (p : ℕ) → 1 ≤ p → p ≤ tables.shape.pages → print_at tables.prints p ≡ print_of image p
  pub live : tables.totals.live ≡ live_of (count_of image) tables.shape.pages
  pub sum : tables.totals.sum ≡ counted_of (count_of image) tables.shape.pages
  pub mapped : tables.totals.mapped ≡ mapped_of (map_of image) tables.shape.blocks
