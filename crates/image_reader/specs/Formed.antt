-- An entry of a page of an image is well formed.
use Rattle.std.specs.Prelude.{◌≡◌, ℕ, ◌<◌, List, Some}
use Rattle.page_device.specs.Block.{Block}
use Rattle.page_layout.specs.declared.shape.Table.{Table}
use Rattle.page_layout.specs.Shape.{ShapeView}
use Rattle.page_layout.specs.Tables.{page_of}
use Rattle.page_layout.specs.Entries.{table_at, entries_of, IsEntry}

-- by the table that its page serves; of a page that serves none nothing is asked
abbrev pub IsFormed : ShapeView → List Block → ℕ → ℕ → Type 0
IsFormed shape image k i = (t : Table) → table_at shape k ≡ Some t → i < entries_of t → IsEntry t shape k (page_of image k) i
