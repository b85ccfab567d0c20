-- What a store keeps, as plain data.
use Rattle.std.specs.Prelude.{◌≡◌, ℕ, ◌+◌, ◌-◌, ◌/◌, ◌<◌, ◌≤◌, ◌^◌, Bool, true, List, length, slice_index_or}
use Rattle.page_device.specs.Block.{Block}
use Rattle.page_device.specs.Counts.{raised}
use Rattle.page_layout.specs.Numbers.{entry_of}
use Rattle.page_layout.specs.Shape.{ShapeView, IsValid, map_pages, count_pages, map_place, count_place}
use Rattle.page_layout.specs.Tables.{page_of}
use Rattle.trace_text.specs.declared.reply.Stat.{Stat}
use Rattle.array_model.specs.Counting.{count_below, counted_of, live_of, mapped_of}

-- the shape, the cached map and count pages, and which map pages have yet to be written
pub record CachedTables : Type 0 where
  pub shape : ShapeView
  pub maps : List Block
  pub counts : List Block
  pub pending : List Bool

-- these, and the device writes and barriers so far
pub record CoreView : Type 0 where
  pub tables : CachedTables
  pub calls : ℕ

-- the map page of a block and the count page of a data page, each counted from 0
abbrev pub map_index : ℕ → ℕ
map_index block = block / 1024

abbrev pub count_index : ℕ → ℕ
count_index p = (p - 1) / 1024

-- the print page of a data page, counted from 0
abbrev pub print_index : ℕ → ℕ
print_index p = (p - 1) / 170

-- the data page that a block names in these map pages, or 0
abbrev pub name_in : List Block → ℕ → ℕ
name_in maps block = entry_of (page_of maps (map_index block)) (map_place block)

-- the cached map entry of a block, and the cached count of a data page
abbrev pub cached_map : CachedTables → ℕ → ℕ
cached_map t block = name_in t.maps block

abbrev pub cached_count : CachedTables → ℕ → ℕ
cached_count t p = entry_of (page_of t.counts (count_index p)) (count_place p)

-- the map page of an index has yet to be written
abbrev pub is_pending : CachedTables → ℕ → Bool
is_pending t j = slice_index_or t.pending j true

-- a count of calls rose by so many; it stands still at the end of a `u64`, and nowhere else
pub record CountsCalls (made calls later : ℕ) : Type 0 where
  pub never_falls : calls ≤ later
  pub counted : calls < 2 ^ 64 → later ≡ raised calls made

-- as many pages as the shape says
pub record HasPages (t : CachedTables) : Type 0 where
  pub valid : IsValid t.shape
  pub maps : length t.maps ≡ map_pages t.shape
  pub counts : length t.counts ≡ count_pages t.shape
  pub pending : length t.pending ≡ map_pages t.shape

-- how many data pages are counted, by how much the counts are above the names, and how many map pages have yet to be written
abbrev pub live_pages : CachedTables → ℕ
live_pages t = live_of (cached_count t) t.shape.pages

abbrev pub waste : CachedTables → ℕ
waste t = counted_of (cached_count t) t.shape.pages - mapped_of (cached_map t) t.shape.blocks

abbrev pub pending_pages : CachedTables → ℕ
pending_pages t = count_below (is_pending t) (map_pages t.shape)

-- What is known of a store from outside: the shape of its image, the number of its device calls so far, and what it tells of
-- itself. This body postpones no release.
abbrev pub shape_in : CoreView → ShapeView
shape_in core = core.tables.shape

abbrev pub calls_in : CoreView → ℕ
calls_in core = core.calls

abbrev pub stat_in : CoreView → Stat
stat_in core = record { live = live_pages core.tables; waste = waste core.tables; postponed = 0; dirty = pending_pages core.tables }
