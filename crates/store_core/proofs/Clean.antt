-- A core over a device: each page that is not dirty is cached as the device has it.
use Rattle.std.proofs.Common.{◌≡◌, inl, inr, ◌<◌, ℕ, Bool, true, false, refl, List, Option, Some, None, is_some}
use Rattle.std.proofs.lemmas.Bool.{cases_Bool}
use Rattle.page_device.specs.Block.{Block, zero_block}
use Rattle.page_device.specs.Meaning.{Meaning}
use Rattle.page_layout.specs.Fingerprint.{fingerprint_of}
use Rattle.page_layout.specs.Formed.{is_formed}
use Rattle.page_layout.specs.Shape.{ShapeView, total}
use Rattle.page_cache.specs.Entries.{content_of, dirty_of}
use Rattle.page_cache.specs.declared.entries.Entry.{Entry}
use Rattle.page_cache.specs.View as cached
use Rattle.page_cache.specs.View.{CacheView, content_in, is_there}
use Rattle.engine_model.specs.Disk.{newest_on}
use Rattle.engine_model.specs.Entries.{Apart, IsPage}
use Rattle.engine_model.proofs.Bytes.{apart}
use Rattle.engine_model.proofs.CleanPages.{page_clean, page_kinds}
use Rattle.store_core.specs.declared.Core.{Core}
use Rattle.store_core.specs.Layout.{lay_of, top}
use Rattle.store_core.specs.Views.{IsOver, held_or, world_of}
use Rattle.store_core.specs.Stands.{StandsFor}

-- no page serves two ends, and each page of the image serves one
pub apart_pages : (shape : ShapeView) → Apart (lay_of shape)
apart_pages shape = let a = apart shape.blocks shape.pages (is_formed shape) zero_block (fingerprint_of shape.version) in record {
  table_data = a.table_data;
  data_data = a.data_data;
  map_count = a.map_count;
  map_print = a.map_print;
  count_print = a.count_print;
  first_table = a.first_table;
  first_data = a.first_data;
}

pub kinds : (shape : ShapeView) (a : ℕ) → a < total shape → IsPage (lay_of shape) a
kinds shape a lt = page_kinds shape.blocks shape.pages (is_formed shape) zero_block (fingerprint_of shape.version) a lt

absent : (o : Option Block) (n : Block) → is_some o ≡ false → held_or o n ≡ n
absent None n h = refl
absent (Some c) n h = cc

pub over : (sound : Bool) (d : Meaning) (core : Core) (array : ℕ → List Block) → StandsFor sound d core array → IsOver d core
over sound d core array s = record {
  known = s.known;
  clean = λ a off. elim (cases_Bool (is_there core.engine.cache a)) [
    | inr gone ↦ absent (content_in core.engine.cache a) (newest_on d.state a) gone
    | inl here ↦ page_clean (lay_of core.shape) top sound array (world_of d core) a s.kept.counts s.kept.contents (kinds core.shape a (core.whole.within a here)) off
  ];
}

-- a dirty page is there
there_of : (o : Option Entry) → dirty_of o ≡ true → is_some (content_of o) ≡ true
there_of None h = cc
there_of (Some x) h = refl

pub dirty_there : (c : CacheView) (a : ℕ) → cached.dirty_in c a ≡ true → is_there c a ≡ true
dirty_there c a h = there_of _ h
