-- A count is raised or lowered: what is asked, and that the same array stands.
use Rattle.std.specs.Prelude.{◌≡◌, ◌⊎◌, ◌<◌, ℕ, List, Bool, None, true}
use Rattle.page_device.specs.Block.{Block}
use Rattle.page_device.specs.Meaning.{Meaning}
use Rattle.release_queue.specs.declared.Release.{Release}
use Rattle.release_queue.specs.declared.TheConstants.{NOT_WRITTEN, WRITTEN}
use Rattle.engine_model.specs.Entries.{cached_count, cached_print}
use Rattle.store_core.specs.declared.Core.{Core}
use Rattle.store_core.specs.Layout.{lay_of}
use Rattle.store_core.specs.Views.{world_of}
use Rattle.store_core.specs.Stands.{StandsFor}

-- p is counted already, or its data page is dirty
abbrev pub RaiseStands : ℕ → Core → Core → Type 0
RaiseStands p old new = (sound : Bool) (d : Meaning) (array : ℕ → List Block) → StandsFor sound d old array
    → (0 < cached_count (lay_of old.shape) (world_of d old) p) ⊎ ((world_of d old).dirty ((lay_of old.shape).data_page p) ≡ true) → StandsFor sound d new array

-- the map page of the release is ordered before the count page, and a page whose count becomes 0 has no print
pub record MayLower (d : Meaning) (core : Core) (r : Release) : Type 0 where
  pub no_print : cached_count (lay_of core.shape) (world_of d core) r.page ≡ 1 → cached_print (lay_of core.shape) (world_of d core) r.page ≡ None
  pub from_map : r.stage ≡ NOT_WRITTEN → (world_of d core).live r.map_at r.count_at ≡ true
  pub from_hung_map : r.stage ≡ WRITTEN → (world_of d core).barred r.map_at r.count_at ≡ true

abbrev pub LowerStands : Release → Core → Core → Type 0
LowerStands r old new = (sound : Bool) (d : Meaning) (array : ℕ → List Block) → StandsFor sound d old array → MayLower d old r → StandsFor sound d new array
