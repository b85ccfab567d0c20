-- A block takes another name: what is asked, and the array that the core stands for then.
use Rattle.std.specs.Prelude.{◌≡◌, ◌≢◌, ◌⊎◌, ◌≤◌, ℕ, List, Bool}
use Rattle.page_device.specs.Block.{Block}
use Rattle.page_device.specs.Meaning.{Meaning}
use Rattle.engine_model.specs.Entries.{cached_name}
use Rattle.engine_model.specs.SmallSteps.{GainsOrHolds, IsBacked, held_by}
use Rattle.store_core.specs.declared.Core.{Core}
use Rattle.store_core.specs.Layout.{lay_of}
use Rattle.store_core.specs.Views.{world_of}
use Rattle.store_core.specs.Stands.{StandsFor}

-- another page, which is counted for it and ordered before it, or none
pub record MayTake (d : Meaning) (core : Core) (block p : ℕ) : Type 0 where
  pub fits : p ≤ core.shape.pages
  pub other : p ≢ cached_name (lay_of core.shape) (world_of d core) block
  pub backed : (p ≡ 0) ⊎ IsBacked (lay_of core.shape) (world_of d core) block p

abbrev pub NameStands : ℕ → ℕ → Core → Core → Type 0
NameStands block p old new = (sound : Bool) (d : Meaning) (array after : ℕ → List Block) → StandsFor sound d old array → MayTake d old block p
    → GainsOrHolds array after block (held_by (lay_of old.shape) (world_of d old) p) → StandsFor sound d new after
