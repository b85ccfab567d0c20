-- A fresh data page gets its content, and one that is not counted loses it.
use Rattle.std.specs.Prelude.{◌≡◌, ◌≢◌, ◌≤◌, ◌+◌, ℕ, List, Bool, true, cond, eqb, Some, None}
use Rattle.page_device.specs.Block.{Block}
use Rattle.page_device.specs.Meaning.{Meaning}
use Rattle.page_cache.specs.Calls.{Same}
use Rattle.page_cache.specs.View.{CacheView, content_in, dirty_in, holds_in, in_table}
use Rattle.engine_model.specs.Entries.{cached_count}
use Rattle.engine_model.specs.Known.{Free}
use Rattle.order_model.specs.Pool.{is_free}
use Rattle.order_model.specs.World.{World}
use Rattle.page_alloc.specs.Pool.{told_of}
use Rattle.store_core.specs.declared.Core.{Core}
use Rattle.store_core.specs.Layout.{lay_of}
use Rattle.store_core.specs.Views.{IsOver, world_of}
use Rattle.store_core.specs.Stands.{StandsFor}

-- over a device that the core was made for
abbrev pub MakesOver : (World → World) → Core → Core → Type 0
MakesOver next old new = (d : Meaning) → IsOver d old → world_of d new ≡ next (world_of d old)

abbrev pub PlaceStands : ℕ → Core → Core → Type 0
PlaceStands p old new = (sound : Bool) (d : Meaning) (array : ℕ → List Block) → StandsFor sound d old array → Free (lay_of old.shape) (world_of d old) p → StandsFor sound d new array

abbrev pub DropStands : ℕ → Core → Core → Type 0
DropStands p old new = (sound : Bool) (d : Meaning) (array : ℕ → List Block) → StandsFor sound d old array → cached_count (lay_of old.shape) (world_of d old) p ≡ 0 → StandsFor sound d new array

-- a data page that the pool gives
pub record IsFreePage (p : ℕ) (core : Core) : Type 0 where
  pub first : 1 ≤ p
  pub last : p ≤ core.shape.pages
  pub free : is_free (told_of core.ledger.pool p) ≡ true

-- a page that the pool gives is free, whatever the core stands for
abbrev pub FreeWhereGiven : Type 0
FreeWhereGiven = (sound : Bool) (d : Meaning) (core : Core) (array : ℕ → List Block) (p : ℕ) → StandsFor sound d core array → IsFreePage p core → Free (lay_of core.shape) (world_of d core) p

-- The page is there with this content and held once more, and of the others at most pages outside the table are gone.
pub record TakenIn (page : ℕ) (block : Block) (old new : CacheView) : Type 0 where
  pub here : content_in new page ≡ Some block
  pub kept : (q : ℕ) → q ≢ page → in_table old q ≡ true → content_in new q ≡ content_in old q
  pub gone : ℕ → Bool
  pub others : (q : ℕ) → q ≢ page → content_in new q ≡ cond (gone q) None (content_in old q)
  pub holds : (q : ℕ) → holds_in new q ≡ holds_in old q + cond (eqb q page) 1 0
  pub dirty : (q : ℕ) → dirty_in new q ≡ dirty_in old q
  pub calls : new.calls ≡ old.calls

-- nothing changed, but for how the cache keeps it
pub record SameCore (old new : Core) : Type 0 where
  pub shape : new.shape ≡ old.shape
  pub cache : Same old.engine.cache new.engine.cache
  pub engine : new.engine ≡ record old.engine { cache = new.engine.cache }
  pub ledger : new.ledger ≡ old.ledger
