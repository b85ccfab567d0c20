-- What of a core a step leaves, beside the plain state.
use Rattle.std.specs.Prelude.{◌≡◌, ◌≢◌, ℕ, List, Bool, Some}
use Rattle.page_device.specs.Block.{Block}
use Rattle.page_device.specs.Meaning.{Meaning}
use Rattle.page_cache.specs.View.{content_in, holds_in, is_there}
use Rattle.store_core.specs.declared.Core.{Core}
use Rattle.store_core.specs.Stands.{StandsFor}
use Rattle.store_core.specs.Views.{page_in}

-- who holds what, what is there, and how many calls the device had
pub record SameHolds (old new : Core) : Type 0 where
  pub holds : (q : ℕ) → holds_in new.engine.cache q ≡ holds_in old.engine.cache q
  pub there : (q : ℕ) → is_there new.engine.cache q ≡ is_there old.engine.cache q
  pub calls : new.engine.cache.calls ≡ old.engine.cache.calls

-- All but the engine stays, and the engine has room for as many pages.
pub record OnlyEngine (old new : Core) : Type 0 where
  pub shape : new.shape ≡ old.shape
  pub ledger : new.ledger ≡ old.ledger
  pub room : new.engine.room ≡ old.engine.room

-- Of the engine one page has another content, and nothing else changes; the shape stays.
pub record OnlyPage (at : ℕ) (block : Block) (old new : Core) : Type 0 where
  pub shape : new.shape ≡ old.shape
  pub engine : new.engine ≡ record old.engine { cache = new.engine.cache }
  pub same : SameHolds old new
  pub here : content_in new.engine.cache at ≡ Some block
  pub others : (q : ℕ) → q ≢ at → page_in new q ≡ page_in old q

-- whatever the device and the array: the same array stands
abbrev pub KeepsStands : Core → Core → Type 0
KeepsStands old new = (sound : Bool) (d : Meaning) (array : ℕ → List Block) → StandsFor sound d old array → StandsFor sound d new array
