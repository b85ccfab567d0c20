-- What a core over a device stands for, and what calls of the device do to that.
use Rattle.std.specs.Prelude.{[], ◌≡◌, ◌<◌, ◌≤◌, ◌^◌, ℕ, List, Bool, get_or, length}
use Rattle.std.specs.List.{All}
use Rattle.page_device.specs.Block.{Block}
use Rattle.page_device.specs.Counts.{raised}
use Rattle.page_device.specs.declared.device.End.TheVariants.{Done}
use Rattle.page_device.specs.declared.device.LogEntry.{LogEntry}
use Rattle.page_device.specs.declared.device.LogEntry.TheVariants.{Write, Flush}
use Rattle.page_device.specs.Faults.{IsCalm}
use Rattle.page_device.specs.Gains.{Gains}
use Rattle.page_device.specs.Meaning.{Meaning}
use Rattle.page_device.specs.Moments.{EachMoment}
use Rattle.page_layout.specs.Shape.{ShapeView, IsSuperblock, told_shape, total}
use Rattle.order_model.specs.Calls.{Call}
use Rattle.order_model.specs.Pool.{Told}
use Rattle.order_model.specs.World.{IsData}
use Rattle.birth_marks.specs.Births.{Remembers}
use Rattle.page_alloc.specs.Pool.{told_of}
use Rattle.engine_model.specs.Disk.{newest_on}
use Rattle.engine_model.specs.Images.{ContentsFit, CountsFit}
use Rattle.engine_model.specs.Invariant.{EngineInvariant, Moment}
use Rattle.store_core.specs.declared.Core.{Core}
use Rattle.store_core.specs.Layout.{lay_of, place_of, top}
use Rattle.store_core.specs.Views.{IsKnown, world_of}

abbrev pub moment_of : Meaning → Core → (ℕ → List Block) → List Call → (ℕ → Told) → Moment
moment_of d core array calls told = record { world = world_of d core; array = array; calls = calls; pool = told }

-- the first page of the device tells the shape, and the device has every page of it
pub record HasShapeOf (d : Meaning) (shape : ShapeView) : Type 0 where
  pub first : IsSuperblock (newest_on d.state 0)
  pub shape_is : told_shape (newest_on d.state 0) ≡ shape
  pub sized : total shape ≤ d.pages

-- The array keeps of each block what may be read of it after a crash, the last content at the end.
pub record StandsFor (sound : Bool) (d : Meaning) (core : Core) (array : ℕ → List Block) : Type 0 where
  pub known : IsKnown d
  pub of_shape : HasShapeOf d core.shape
  pub calls : List Call
  pub told : ℕ → Told
  pub kept : EngineInvariant (lay_of core.shape) top sound (moment_of d core array calls told)
  pub births : Remembers (place_of core.shape) core.ledger.births calls
  pub pool : (p : ℕ) → IsData (lay_of core.shape) p → told_of core.ledger.pool p ≡ told p

-- the image is fit, and each block reads a content of its list
pub record IsFit (shape : ShapeView) (sound : Bool) (array : ℕ → List Block) (image : List Block) : Type 0 where
  pub counts : CountsFit (lay_of shape) (λ page. get_or image page [])
  pub contents : ContentsFit (lay_of shape) sound (λ page. get_or image page []) array
  pub first : IsSuperblock (get_or image 0 [])
  pub shape_is : told_shape (get_or image 0 []) ≡ shape
  pub sized : total shape ≤ length image

-- the call of the device did what it was asked
abbrev pub EndsDone : LogEntry → Type 0
EndsDone (Write page block end) = end ≡ Done
EndsDone (Flush end) = end ≡ Done

-- a count of calls rose by so many; it stands still at the end of a `u64`, and nowhere else
pub record CountsCalls (made calls later : ℕ) : Type 0 where
  pub counted : calls < 2 ^ 64 → later ≡ raised calls made

-- What calls of the device from d to e did: these and no others, which the core counted, and each ended done where no fault was counted. The same arrays stand, and a crash at any moment left an image that is fit.
pub record Passes (d e : Meaning) (old new : Core) : Type 0 where
  pub calls : List LogEntry
  pub gains : Gains calls d e
  pub counted : CountsCalls (length calls) old.engine.cache.calls new.engine.cache.calls
  pub falls : d.faults ≤ e.faults
  pub calm : IsCalm d e → All EndsDone calls
  pub stands : (sound : Bool) (array : ℕ → List Block) → StandsFor sound d old array → StandsFor sound e new array
  pub each : (sound : Bool) (array : ℕ → List Block) → StandsFor sound d old array → EachMoment (IsFit old.shape sound array) d.state calls
  pub shape : new.shape ≡ old.shape
