-- The plain moments that a core over a device is, and the steps between them.
use Rattle.std.specs.Prelude.{◌≡◌, ◌+◌, ℕ, suc, List, map, take, drop, false, true}
use Rattle.page_device.specs.Meaning.{Meaning}
use Rattle.page_layout.specs.Formed.{is_formed}
use Rattle.order_model.specs.declared.Slot.{Slot}
use Rattle.order_model.specs.World as plain
use Rattle.order_model.specs.World.{IsData}
use Rattle.birth_marks.specs.Births.{Remembers, recorded_in, value_in}
use Rattle.page_alloc.specs.Pool.{told_of}
use Rattle.release_queue.specs.declared.Release.{Release}
use Rattle.engine_model.specs.AnyDevice.{IsOrdered}
use Rattle.engine_model.specs.Births.{IsSlot, cached_value}
use Rattle.engine_model.specs.Entries.{IsTable, cached_count}
use Rattle.engine_model.specs.Invariant.{Moment}
use Rattle.engine_model.specs.SmallPass.{Applies, Clears, GivesUp, Leaves}
use Rattle.store_core.specs.declared.Core.{Core}
use Rattle.store_core.specs.Layout.{lay_of, place_of}
use Rattle.store_core.specs.Views.{plain_release, world_of}

-- The core is the state of the moment. Births remember its calls and know what the slots have, and the pool was told what it was told. Each cached table page is well formed, marks and edges are in order and as the stages of releases say, and a page that is not dirty is cached as the device has it.
pub record IsMomentOf (d : Meaning) (core : Core) (m : Moment) : Type 0 where
  pub world : world_of d core ≡ m.world
  pub births : Remembers (place_of core.shape) core.ledger.births m.calls
  pub values : (s : Slot) → IsSlot (lay_of core.shape) s → recorded_in core.ledger.births s ≡ true → value_in core.ledger.births s ≡ cached_value (lay_of core.shape) m.world s
  pub pool : (p : ℕ) → IsData (lay_of core.shape) p → told_of core.ledger.pool p ≡ m.pool p
  pub formed : (page : ℕ) → IsTable (lay_of core.shape) page → is_formed core.shape page (m.world.cached page) ≡ true
  pub staged : IsOrdered (lay_of core.shape) m.world
  pub clean : (a : ℕ) → m.world.dirty a ≡ false → m.world.cached a ≡ m.world.newest a

-- over each device: whichever moment the old core is, the new one is too
abbrev pub KeepsMoments : Core → Core → Type 0
KeepsMoments old new = (d : Meaning) (m : Moment) → IsMomentOf d old m → IsMomentOf d new m

-- over each device: from each moment that the old core is, such a step leads to one that the new core is, and the array stays
abbrev pub Moves : (Moment → Moment → Type 0) → Core → Core → Type 0
Moves step old new = (d : Meaning) (m : Moment) → IsMomentOf d old m → (n : Moment) × IsMomentOf d new n × (n.array ≡ m.array) × step m n

-- the releases that were pushed before the one at a place, and those that were pushed after it
abbrev pub queued_before : ℕ → Core → List plain.Release
queued_before i core = map plain_release (take i core.ledger.queue.releases)

abbrev pub queued_after : ℕ → Core → List plain.Release
queued_after i core = map plain_release (drop (suc i) core.ledger.queue.releases)

-- the release at this place is applied
abbrev pub AppliesByLaws : ℕ → Release → Core → Core → Type 0
AppliesByLaws i r old new = Moves (λ m n. Applies (lay_of old.shape) m n (plain_release r) (queued_before i old) (queued_after i old)) old new

-- the release at this place leaves the queue, and nothing is lowered
abbrev pub LeavesByLaws : ℕ → Release → Core → Core → Type 0
LeavesByLaws i r old new = Moves (λ m n. Leaves (lay_of old.shape) m n (plain_release r) (queued_before i old) (queued_after i old)) old new

-- the release is applied, once its data page is given up, or stays
abbrev pub LowersByLaws : ℕ → Release → Core → Core → Type 0
LowersByLaws i r old new = Moves (λ m n. (k : Moment) → GivesUp (lay_of old.shape) r.page (cached_count (lay_of old.shape) n.world r.page) n k
    → Applies (lay_of old.shape) m k (plain_release r) (queued_before i old) (queued_after i old)) old new

-- a print goes where the count that is left is 0
abbrev pub ClearsByLaws : ℕ → Core → Core → Type 0
ClearsByLaws p old new = Moves (λ m n. (count : ℕ) → count + 1 ≡ cached_count (lay_of old.shape) m.world p → Clears (lay_of old.shape) p count m n) old new

-- the data page is given up where its count is 0, or stays
abbrev pub GivesUpByLaws : ℕ → Core → Core → Type 0
GivesUpByLaws p old new = Moves (λ m n. GivesUp (lay_of old.shape) p (cached_count (lay_of old.shape) m.world p) m n) old new
