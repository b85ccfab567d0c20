-- A pass in its parts, from one place of the queue to another.
use Rattle.std.specs.Prelude.{◌≡◌, ◌⊎◌, ◌+◌, ◌<◌, ◌≤◌, ◌++◌, ◌∷◌, [], ℕ, List, Bool, cond, length, map, take, drop, remove, false}
use Rattle.page_device.specs.Meaning.{Meaning}
use Rattle.page_cache.specs.View.{content_in, holds_in}
use Rattle.finger_table.specs.Index.{PrintsView}
use Rattle.release_queue.specs.Queued.{is_marked}
use Rattle.release_queue.specs.declared.Release.{Release}
use Rattle.engine_model.specs.Invariant.{Moment}
use Rattle.engine_model.specs.SmallPass.{Applies, Leaves, SmallPass}
use Rattle.store_core.specs.declared.Core.{Core}
use Rattle.store_core.specs.Frames.{KeepsStands}
use Rattle.store_core.specs.Layout.{lay_of}
use Rattle.store_core.specs.Moments.{IsMomentOf, queued_after, queued_before}
use Rattle.store_core.specs.Orderly.{IsOrderly}
use Rattle.store_core.specs.Owed.{IsProvided, Spends, held_for}
use Rattle.store_core.specs.Passing.{Forgets, Frees, LeftOf, PassFrame, was_freed}
use Rattle.store_core.specs.Views.{plain_release}

-- whatever is left from one place on, this is left from the other place on
abbrev pub PartLeaves : ℕ → ℕ → List Release → List Release → Type 0
PartLeaves from to old new = (zs : List Release) → LeftOf (drop to new) zs → (ys : List Release) × LeftOf (drop from old) ys × (take from old ++ ys ≡ take to new ++ zs)

-- From a moment that the core is: whatever pass goes on from one place to an end goes from the other place to that end.
pub record PartFrom (d : Meaning) (m : Moment) (from to : ℕ) (pages : List ℕ) (old new : Core) : Type 0 where
  pub n : Moment
  pub is : IsMomentOf d new n
  pub array : n.array ≡ m.array
  pub pass : (end : Moment) → SmallPass (lay_of old.shape) n (map plain_release (take to new.ledger.queue.releases)) (map plain_release (drop to new.ledger.queue.releases)) end
      → SmallPass (lay_of old.shape) m (map plain_release (take from old.ledger.queue.releases)) (map plain_release (drop from old.ledger.queue.releases)) end
  pub frees : Frees (lay_of old.shape) pages m.world n.world

abbrev pub PartByLaws : ℕ → ℕ → List ℕ → Core → Core → Type 0
PartByLaws from to pages old new = (d : Meaning) (m : Moment) → IsMomentOf d old m → PartFrom d m from to pages old new

-- so many releases left the queue, and of these pages the count became 0
pub record PassPart (from to lowered : ℕ) (pages : List ℕ) (old new : Core) (before after : PrintsView) : Type 0 where
  pub stands : KeepsStands old new
  pub frame : PassFrame lowered old new
  pub order : PartLeaves from to old.ledger.queue.releases new.ledger.queue.releases
  pub forgets : Forgets pages before after
  pub laws : PartByLaws from to pages old new

-- what holds at each place of a pass: all before it were looked at
pub record IsPassing (at : ℕ) (core : Core) : Type 0 where
  pub provided : IsProvided core
  pub orderly : IsOrderly core
  pub behind : (k : ℕ) → k < at → is_marked core.ledger.queue.releases k ≡ false

-- From a moment that the core is: the release was applied, or let go.
pub record LeavesFrom (d : Meaning) (m : Moment) (i : ℕ) (r : Release) (freed : Bool) (old new : Core) : Type 0 where
  pub n : Moment
  pub is : IsMomentOf d new n
  pub array : n.array ≡ m.array
  pub leaves : Applies (lay_of old.shape) m n (plain_release r) (queued_before i old) (queued_after i old)
      ⊎ Leaves (lay_of old.shape) m n (plain_release r) (queued_before i old) (queued_after i old)
  pub frees : freed ≡ was_freed (lay_of old.shape) m.world n.world r.page

-- The release at this place left the queue, and what is held for it is held still. A page that is held, and is not its count page or print page, is as it was.
pub record LeavesQueue (i : ℕ) (r : Release) (freed : Bool) (old new : Core) : Type 0 where
  pub stands : KeepsStands old new
  pub shape : new.shape ≡ old.shape
  pub queue : new.ledger.queue ≡ record old.ledger.queue { releases = remove old.ledger.queue.releases i }
  pub holds : (q : ℕ) → holds_in new.engine.cache q ≡ holds_in old.engine.cache q
  pub held : (q : ℕ) → 0 < holds_in old.engine.cache q → held_for r q ≡ 0 → content_in new.engine.cache q ≡ content_in old.engine.cache q
  pub spends : Spends 2 2 1 old new
  pub orderly : IsOrderly old → IsOrderly new
  pub laws : (d : Meaning) (m : Moment) → IsMomentOf d old m → LeavesFrom d m i r freed old new

-- The release at this place left the queue, and what was held for it is given back.
pub record TakesOut (i : ℕ) (r : Release) (freed : Bool) (old new : Core) : Type 0 where
  pub stands : KeepsStands old new
  pub shape : new.shape ≡ old.shape
  pub queue : new.ledger.queue ≡ record old.ledger.queue { releases = remove old.ledger.queue.releases i }
  pub holds : (q : ℕ) → holds_in old.engine.cache q ≡ holds_in new.engine.cache q + held_for r q
  pub held : (q : ℕ) → 0 < holds_in new.engine.cache q → held_for r q ≡ 0 → content_in new.engine.cache q ≡ content_in old.engine.cache q
  pub spends : Spends 2 2 1 old new
  pub laws : (d : Meaning) (m : Moment) → IsMomentOf d old m → LeavesFrom d m i r freed old new

-- the pages that one release frees
abbrev pub freed_pages : Bool → ℕ → List ℕ
freed_pages freed p = cond freed (p ∷ []) []

-- A release was looked at, and the pass goes on from another place: it stays, or it left. So many counts became 0 until then.
pub record LooksAt (from to was now : ℕ) (old new : Core) (before after : PrintsView) : Type 0 where
  pub lowered : ℕ
  pub pages : List ℕ
  pub part : PassPart from to lowered pages old new before after
  pub freed : now ≡ was + length pages
  pub few : length pages ≤ lowered
  pub forth : from ≤ to
  pub within : to ≤ length new.ledger.queue.releases
  pub falls : length new.ledger.queue.releases + from < length old.ledger.queue.releases + to
