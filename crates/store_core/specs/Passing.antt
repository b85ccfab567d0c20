-- A pass over the queue: what it leaves.
use Rattle.std.specs.Prelude.{◌≡◌, ◌⊎◌, ◌+◌, ◌*◌, ◌<◌, ◌≤◌, ◌&&◌, not, ℕ, List, [], ◌∷◌, Bool, None, false, true, cond, eqb, length}
use Rattle.std.specs.List.{All}
use Rattle.page_device.specs.Meaning.{Meaning}
use Rattle.page_cache.specs.View.{content_in, holds_in}
use Rattle.order_model.specs.World.{IsData, Layout, World}
use Rattle.dep_graph.specs.Lists.{live_in}
use Rattle.dep_graph.specs.Pages.{holds}
use Rattle.finger_table.specs.Index.{PrintsView, is_ready, print_at}
use Rattle.release_queue.specs.Queued.{is_marked}
use Rattle.release_queue.specs.declared.Release.{Release}
use Rattle.engine_model.specs.Entries.{IsCount, cached_count, cached_print}
use Rattle.engine_model.specs.Invariant.{Moment}
use Rattle.engine_model.specs.SmallPass.{SmallPass}
use Rattle.engine_model.specs.Tight.{live_pages}
use Rattle.store_core.specs.declared.Core.{Core}
use Rattle.store_core.specs.Layout.{lay_of}
use Rattle.store_core.specs.Moments.{IsMomentOf}
use Rattle.store_core.specs.Orderly.{HasToWait}
use Rattle.store_core.specs.Owed.{KeepsHolds, Spends, held_for_all}
use Rattle.store_core.specs.Stands.{CountsCalls}

-- a release that was looked at, and stays
abbrev pub looked : Release → Release
looked r = record r { look = false }

-- what is left of a queue, in the order of pushing, each looked at
abbrev pub LeftOf : List Release → List Release → Type 0
LeftOf [] rs = rs ≡ []
LeftOf (x ∷ xs) rs = LeftOf xs rs ⊎ ((ys : List Release) × (rs ≡ looked x ∷ ys) × LeftOf xs ys)

-- What a pass leaves of a core on every device, where so many releases left the queue: what was held for them is given back, and no more room is taken than was kept for them.
-- What is held still, and is no count page or print page of a release, is as it was.
pub record PassFrame (lowered : ℕ) (old new : Core) : Type 0 where
  pub shape : new.shape ≡ old.shape
  pub limit : new.ledger.queue.limit ≡ old.ledger.queue.limit
  pub left : length old.ledger.queue.releases ≡ length new.ledger.queue.releases + lowered
  pub holds : KeepsHolds old new
  pub fewer : (q : ℕ) → held_for_all new.ledger.queue.releases q ≤ held_for_all old.ledger.queue.releases q
  pub held : (q : ℕ) → 0 < holds_in new.engine.cache q → held_for_all old.ledger.queue.releases q ≡ 0 → content_in new.engine.cache q ≡ content_in old.engine.cache q
  pub spends : Spends (2 * lowered) (2 * lowered) lowered old new

-- No call of the device was made, and each Live edge that came leads to a count page.
pub record PassAdds (old new : Core) : Type 0 where
  pub calls : CountsCalls 0 old.engine.cache.calls new.engine.cache.calls
  pub into : (a b : ℕ) → live_in new.engine.graph a b ≡ true → (live_in old.engine.graph a b ≡ true) ⊎ IsCount (lay_of old.shape) b

-- the prints of these pages are gone from the index, the others stay, and there is as much room
pub record Forgets (pages : List ℕ) (before after : PrintsView) : Type 0 where
  pub prints : (p : ℕ) → print_at after p ≡ cond (holds pages p) None (print_at before p)
  pub ready : (own : List ℕ) (q : ℕ) → is_ready before own q ≡ true → is_ready after own q ≡ true

-- the count of p became 0
abbrev pub was_freed : Layout → World → World → ℕ → Bool
was_freed lay w v p = not (eqb (cached_count lay w p) 0) && eqb (cached_count lay v p) 0

-- These are the pages of which the count became 0, each once, and no count rose. The last print of each is gone, and the other prints stay.
pub record Frees (lay : Layout) (pages : List ℕ) (w v : World) : Type 0 where
  pub freed : (p : ℕ) → IsData lay p → holds pages p ≡ was_freed lay w v p
  pub live : live_pages lay w ≡ live_pages lay v + length pages
  pub lower : (p : ℕ) → IsData lay p → cached_count lay v p ≤ cached_count lay w p
  pub prints : (p : ℕ) → IsData lay p → cached_print lay v p ≡ cond (holds pages p) None (cached_print lay w p)

-- From a moment that the core is, a pass by small steps leads to one that the new core is, over the same array.
pub record PassesFrom (d : Meaning) (m : Moment) (pages : List ℕ) (old new : Core) : Type 0 where
  pub n : Moment
  pub is : IsMomentOf d new n
  pub array : n.array ≡ m.array
  pub pass : SmallPass (lay_of old.shape) m [] m.world.queue n
  pub frees : Frees (lay_of old.shape) pages m.world n.world

-- over each device
abbrev pub PassesByLaws : List ℕ → Core → Core → Type 0
PassesByLaws pages old new = (d : Meaning) (m : Moment) → IsMomentOf d old m → PassesFrom d m pages old new

-- The counts of so many pages became 0: of those that the laws say, and the index forgets them.
pub record PassFrees (freed : ℕ) (old new : Core) (before after : PrintsView) : Type 0 where
  pub pages : List ℕ
  pub count : freed ≡ length pages
  pub forgets : Forgets pages before after
  pub laws : PassesByLaws pages old new

-- each release that is queued has to wait, and none is to be looked at
pub record AllWait (core : Core) : Type 0 where
  pub wait : All (HasToWait core) core.ledger.queue.releases
  pub unmarked : (k : ℕ) → is_marked core.ledger.queue.releases k ≡ false
