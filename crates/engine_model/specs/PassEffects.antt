-- What a pass changes, and what it leaves.
use Rattle.std.specs.Prelude.{◌≡◌, ◌⊎◌, ◌+◌, ◌<◌, ◌≤◌, ℕ, List, true}
use Rattle.order_model.specs.World.{Agree, Layout, Possible, queued, IsData}
use Rattle.engine_model.specs.Entries.{IsCount, IsDataPage, IsMap, IsPrint, cached_count, cached_name, cached_print}
use Rattle.engine_model.specs.Invariant.{Moment}

-- m is before the pass, n after it
pub record PassEffects (lay : Layout) (m n : Moment) : Type 0 where
  -- the device, the names and the array stay
  pub newest : (page : ℕ) → n.world.newest page ≡ m.world.newest page
  pub possible : (page : ℕ) (c : List ℕ) → Possible n.world page c → Possible m.world page c
  pub hung : (a : ℕ) → n.world.hung a ≡ m.world.hung a
  pub names : (l : ℕ) → l < lay.blocks → cached_name lay n.world l ≡ cached_name lay m.world l
  pub array : Agree n.array m.array
  -- a count goes down by the releases that left the queue, and a print goes with the last
  pub counts : (q : ℕ) → IsData lay q → cached_count lay n.world q + queued m.world.queue q ≡ cached_count lay m.world q + queued n.world.queue q
  pub lower : (q : ℕ) → IsData lay q → cached_count lay n.world q ≤ cached_count lay m.world q
  pub prints : (q : ℕ) → IsData lay q → 0 < cached_count lay n.world q → cached_print lay n.world q ≡ cached_print lay m.world q
  -- edges come into count pages, and go with a data page alone
  pub live_new : (a b : ℕ) → n.world.live a b ≡ true → (m.world.live a b ≡ true) ⊎ ((IsMap lay a ⊎ IsPrint lay a) × IsCount lay b)
  pub live_kept : (a b : ℕ) → m.world.live a b ≡ true → (n.world.live a b ≡ true) ⊎ IsDataPage lay a
  pub barred_new : (a b : ℕ) → n.world.barred a b ≡ true → (m.world.barred a b ≡ true) ⊎ (IsMap lay a × IsCount lay b)
  pub barred_kept : (a b : ℕ) → m.world.barred a b ≡ true → n.world.barred a b ≡ true
