-- The steps of the device, as relations between the state before and the state after: each field says one fact of one kind.
use Rattle.std.specs.Prelude.{◌++◌, ◌∷◌, List, [], cond, eqb, false, map, not, true, ℕ, ◌&&◌, ◌||◌, ◌≡◌, ◌≢◌, ◌⊎◌}
use Rattle.order_model.specs.World.{Layout, Possible, Release, World}

-- nothing is pending and nothing is edited: a device that was just mounted, or flushed
pub record AtRest (w : World) : Type 0 where
  pub one : (page : ℕ) (c : List ℕ) → Possible w page c → c ≡ w.newest page
  pub cached : (page : ℕ) → w.cached page ≡ w.newest page
  pub dirty : (page : ℕ) → w.dirty page ≡ false
  pub hung : (page : ℕ) → w.hung page ≡ false
  pub live : (a b : ℕ) → w.live a b ≡ false
  pub barred : (a b : ℕ) → w.barred a b ≡ false
  pub queue : w.queue ≡ []

-- a barrier moves stage 1 to stage 2
abbrev pub fixed_release : Release → Release
fixed_release r = record r { stage = cond (eqb r.stage 1) 2 r.stage }

-- a barrier that ended Done
pub record Barrier (w v : World) : Type 0 where
  pub newest : (page : ℕ) → v.newest page ≡ w.newest page
  pub possible : (page : ℕ) (c : List ℕ) → Possible v page c → c ≡ w.newest page
  pub cached : (page : ℕ) → v.cached page ≡ w.cached page
  pub dirty : (page : ℕ) → v.dirty page ≡ w.dirty page
  pub hung : (page : ℕ) → v.hung page ≡ false
  pub live : (a b : ℕ) → v.live a b ≡ w.live a b
  pub barred : (a b : ℕ) → v.barred a b ≡ false
  pub queue : v.queue ≡ map fixed_release w.queue

-- a written map page moves stage 0 to stage 1
abbrev pub written_release : Layout → ℕ → Release → Release
written_release lay page r = record r { stage = cond (eqb (lay.map_page r.block) page && eqb r.stage 0) 1 r.stage }

-- the device took a write of the cached content of this page, to which no edge leads
pub record Taken (w v : World) (page : ℕ) : Type 0 where
  pub was_dirty : w.dirty page ≡ true
  pub no_live : (a : ℕ) → w.live a page ≡ false
  pub no_barred : (a : ℕ) → w.barred a page ≡ false
  pub newest_here : v.newest page ≡ w.cached page
  pub newest_other : (other : ℕ) → other ≢ page → v.newest other ≡ w.newest other
  pub possible : (other : ℕ) (c : List ℕ) → Possible v other c → Possible w other c ⊎ ((other ≡ page) × (c ≡ w.cached page))
  pub cached : (other : ℕ) → v.cached other ≡ w.cached other

-- the marks, edges and stages after a write that ended Taken, and so failed
pub record KeepsMarks (w v : World) : Type 0 where
  pub dirty : (a : ℕ) → v.dirty a ≡ w.dirty a
  pub hung : (a : ℕ) → v.hung a ≡ w.hung a
  pub live : (a b : ℕ) → v.live a b ≡ w.live a b
  pub barred : (a b : ℕ) → v.barred a b ≡ w.barred a b
  pub queue : v.queue ≡ w.queue

-- and after one that ended Done
pub record MovesMarks (lay : Layout) (w v : World) (page : ℕ) : Type 0 where
  pub dirty : (a : ℕ) → v.dirty a ≡ w.dirty a && not (eqb a page)
  pub hung : (a : ℕ) → v.hung a ≡ w.hung a || eqb a page
  pub live : (a b : ℕ) → v.live a b ≡ w.live a b && not (eqb a page)
  pub barred : (a b : ℕ) → v.barred a b ≡ w.barred a b || (w.live a b && eqb a page)
  pub queue : v.queue ≡ map (written_release lay page) w.queue

-- v is w, read another way: as after a page was fetched
pub record Same (w v : World) : Type 0 where
  pub newest : (page : ℕ) → v.newest page ≡ w.newest page
  pub older : (page : ℕ) → v.older page ≡ w.older page
  pub cached : (page : ℕ) → v.cached page ≡ w.cached page
  pub dirty : (a : ℕ) → v.dirty a ≡ w.dirty a
  pub hung : (a : ℕ) → v.hung a ≡ w.hung a
  pub live : (a b : ℕ) → v.live a b ≡ w.live a b
  pub barred : (a b : ℕ) → v.barred a b ≡ w.barred a b
  pub queue : v.queue ≡ w.queue

-- a page is forgotten: it is cached as a read gives it
abbrev pub forgotten : ℕ → World → World
forgotten page w = record w { cached = λ a. cond (eqb a page) (w.newest page) (w.cached a) }

-- The same as functions of the state: a barrier that is done,
abbrev pub barrier_made : World → World
barrier_made w = record w { older = λ page. w.newest page ∷ []; hung = λ a. false; barred = λ a b. false; queue = map fixed_release w.queue }

-- a write that failed and was taken,
abbrev pub page_taken : ℕ → World → World
page_taken page w = record w {
  newest = λ a. cond (eqb a page) (w.cached page) (w.newest a);
  older = λ a. w.older a ++ cond (eqb a page) (w.cached page ∷ []) [];
}

-- and one that is done
abbrev pub page_written : Layout → ℕ → World → World
page_written lay page w = record (page_taken page w) {
  dirty = λ a. w.dirty a && not (eqb a page);
  hung = λ a. w.hung a || eqb a page;
  live = λ a b. w.live a b && not (eqb a page);
  barred = λ a b. w.barred a b || (w.live a b && eqb a page);
  queue = map (written_release lay page) w.queue;
}

-- the page is dirty, and no edge leads to it
pub record IsReady (w : World) (page : ℕ) : Type 0 where
  pub dirty : w.dirty page ≡ true
  pub no_live : (a : ℕ) → w.live a page ≡ false
  pub no_barred : (a : ℕ) → w.barred a page ≡ false
