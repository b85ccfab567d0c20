-- An applied release: the edges that it needs, when it is blocked, and what it changes.
use Rattle.std.specs.Prelude.{List, None, Some, false, true, ℕ, ◌++◌, ◌+◌, ◌<◌, ◌∷◌, ◌≡◌, ◌≢◌, ◌⊎◌}
use Rattle.order_model.specs.World.{Layout, Release, World, IsData}
use Rattle.engine_model.specs.Entries.{cached_count, cached_name, cached_print}
use Rattle.order_model.specs.Paths.{Closes}
use Rattle.engine_model.specs.Known.{Known}
use Rattle.engine_model.specs.Edits.{CacheOnly, NewEdges}

-- the count of p is 1, and p has a print that the device may have
abbrev pub IsLastPrint : Layout → Known → World → ℕ → Type 0
IsLastPrint lay known w p = (cached_count lay w p ≡ 1) × ((print : List ℕ) × (cached_print lay w p ≡ Some print)) × (known.unborn_print p ≡ false)

-- a Live edge that r needs would close a cycle
abbrev pub IsBlocked : Layout → Known → World → Release → Type 0
IsBlocked lay known w r =
    ((r.stage ≡ 0) × Closes w.live (lay.map_page r.block) (lay.count_page r.page))
    ⊎ (IsLastPrint lay known w r.page × Closes w.live (lay.print_page r.page) (lay.count_page r.page))

-- the Live edges that r needs, and the Barrier edge
abbrev pub NeededEdge : Layout → Known → World → Release → ℕ → ℕ → Type 0
NeededEdge lay known w r a b =
    (((r.stage ≡ 0) × (a ≡ lay.map_page r.block)) ⊎ (IsLastPrint lay known w r.page × (a ≡ lay.print_page r.page))) × (b ≡ lay.count_page r.page)

abbrev pub NeededBarrier : Layout → Release → ℕ → ℕ → Type 0
NeededBarrier lay r a b = (r.stage ≡ 1) × (a ≡ lay.map_page r.block) × (b ≡ lay.count_page r.page)

-- the release r, which stood between before and after in the queue, is applied
pub record Applied (lay : Layout) (known : Known) (w v : World) (r : Release) (before after : List Release) : Type 0 where
  pub rest : CacheOnly lay w v
  pub edges : NewEdges w v (NeededEdge lay known w r) (NeededBarrier lay r)
  pub no_cycle : IsBlocked lay known w r → ⊥
  pub was_queued : w.queue ≡ before ++ r ∷ after
  pub removed : v.queue ≡ before ++ after
  pub names : (l : ℕ) → l < lay.blocks → cached_name lay v l ≡ cached_name lay w l
  pub count_here : cached_count lay v r.page + 1 ≡ cached_count lay w r.page
  pub count_other : (q : ℕ) → IsData lay q → q ≢ r.page → cached_count lay v q ≡ cached_count lay w q
  pub print_kept : 0 < cached_count lay v r.page → cached_print lay v r.page ≡ cached_print lay w r.page
  pub print_gone : cached_count lay v r.page ≡ 0 → cached_print lay v r.page ≡ None
  pub print_other : (q : ℕ) → IsData lay q → q ≢ r.page → cached_print lay v q ≡ cached_print lay w q
  pub from_map : r.stage ≡ 0 → v.live (lay.map_page r.block) (lay.count_page r.page) ≡ true
  pub from_hung_map : r.stage ≡ 1 → v.barred (lay.map_page r.block) (lay.count_page r.page) ≡ true
  pub from_print : IsLastPrint lay known w r.page → v.live (lay.print_page r.page) (lay.count_page r.page) ≡ true
