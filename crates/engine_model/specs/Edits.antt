-- Edits of the cache in general: what each edit leaves as it is, and what it has to bring with it.
use Rattle.std.specs.Prelude.{Bool, List, Some, [], false, true, ℕ, ◌++◌, ◌+◌, ◌<◌, ◌∷◌, ◌≡◌, ◌≤◌, ◌⊎◌}
use Rattle.order_model.specs.World.{Layout, Possible, Queued, World, queued, IsData}
use Rattle.engine_model.specs.Entries.{EdgeKind, HasEdge, IsTable, MayName, MayPrint, cached_count, cached_name, cached_names, cached_print}
use Rattle.order_model.specs.Paths.{IsAcyclic}
use Rattle.engine_model.specs.Contents.{Last}
use Rattle.engine_model.specs.Known.{Free}

-- what every edit of the cache leaves and keeps
pub record CacheOnly (lay : Layout) (w v : World) : Type 0 where
  pub newest : (page : ℕ) → v.newest page ≡ w.newest page
  pub possible : (page : ℕ) (c : List ℕ) → Possible v page c → Possible w page c
  pub cached_clean : (page : ℕ) → IsTable lay page → v.dirty page ≡ false → v.cached page ≡ w.cached page
  pub hung : (a : ℕ) → v.hung a ≡ w.hung a
  pub dirty_kept : (a : ℕ) → w.dirty a ≡ true → v.dirty a ≡ true
  pub live_kept : (a b : ℕ) → w.live a b ≡ true → v.live a b ≡ true
  pub barred_kept : (a b : ℕ) → w.barred a b ≡ true → v.barred a b ≡ true
  pub live_ends : (a b : ℕ) → v.live a b ≡ true → (w.live a b ≡ true) ⊎ ((v.dirty a ≡ true) × (v.dirty b ≡ true))
  pub barred_ends : (a b : ℕ) → v.barred a b ≡ true → (w.barred a b ≡ true) ⊎ ((v.hung a ≡ true) × (v.dirty b ≡ true))

-- no edge is new but one that New tells
pub record NewEdges (w v : World) (New Hung : ℕ → ℕ → Type 0) : Type 0 where
  pub live : (a b : ℕ) → v.live a b ≡ true → (w.live a b ≡ true) ⊎ New a b
  pub barred : (a b : ℕ) → v.barred a b ≡ true → (w.barred a b ≡ true) ⊎ Hung a b

-- What edits are to do: the device stays, marks and edges only grow, and each entry that is gained or lost has its edge or its release.
pub record Edits (lay : Layout) (top : ℕ) (w v : World) : Type 0 where
  pub rest : CacheOnly lay w v
  pub kinds : (a b : ℕ) → HasEdge v a b → HasEdge w a b ⊎ EdgeKind lay a b
  pub acyclic : IsAcyclic v.live
  -- count before map
  pub name_gained : (l p : ℕ) → l < lay.blocks → IsData lay p → cached_name lay v l ≡ p
      → (cached_name lay w l ≡ p) ⊎ (v.live (lay.count_page p) (lay.map_page l) ≡ true)
  -- a release is owed
  pub name_lost : (l p : ℕ) → l < lay.blocks → IsData lay p → MayName lay w p l → cached_name lay w l ≡ p
      → (cached_name lay v l ≡ p) ⊎ Queued v.queue l p 0
  -- count before print, or each count that the device may have is above 0 already
  pub print_gained : (p : ℕ) (print : List ℕ) → IsData lay p → cached_print lay v p ≡ Some print
      → (cached_print lay w p ≡ Some print) ⊎ ((v.live (lay.count_page p) (lay.print_page p) ≡ true) ⊎ ((c : List ℕ) → Possible w (lay.count_page p) c → 0 < lay.count_in c p))
  -- print before release
  pub print_lost : (p : ℕ) (print : List ℕ) → IsData lay p → MayPrint lay w p print → cached_print lay w p ≡ Some print
      → (cached_print lay v p ≡ Some print) ⊎ (v.live (lay.print_page p) (lay.count_page p) ≡ true)
  pub enough : (p : ℕ) → IsData lay p → cached_names lay v p + queued v.queue p ≤ cached_count lay v p
  pub in_range : (p : ℕ) → IsData lay p → cached_count lay v p ≤ top
  pub print_counted : (p : ℕ) (print : List ℕ) → IsData lay p → cached_print lay v p ≡ Some print → 0 < cached_count lay v p
  -- map before release
  pub zero_kept : (l p : ℕ) → Queued w.queue l p 0 → Queued v.queue l p 0 ⊎ (v.live (lay.map_page l) (lay.count_page p) ≡ true)
  pub one_kept : (l p : ℕ) → Queued w.queue l p 1 → Queued v.queue l p 1 ⊎ HasEdge v (lay.map_page l) (lay.count_page p)
  pub zero_dirty : (l p : ℕ) → l < lay.blocks → Queued v.queue l p 0 → v.dirty (lay.map_page l) ≡ true
  pub one_hung : (l p : ℕ) → l < lay.blocks → Queued v.queue l p 1 → v.hung (lay.map_page l) ≡ true
  pub queue_in_range : (l p stage : ℕ) → Queued v.queue l p stage → (l < lay.blocks) × IsData lay p

-- pages are touched, counts are raised or edges are added, and no entry of another kind changes
pub record Grown (lay : Layout) (top : ℕ) (w v : World) : Type 0 where
  pub rest : CacheOnly lay w v
  pub kinds : (a b : ℕ) → HasEdge v a b → HasEdge w a b ⊎ EdgeKind lay a b
  pub acyclic : IsAcyclic v.live
  pub queue : v.queue ≡ w.queue
  pub names : (l : ℕ) → l < lay.blocks → cached_name lay v l ≡ cached_name lay w l
  pub prints : (p : ℕ) → IsData lay p → cached_print lay v p ≡ cached_print lay w p
  pub counts : (p : ℕ) → IsData lay p → (cached_count lay w p ≤ cached_count lay v p) × (cached_count lay v p ≤ top)

-- a is ordered before b as far as it is still to be written or fixed
pub record Ordered (v : World) (a b : ℕ) : Type 0 where
  pub dirty : v.dirty a ≡ true → v.live a b ≡ true
  pub hung : v.hung a ≡ true → HasEdge v a b

-- What edits are to do to contents: before and after are the block array.
pub record ContentEdits (lay : Layout) (sound : Bool) (before after : ℕ → List (List ℕ)) (w v : World) : Type 0 where
  pub rest : CacheOnly lay w v
  pub dirty_fresh : (p : ℕ) → IsData lay p → v.dirty (lay.data_page p) ≡ true → (w.dirty (lay.data_page p) ≡ true) ⊎ Free lay w p
  pub cached : (p : ℕ) → IsData lay p
      → (v.cached (lay.data_page p) ≡ w.cached (lay.data_page p)) ⊎ (Free lay w p × (v.dirty (lay.data_page p) ≡ true))
  -- data before map, and data before print
  pub name_gained : (l p : ℕ) → l < lay.blocks → IsData lay p → cached_name lay v l ≡ p
      → (cached_name lay w l ≡ p) ⊎ Ordered v (lay.data_page p) (lay.map_page l)
  pub print_gained : (p : ℕ) (print : List ℕ) → IsData lay p → cached_print lay v p ≡ Some print
      → (cached_print lay w p ≡ Some print) ⊎ (Ordered v (lay.data_page p) (lay.print_page p) × (print ≡ lay.finger (v.cached (lay.data_page p))))
  pub count_risen : (p : ℕ) → IsData lay p → 0 < cached_count lay v p
      → (0 < cached_count lay w p) ⊎ (v.dirty (lay.data_page p) ≡ true)
  -- a block keeps its name and its list, or it holds the last of its list, which may be new
  pub blocks : (l : ℕ) → l < lay.blocks
      → ((cached_name lay v l ≡ cached_name lay w l) × (after l ≡ before l))
      ⊎ ((content : List ℕ) × ((after l ≡ before l ++ content ∷ []) ⊎ ((after l ≡ before l) × Last (before l) content))
      × (cached_name lay v l ≡ 0 → content ≡ lay.zero_block)
      × ((p : ℕ) → IsData lay p → cached_name lay v l ≡ p → content ≡ v.cached (lay.data_page p)))
  pub well_formed : (page : ℕ) → IsTable lay page → lay.well_formed page (v.cached page) ≡ true
  pub first_page : (v.dirty 0 ≡ false) × (v.cached 0 ≡ w.cached 0)
