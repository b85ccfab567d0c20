-- The first group of the engine invariant: marks, edges, counts, names, prints and releases.
use Rattle.std.specs.Prelude.{List, Some, false, true, ℕ, ◌+◌, ◌<◌, ◌≡◌, ◌≤◌, ◌⊎◌}
use Rattle.order_model.specs.Counting.{AtMost}
use Rattle.order_model.specs.World.{Layout, Possible, Queued, World, queued, IsData}
use Rattle.engine_model.specs.Entries.{EdgeKind, HasEdge, IsTable, MayName, MayPrint, NoEdge, cached_count, cached_name, cached_names, cached_print, newest_count, newest_name, newest_print}
use Rattle.order_model.specs.Paths.{IsAcyclic}

-- l may come to name p on the device with no write of p's count page before
abbrev pub Covered : Layout → World → ℕ → ℕ → Type 0
Covered lay w p l =
    MayName lay w p l ⊎ ((cached_name lay w l ≡ p) × NoEdge w (lay.count_page p) (lay.map_page l))

-- the same, once the next barrier is made
abbrev pub Near : Layout → World → ℕ → ℕ → Type 0
Near lay w p l =
    MayName lay w p l
    ⊎ ((cached_name lay w l ≡ p) × (w.live (lay.count_page p) (lay.map_page l) ≡ false))

-- the same of p's print
abbrev pub Printed : Layout → World → ℕ → List ℕ → Type 0
Printed lay w p print =
    MayPrint lay w p print
    ⊎ ((cached_print lay w p ≡ Some print) × NoEdge w (lay.count_page p) (lay.print_page p))

abbrev pub NearPrinted : Layout → World → ℕ → List ℕ → Type 0
NearPrinted lay w p print =
    MayPrint lay w p print
    ⊎ ((cached_print lay w p ≡ Some print) × (w.live (lay.count_page p) (lay.print_page p) ≡ false))

-- no cycle of Live edges; the ends of edges are nodes; a table page that is no node stands as it is cached, and one that is not dirty has its newest content cached
pub record MarksAndEdges (lay : Layout) (w : World) : Type 0 where
  pub acyclic : IsAcyclic w.live
  pub live_before : (a b : ℕ) → w.live a b ≡ true → w.dirty a ≡ true
  pub live_after : (a b : ℕ) → w.live a b ≡ true → w.dirty b ≡ true
  pub barred_before : (a b : ℕ) → w.barred a b ≡ true → w.hung a ≡ true
  pub barred_after : (a b : ℕ) → w.barred a b ≡ true → w.dirty b ≡ true
  pub settled : (page : ℕ) (c : List ℕ) → IsTable lay page → w.dirty page ≡ false → w.hung page ≡ false → Possible w page c
      → c ≡ w.cached page
  pub clean : (page : ℕ) → IsTable lay page → w.dirty page ≡ false → w.newest page ≡ w.cached page

-- each edge is of an allowed kind, so none leads to a data page
abbrev pub EdgeKinds : Layout → World → Type 0
EdgeKinds lay w = (a b : ℕ) → HasEdge w a b → EdgeKind lay a b

-- the cached count is its names and its queued releases and a waste, and is at most the limit
pub record Balanced (lay : Layout) (w : World) (top p : ℕ) : Type 0 where
  pub enough : cached_names lay w p + queued w.queue p ≤ cached_count lay w p
  pub in_range : cached_count lay w p ≤ top

-- every count that a crash may leave covers the names that may come to stand with it
pub record CoversNames (lay : Layout) (w : World) (p : ℕ) : Type 0 where
  pub each : (c : List ℕ) → Possible w (lay.count_page p) c → AtMost lay.blocks (Covered lay w p) (lay.count_in c p)
  pub newest : AtMost lay.blocks (Near lay w p) (newest_count lay w p)

-- and is above 0 where a print may come to stand with it
pub record CoversPrints (lay : Layout) (w : World) (p : ℕ) : Type 0 where
  pub each : (c print : List ℕ) → Possible w (lay.count_page p) c → Printed lay w p print → 0 < lay.count_in c p
  pub newest : (print : List ℕ) → NearPrinted lay w p print → 0 < newest_count lay w p

-- a name that the device may have and the cache has not has its release or its edge; and each release is of a block and a data page
pub record OwesRelease (lay : Layout) (w : World) : Type 0 where
  pub each : (l p : ℕ) → l < lay.blocks → IsData lay p → MayName lay w p l
      → (cached_name lay w l ≡ p) ⊎ ((Queued w.queue l p 0 ⊎ Queued w.queue l p 1) ⊎ HasEdge w (lay.map_page l) (lay.count_page p))
  pub newest : (l p : ℕ) → l < lay.blocks → IsData lay p → newest_name lay w l ≡ p
      → (cached_name lay w l ≡ p) ⊎ (Queued w.queue l p 0 ⊎ (w.live (lay.map_page l) (lay.count_page p) ≡ true))
  pub dirty : (l p : ℕ) → l < lay.blocks → Queued w.queue l p 0 → w.dirty (lay.map_page l) ≡ true
  pub hung : (l p : ℕ) → l < lay.blocks → Queued w.queue l p 1 → w.hung (lay.map_page l) ≡ true
  pub in_range : (l p stage : ℕ) → Queued w.queue l p stage → (l < lay.blocks) × IsData lay p

-- a print that the device may have and the cache has not has its edge
pub record LostPrint (lay : Layout) (w : World) (p : ℕ) : Type 0 where
  pub each : (print : List ℕ) → MayPrint lay w p print
      → (cached_print lay w p ≡ Some print) ⊎ HasEdge w (lay.print_page p) (lay.count_page p)
  pub newest : (print : List ℕ) → newest_print lay w p ≡ Some print
      → (cached_print lay w p ≡ Some print) ⊎ (w.live (lay.print_page p) (lay.count_page p) ≡ true)

-- what is kept of counts, names, prints, releases and edges
pub record CountsInvariant (lay : Layout) (top : ℕ) (w : World) : Type 0 where
  pub marks_and_edges : MarksAndEdges lay w
  pub edge_kinds : EdgeKinds lay w
  pub count_balance : (p : ℕ) → IsData lay p → Balanced lay w top p
  pub counts_cover_names : (p : ℕ) → IsData lay p → CoversNames lay w p
  pub counts_cover_prints : (p : ℕ) → IsData lay p → CoversPrints lay w p
  pub print_needs_count : (p : ℕ) (print : List ℕ) → IsData lay p → cached_print lay w p ≡ Some print → 0 < cached_count lay w p
  pub lost_name_owes_release : OwesRelease lay w
  pub lost_print_ordered : (p : ℕ) → IsData lay p → LostPrint lay w p
