-- The edits of a write and of a discard, as plain facts on the entries that change.
use Rattle.std.specs.Prelude.{List, Some, [], cond, false, true, ℕ, ◌++◌, ◌+◌, ◌<◌, ◌∷◌, ◌≡◌, ◌≢◌, ◌⊎◌}
use Rattle.order_model.specs.World.{Layout, World, IsData}
use Rattle.engine_model.specs.Entries.{IsTable, cached_count, cached_name, cached_print}
use Rattle.order_model.specs.Paths.{Closes}
use Rattle.engine_model.specs.Known.{Known}
use Rattle.engine_model.specs.Edits.{CacheOnly, NewEdges, Ordered}

abbrev pub NoPages : ℕ → ℕ → Type 0
NoPages a b = ⊥

-- The name at l goes from o to another one: the release of o is pushed where o is a page, at stage 0, or at stage 3 where the name is unborn.
pub record Released (lay : Layout) (known : Known) (w v : World) (l o : ℕ) : Type 0 where
  pub in_range : l < lay.blocks
  pub was : cached_name lay w l ≡ o
  pub none_or_data : (o ≡ 0) ⊎ IsData lay o
  pub other_names : (k : ℕ) → k < lay.blocks → k ≢ l → cached_name lay v k ≡ cached_name lay w k
  pub map_dirty : v.dirty (lay.map_page l) ≡ true
  pub pushed : ((o ≡ 0) × (v.queue ≡ w.queue))
      ⊎ ((0 < o) × (v.queue ≡ w.queue ++ (record { block = l; page = o; stage = cond (known.unborn_name l o) 3 0 }) ∷ []))

-- l drops its name
pub record Discarded (lay : Layout) (known : Known) (w v : World) (l o : ℕ) : Type 0 where
  pub rest : CacheOnly lay w v
  pub edges : NewEdges w v NoPages NoPages
  pub released : Released lay known w v l o
  pub had : 0 < o
  pub name : cached_name lay v l ≡ 0
  pub counts : (q : ℕ) → IsData lay q → cached_count lay v q ≡ cached_count lay w q
  pub prints : (q : ℕ) → IsData lay q → cached_print lay v q ≡ cached_print lay w q

-- p is fresh and gets its print
pub record Fresh (lay : Layout) (known : Known) (v : World) (p : ℕ) (print : List ℕ) : Type 0 where
  pub was_free : known.free p ≡ true
  pub first_count : v.live (lay.count_page p) (lay.print_page p) ≡ true

-- the pages that go first, and the pages that wait for them: the print page of p only where the count page may go before it
abbrev pub Mandatory : Layout → World → ℕ → ℕ → ℕ → ℕ → Type 0
Mandatory lay w l p a b =
    ((a ≡ lay.data_page p) ⊎ (a ≡ lay.count_page p))
    × ((b ≡ lay.map_page l) ⊎ ((b ≡ lay.print_page p) × (Closes w.live (lay.count_page p) (lay.print_page p) → ⊥)))

-- l takes the name p in place of o
pub record Renamed (lay : Layout) (known : Known) (top : ℕ) (w v : World) (l o p : ℕ) : Type 0 where
  pub rest : CacheOnly lay w v
  pub edges : NewEdges w v (Mandatory lay w l p) (Mandatory lay w l p)
  -- else the map page is settled before
  pub no_cycle : Closes w.live (lay.count_page p) (lay.map_page l) → ⊥
  pub released : Released lay known w v l o
  pub is_data : IsData lay p
  pub other : p ≢ o
  pub name : cached_name lay v l ≡ p
  pub below_top : cached_count lay w p < top
  pub count_here : cached_count lay v p ≡ cached_count lay w p + 1
  pub count_other : (q : ℕ) → IsData lay q → q ≢ p → cached_count lay v q ≡ cached_count lay w q
  pub print_other : (q : ℕ) → IsData lay q → q ≢ p → cached_print lay v q ≡ cached_print lay w q
  pub print_here : (cached_print lay v p ≡ cached_print lay w p) ⊎ ((print : List ℕ) × Fresh lay known v p print)
  pub counted : v.live (lay.count_page p) (lay.map_page l) ≡ true

-- The content at p of a write, beside the facts of Renamed: either p is fresh and gets the content, or p has it already.
pub record PageContent (lay : Layout) (known : Known) (w v : World) (l p : ℕ) (content : List ℕ) : Type 0 where
  pub data_other : (q : ℕ) → IsData lay q → q ≢ p
      → (v.cached (lay.data_page q) ≡ w.cached (lay.data_page q)) × (v.dirty (lay.data_page q) ≡ w.dirty (lay.data_page q))
  pub data_here : v.cached (lay.data_page p) ≡ content
  pub chosen :
      ((known.free p ≡ true) × (v.dirty (lay.data_page p) ≡ true) × (cached_print lay v p ≡ Some (lay.finger content)) × Ordered v (lay.data_page p) (lay.print_page p))
      ⊎ ((0 < cached_count lay w p) × (w.cached (lay.data_page p) ≡ content) × (v.dirty (lay.data_page p) ≡ w.dirty (lay.data_page p)) × (cached_print lay v p ≡ cached_print lay w p))
  pub ordered : Ordered v (lay.data_page p) (lay.map_page l)
  pub well_formed : (page : ℕ) → IsTable lay page → lay.well_formed page (v.cached page) ≡ true
  pub first_page : (v.dirty 0 ≡ false) × (v.cached 0 ≡ w.cached 0)

-- the list of l gains the content, and no other list changes
pub record Gains (before after : ℕ → List (List ℕ)) (l : ℕ) (content : List ℕ) : Type 0 where
  pub here : after l ≡ before l ++ content ∷ []
  pub other : (k : ℕ) → k ≢ l → after k ≡ before k

-- a release or a discard leaves the data pages
pub record DataKept (lay : Layout) (w v : World) : Type 0 where
  pub pages : (q : ℕ) → IsData lay q
      → (v.cached (lay.data_page q) ≡ w.cached (lay.data_page q)) × (v.dirty (lay.data_page q) ≡ w.dirty (lay.data_page q))
  pub well_formed : (page : ℕ) → IsTable lay page → lay.well_formed page (v.cached page) ≡ true
  pub first_page : (v.dirty 0 ≡ false) × (v.cached 0 ≡ w.cached 0)
