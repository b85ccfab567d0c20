-- The second group of the engine invariant: what is kept of contents. It rests on the first.
use Rattle.std.specs.Prelude.{Bool, List, Some, [], false, true, ℕ, ◌<◌, ◌∷◌, ◌≡◌}
use Rattle.order_model.specs.Contents.{IsAmong}
use Rattle.order_model.specs.World.{Layout, Possible, World, IsData}
use Rattle.engine_model.specs.Entries.{HasEdge, IsTable, MayName, MayPrint, cached_count, cached_name, cached_print}

-- c is the last of these
abbrev pub Last : List (List ℕ) → List ℕ → Type 0
Last [] c = ⊥
Last (x ∷ []) c = c ≡ x
Last (x ∷ (y ∷ ys)) c = Last (y ∷ ys) c

-- fresh data goes before its names and its print; and a data page that is not dirty is cached as it was written last
pub record DataOrdered (lay : Layout) (w : World) (p : ℕ) : Type 0 where
  pub name_dirty : (l : ℕ) → l < lay.blocks → cached_name lay w l ≡ p → w.dirty (lay.data_page p) ≡ true
      → w.live (lay.data_page p) (lay.map_page l) ≡ true
  pub name_hung : (l : ℕ) → l < lay.blocks → cached_name lay w l ≡ p → w.hung (lay.data_page p) ≡ true
      → HasEdge w (lay.data_page p) (lay.map_page l)
  pub print_dirty : (print : List ℕ) → cached_print lay w p ≡ Some print → w.dirty (lay.data_page p) ≡ true
      → w.live (lay.data_page p) (lay.print_page p) ≡ true
  pub print_hung : (print : List ℕ) → cached_print lay w p ≡ Some print → w.hung (lay.data_page p) ≡ true
      → HasEdge w (lay.data_page p) (lay.print_page p)
  pub settled : (c : List ℕ) → 0 < cached_count lay w p → w.dirty (lay.data_page p) ≡ false → w.hung (lay.data_page p) ≡ false
      → Possible w (lay.data_page p) c → c ≡ w.newest (lay.data_page p)
  pub clean : w.dirty (lay.data_page p) ≡ false → w.newest (lay.data_page p) ≡ w.cached (lay.data_page p)

-- p's data page has one possible content
pub record IsFixed (lay : Layout) (w : World) (p : ℕ) : Type 0 where
  pub one : (c : List ℕ) → Possible w (lay.data_page p) c → c ≡ w.newest (lay.data_page p)

-- p's data page is no node
pub record Stands (lay : Layout) (w : World) (p : ℕ) : Type 0 where
  pub clean : w.dirty (lay.data_page p) ≡ false
  pub fixed : w.hung (lay.data_page p) ≡ false

-- a data page that a possible map page names, or that has a print in a possible print page, has one possible content
pub record NamedFixed (lay : Layout) (w : World) (p : ℕ) : Type 0 where
  pub named : (l : ℕ) → l < lay.blocks → MayName lay w p l → IsFixed lay w p
  pub printed : (print : List ℕ) → MayPrint lay w p print → IsFixed lay w p

-- and is no node
pub record NamedStands (lay : Layout) (w : World) (p : ℕ) : Type 0 where
  pub named : (l : ℕ) → l < lay.blocks → MayName lay w p l → Stands lay w p
  pub printed : (print : List ℕ) → MayPrint lay w p print → Stands lay w p

-- what a crash may leave of l is in its list, and the cache has the last of it
pub record Reads (lay : Layout) (w : World) (array : ℕ → List (List ℕ)) (l : ℕ) : Type 0 where
  pub unmapped : MayName lay w 0 l → IsAmong lay.zero_block (array l)
  pub mapped : (p : ℕ) → IsData lay p → MayName lay w p l → IsAmong (w.newest (lay.data_page p)) (array l)
  pub cached_unmapped : cached_name lay w l ≡ 0 → Last (array l) lay.zero_block
  pub cached_mapped : (p : ℕ) → IsData lay p → cached_name lay w l ≡ p → Last (array l) (w.cached (lay.data_page p))

-- each possible and each cached print is the fingerprint of its page's content
pub record PrintsTrue (lay : Layout) (w : World) (p : ℕ) : Type 0 where
  pub possible : (print : List ℕ) → MayPrint lay w p print → print ≡ lay.finger (w.newest (lay.data_page p))
  pub cached : (print : List ℕ) → cached_print lay w p ≡ Some print → print ≡ lay.finger (w.cached (lay.data_page p))

-- each table page is well formed, on the device and in the cache
pub record WellFormed (lay : Layout) (w : World) : Type 0 where
  pub possible : (page : ℕ) (c : List ℕ) → IsTable lay page → Possible w page c → lay.well_formed page c ≡ true
  pub cached : (page : ℕ) → IsTable lay page → lay.well_formed page (w.cached page) ≡ true

-- the first page has one content, which is cached, and no other is to be written
pub record FirstPage (w : World) : Type 0 where
  pub one : (c : List ℕ) → Possible w 0 c → c ≡ w.newest 0
  pub clean : w.dirty 0 ≡ false
  pub cached : w.cached 0 ≡ w.newest 0

-- what is kept of contents; sound says whether the session began Sound
pub record ContentsInvariant (lay : Layout) (sound : Bool) (array : ℕ → List (List ℕ)) (w : World) : Type 0 where
  pub fresh_data_first : (p : ℕ) → IsData lay p → DataOrdered lay w p
  pub named_data_fixed : (p : ℕ) → IsData lay p → NamedFixed lay w p
  pub named_data_stands : (p : ℕ) → IsData lay p → NamedStands lay w p
  pub reads : (l : ℕ) → l < lay.blocks → Reads lay w array l
  pub prints_true : sound ≡ true → (p : ℕ) → IsData lay p → PrintsTrue lay w p
  pub well_formed : WellFormed lay w
  pub first_page : FirstPage w
