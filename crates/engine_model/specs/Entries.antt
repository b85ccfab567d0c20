-- The entries of the tables: which page serves what, and what a state holds of names, counts and prints in the cache, on the device as it is read, and in what a crash may leave.
use Rattle.std.specs.Prelude.{List, Option, Some, eqb, false, true, ℕ, ◌<◌, ◌≡◌, ◌≢◌, ◌⊎◌}
use Rattle.order_model.specs.World.{IsData, Layout, Possible, World}
use Rattle.order_model.specs.Counting.{count_below}

-- the page holds a table's entries
abbrev pub IsTable : Layout → ℕ → Type 0
IsTable lay page =
    ((l : ℕ) × (l < lay.blocks) × (page ≡ lay.map_page l))
    ⊎ ((p : ℕ) × IsData lay p × ((page ≡ lay.count_page p) ⊎ (page ≡ lay.print_page p)))

-- the kinds of pages at the ends of edges
abbrev pub IsMap : Layout → ℕ → Type 0
IsMap lay page = (l : ℕ) × (l < lay.blocks) × (page ≡ lay.map_page l)

abbrev pub IsCount : Layout → ℕ → Type 0
IsCount lay page = (p : ℕ) × IsData lay p × (page ≡ lay.count_page p)

abbrev pub IsPrint : Layout → ℕ → Type 0
IsPrint lay page = (p : ℕ) × IsData lay p × (page ≡ lay.print_page p)

abbrev pub IsDataPage : Layout → ℕ → Type 0
IsDataPage lay page = (p : ℕ) × IsData lay p × (page ≡ lay.data_page p)

-- the first page, one of a table or a data page, as every page of a device is
abbrev pub IsPage : Layout → ℕ → Type 0
IsPage lay page = (page ≡ 0) ⊎ (IsTable lay page ⊎ IsDataPage lay page)

-- an edge leads from a data or count page to a map or print page, or from one of these to a count page
abbrev pub EdgeKind : Layout → ℕ → ℕ → Type 0
EdgeKind lay a b = ((IsDataPage lay a ⊎ IsCount lay a) × (IsMap lay b ⊎ IsPrint lay b)) ⊎ ((IsMap lay a ⊎ IsPrint lay a) × IsCount lay b)

abbrev pub cached_name : Layout → World → ℕ → ℕ
cached_name lay w l = lay.name_in (w.cached (lay.map_page l)) l

abbrev pub cached_count : Layout → World → ℕ → ℕ
cached_count lay w p = lay.count_in (w.cached (lay.count_page p)) p

abbrev pub cached_print : Layout → World → ℕ → Option (List ℕ)
cached_print lay w p = lay.print_in (w.cached (lay.print_page p)) p

abbrev pub newest_name : Layout → World → ℕ → ℕ
newest_name lay w l = lay.name_in (w.newest (lay.map_page l)) l

abbrev pub newest_count : Layout → World → ℕ → ℕ
newest_count lay w p = lay.count_in (w.newest (lay.count_page p)) p

abbrev pub newest_print : Layout → World → ℕ → Option (List ℕ)
newest_print lay w p = lay.print_in (w.newest (lay.print_page p)) p

-- how many blocks name p in the cache
abbrev pub cached_names : Layout → World → ℕ → ℕ
cached_names lay w p = count_below (λ l. eqb (cached_name lay w l) p) lay.blocks

-- a possible content of l's map page names p at l
pub record MayName (lay : Layout) (w : World) (p l : ℕ) : Type 0 where
  pub content : List ℕ
  pub possible : Possible w (lay.map_page l) content
  pub names : lay.name_in content l ≡ p

-- a possible content of p's print page has this print of p
pub record MayPrint (lay : Layout) (w : World) (p : ℕ) (print : List ℕ) : Type 0 where
  pub content : List ℕ
  pub possible : Possible w (lay.print_page p) content
  pub has : lay.print_in content p ≡ Some print

abbrev pub HasEdge : World → ℕ → ℕ → Type 0
HasEdge w a b = (w.live a b ≡ true) ⊎ (w.barred a b ≡ true)

abbrev pub NoEdge : World → ℕ → ℕ → Type 0
NoEdge w a b = (w.live a b ≡ false) × (w.barred a b ≡ false)

-- no page serves two ends
pub record Apart (lay : Layout) : Type 0 where
  pub table_data : (page p : ℕ) → IsTable lay page → IsData lay p → page ≢ lay.data_page p
  pub data_data : (q p : ℕ) → IsData lay q → IsData lay p → q ≢ p → lay.data_page q ≢ lay.data_page p
  pub map_count : (l p : ℕ) → l < lay.blocks → IsData lay p → lay.map_page l ≢ lay.count_page p
  pub map_print : (l p : ℕ) → l < lay.blocks → IsData lay p → lay.map_page l ≢ lay.print_page p
  pub count_print : (q p : ℕ) → IsData lay q → IsData lay p → lay.count_page q ≢ lay.print_page p
  pub first_table : (page : ℕ) → IsTable lay page → page ≢ 0
  pub first_data : (p : ℕ) → IsData lay p → lay.data_page p ≢ 0
