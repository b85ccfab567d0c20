-- A graph as contracts see it: plain lists of marks and edges.
use Rattle.std.specs.Prelude.{◌≡◌, ℕ, ◌+◌, ◌-◌, ◌++◌, if◌then◌else◌, List, Bool, true, not, ◌&&◌, ◌||◌, eqb, map, filter, length}
use Rattle.std.specs.List.{list_any}
use Rattle.order_model.specs.declared.Kind.{Kind}
use Rattle.order_model.specs.declared.Kind.TheVariants.{Live, Barrier}
use Rattle.order_model.specs.Edges.{Edge, has_barred, has_live, is_live}
use Rattle.order_model.specs.Levels.{Marks}
use Rattle.order_model.specs.Paths.{IsAcyclic}
use Rattle.dep_graph.specs.declared.pairs.Pair.{Pair}
use Rattle.dep_graph.specs.Pages.{holds, IsRising, placed}
use Rattle.dep_graph.specs.Rising.{Rises}

-- the dirty pages, the hung pages, the edges, and for how many further nodes and edges there is room
pub record GraphLists : Type 0 where
  pub dirty : List ℕ
  pub hung : List ℕ
  pub edges : List Edge
  pub spare_nodes : ℕ
  pub spare_edges : ℕ

-- marks and edges, looked up
abbrev pub dirty_in : GraphLists → ℕ → Bool
dirty_in g a = holds g.dirty a

abbrev pub hung_in : GraphLists → ℕ → Bool
hung_in g a = holds g.hung a

abbrev pub is_node : GraphLists → ℕ → Bool
is_node g a = dirty_in g a || hung_in g a

abbrev pub live_in : GraphLists → ℕ → ℕ → Bool
live_in g a b = has_live g.edges a b

abbrev pub barred_in : GraphLists → ℕ → ℕ → Bool
barred_in g a b = has_barred g.edges a b

-- the marks and edges as tests
abbrev pub marks_of : GraphLists → Marks
marks_of g = record { dirty = dirty_in g; hung = hung_in g; live = live_in g; barred = barred_in g }

-- an edge of the kind stands
abbrev pub edge_in : GraphLists → ℕ → ℕ → Kind → Bool
edge_in g a b Live = live_in g a b
edge_in g a b Barrier = barred_in g a b

-- an edge of either kind leads to the page
abbrev pub waits_in : GraphLists → ℕ → Bool
waits_in g b = list_any (λ e. eqb e.after b) g.edges

-- the page is dirty, and no edge leads to it
abbrev pub is_ready : GraphLists → ℕ → Bool
is_ready g a = dirty_in g a && not (waits_in g a)

-- how many pages are dirty or hung
abbrev pub node_count : GraphLists → ℕ
node_count g = length g.dirty + length (filter (λ a. not (dirty_in g a)) g.hung)

-- the page is dirty now
abbrev pub entered : ℕ → GraphLists → GraphLists
entered page g = record g { dirty = placed page g.dirty; spare_nodes = (if is_node g page then g.spare_nodes else g.spare_nodes - 1) }

-- how many Live edges lead from the page
abbrev pub waiter_count : GraphLists → ℕ → ℕ
waiter_count g a = length (filter (λ e. eqb e.before a && is_live e.kind) g.edges)

-- Live edges by their pages, then Barrier edges by theirs
abbrev pub live_edge : Pair → Edge
live_edge p = record { before = p.before; after = p.after; kind = Live }

abbrev pub barrier_edge : Pair → Edge
barrier_edge p = record { before = p.before; after = p.after; kind = Barrier }

abbrev pub edges_of : List Pair → List Pair → List Edge
edges_of live barred = map live_edge live ++ map barrier_edge barred

-- no edge is the same as one that follows it
abbrev pub AreOnce : List Edge → Type 0
AreOnce edges = Rises (λ e f. e ≡ f → ⊥) edges

-- what holds of every graph: each page and each edge stands once, an edge leads between marked pages, and no cycle stands
pub record IsGraph (g : GraphLists) : Type 0 where
  pub dirty_once : IsRising g.dirty
  pub hung_once : IsRising g.hung
  pub edges_once : AreOnce g.edges
  pub live_ends : (a b : ℕ) → live_in g a b ≡ true → (dirty_in g a ≡ true) × (dirty_in g b ≡ true)
  pub barred_ends : (a b : ℕ) → barred_in g a b ≡ true → (hung_in g a ≡ true) × (dirty_in g b ≡ true)
  pub acyclic : IsAcyclic (live_in g)
