-- What is made of the pages of an engine, and of their order.
use Rattle.std.specs.Prelude.{◌≡◌, ◌≤◌, ◌+◌, ◌/◌, ◌-◌, Bool, false, true, ◌&&◌, ◌||◌, not, ℕ, cond, eqb, []}
use Rattle.std.specs.Borrow.{Lends, MutBor, Fml}
use Rattle.page_device.specs.Block.{Block}
use Rattle.page_device.specs.contracts.block.Page.{the_row as page_row}
use Rattle.page_cache.specs.Calls.{TakenOut}
use Rattle.page_cache.specs.Lending.{with_content}
use Rattle.page_cache.specs.View.{CacheView}
use Rattle.page_cache.specs.View.{dirty_in as cached_dirty}
use Rattle.page_cache.specs.contracts.cache.Cache.{the_row as cache_row}
use Rattle.dep_graph.specs.Calls.{Dropped}
use Rattle.dep_graph.specs.Lists.{GraphLists, IsGraph, barred_in, dirty_in, entered, hung_in, live_in}
use Rattle.dep_graph.specs.contracts.graph.Graph.{the_row as graph_row}
use Rattle.flush_engine.specs.Tallies.{counted, left_out}
use Rattle.flush_engine.specs.View.{EngineView, IsWhole}
use Rattle.flush_engine.specs.contracts.engine.Engine.{the_row}

-- an engine that was just made: there is room for a quarter more pages than the cache's list is for
pub record IsNew (cache : CacheView) (e : EngineView) : Type 0 where
  pub cache_is : e.cache ≡ cache
  pub graph : e.graph ≡ record { dirty = []; hung = []; edges = []; spare_nodes = 0; spare_edges = 0 }
  pub tallies : e.tallies ≡ []
  pub room : cache.limit + cache.limit / 4 ≤ e.room
  pub whole : ((q : ℕ) → cached_dirty cache q ≡ false) → IsWhole e

-- a page is dirty, and one edit more is counted
abbrev pub marked : ℕ → EngineView → EngineView
marked page e = record e { graph = entered page e.graph; tallies = counted page e.tallies }

-- and it has this content
abbrev pub touched : ℕ → Block → EngineView → EngineView
touched page block e = record (marked page e) { cache = with_content e.cache page block }

abbrev pub LendsPage : MutBor EngineView → ℕ → MutBor Block → Fml
LendsPage e page r = Lends the_row page_row e r (λ block. touched page block e.now)

abbrev pub LendsCache : MutBor EngineView → MutBor CacheView → Fml
LendsCache e r = Lends the_row cache_row e r (λ c. record e.now { cache = c })

abbrev pub LendsGraph : MutBor EngineView → MutBor GraphLists → Fml
LendsGraph e r = Lends the_row graph_row e r (λ g. record e.now { graph = g })

-- the edge stands that the order asks for, if it asks for one
abbrev pub is_ordered : GraphLists → ℕ → ℕ → Bool
is_ordered g before after = cond (dirty_in g before) (live_in g before after) (cond (hung_in g before) (barred_in g before after) true)

-- A page must be on the device ahead of the next write of another: a Live edge where it is dirty, a Barrier edge where it is hung alone, and nothing where it is neither. A new edge takes a spare one.
pub record Ordered (before after : ℕ) (old new : GraphLists) : Type 0 where
  pub dirty : new.dirty ≡ old.dirty
  pub hung : new.hung ≡ old.hung
  pub live : (a b : ℕ) → live_in new a b ≡ (live_in old a b || (dirty_in old before && (eqb a before && eqb b after)))
  pub barred : (a b : ℕ) → barred_in new a b ≡ (barred_in old a b || ((not (dirty_in old before) && hung_in old before) && (eqb a before && eqb b after)))
  pub spare_nodes : new.spare_nodes ≡ old.spare_nodes
  pub spare_edges : new.spare_edges ≡ cond (is_ordered old before after) old.spare_edges (old.spare_edges - 1)
  pub graph : IsGraph new

-- a dirty page is there no longer, and its content is lost
pub record GivenUp (page : ℕ) (old new : EngineView) : Type 0 where
  pub cache : TakenOut old.cache new.cache page
  pub graph : Dropped page old.graph new.graph
  pub tallies : new.tallies ≡ left_out page old.tallies
  pub room : new.room ≡ old.room
