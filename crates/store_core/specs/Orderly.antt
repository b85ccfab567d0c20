-- What a core keeps of marks, edges, queue and tables, whatever the device.
use Rattle.std.specs.Prelude.{◌≡◌, ◌≢◌, ℕ, true, false}
use Rattle.std.specs.List.{All}
use Rattle.page_device.specs.Meaning.{Meaning}
use Rattle.page_layout.specs.Formed.{is_formed}
use Rattle.page_cache.specs.View.{content_in, is_there}
use Rattle.dep_graph.specs.Lists.{GraphLists, dirty_in, hung_in, live_in}
use Rattle.release_queue.specs.Needed.{IsBlocked}
use Rattle.release_queue.specs.declared.Release.{Release}
use Rattle.release_queue.specs.declared.TheConstants.{NOT_WRITTEN, WRITTEN}
use Rattle.engine_model.specs.AnyDevice.{IsOrdered}
use Rattle.store_core.specs.declared.Core.{Core}
use Rattle.store_core.specs.Applied.{is_last_print}
use Rattle.store_core.specs.Layout.{lay_of}
use Rattle.store_core.specs.Owed.{IsProvided}
use Rattle.store_core.specs.Views.{page_in, world_of}

-- A release whose map page was not written since has it dirty, and one whose map page was written and not fixed has it hung.
pub record Waits (graph : GraphLists) (r : Release) : Type 0 where
  pub dirty : r.stage ≡ NOT_WRITTEN → dirty_in graph r.map_at ≡ true
  pub hung : r.stage ≡ WRITTEN → hung_in graph r.map_at ≡ true

-- a release has to wait
abbrev pub HasToWait : Core → Release → Type 0
HasToWait core r = IsBlocked (live_in core.engine.graph) r (is_last_print core r)

-- a release that a pass leaves out has to wait; the same but for the releases of one data page
abbrev pub IsLooked : Core → Release → Type 0
IsLooked core r = r.look ≡ false → HasToWait core r

abbrev pub IsLookedBut : ℕ → Core → Release → Type 0
IsLookedBut p core r = r.page ≢ p → IsLooked core r

-- Each page that is there is well formed. Of one that serves no table nothing is asked.
abbrev pub AreFormed : Core → Type 0
AreFormed core = (q : ℕ) → is_there core.engine.cache q ≡ true → is_formed core.shape q (page_in core q) ≡ true

-- of the pages that are there none but this one came in or has another content
abbrev pub OnlyCame : ℕ → Core → Core → Type 0
OnlyCame page old new = (q : ℕ) → q ≢ page → is_there new.engine.cache q ≡ true → content_in new.engine.cache q ≡ content_in old.engine.cache q

-- what is well formed stays so
abbrev pub KeepsFormed : Core → Core → Type 0
KeepsFormed old new = AreFormed old → AreFormed new

-- Marks, edges and stages are in order; a pass looks at each release that may go; and table pages in memory are well formed.
pub record IsOrderly (core : Core) : Type 0 where
  pub ordered : (d : Meaning) → IsOrdered (lay_of core.shape) (world_of d core)
  pub looked : All (IsLooked core) core.ledger.queue.releases
  pub formed : AreFormed core

-- The same, but a pass need not look at the releases of one data page: its count or its print was changed, and they are to be marked.
pub record IsOrderlyBut (p : ℕ) (core : Core) : Type 0 where
  pub ordered : (d : Meaning) → IsOrdered (lay_of core.shape) (world_of d core)
  pub looked : All (IsLookedBut p core) core.ledger.queue.releases
  pub formed : AreFormed core

-- what is in order but for the releases of a page stays so
abbrev pub KeepsOrderBut : ℕ → Core → Core → Type 0
KeepsOrderBut p old new = IsOrderlyBut p old → IsOrderlyBut p new

-- as far as its releases hold their pages
abbrev pub KeepsOrderly : Core → Core → Type 0
KeepsOrderly old new = (p : ℕ) → IsProvided old → KeepsOrderBut p old new

-- each Live edge stood before
abbrev pub FewerEdges : Core → Core → Type 0
FewerEdges old new = (a b : ℕ) → live_in new.engine.graph a b ≡ true → live_in old.engine.graph a b ≡ true
