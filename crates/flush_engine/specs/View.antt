-- An engine as contracts see it.
use Rattle.std.specs.Prelude.{◌≡◌, ℕ, ◌<◌, ◌≤◌, true, List, map, Result}
use Rattle.page_device.specs.Meaning.{HasCause, Meaning}
use Rattle.page_cache.specs.View.{CacheView}
use Rattle.page_cache.specs.View.{dirty_in as cached_dirty}
use Rattle.dep_graph.specs.Lists.{GraphLists, IsGraph, dirty_in, node_count}
use Rattle.flush_engine.specs.declared.tallies.Tally.{Tally}
use Rattle.flush_engine.specs.Tallies.{page_of}

-- the pages in memory, and which must be written before which
pub record EngineView : Type 0 where
  pub cache : CacheView
  pub graph : GraphLists
  -- the age and the edits of each dirty page, and how many pages there is room for
  pub tallies : List Tally
  pub room : ℕ

-- The dirty pages of its cache are those of its graph, each with an age and edits, and there is room for the pages that are dirty or hung.
pub record IsWhole (e : EngineView) : Type 0 where
  pub dirty : (q : ℕ) → cached_dirty e.cache q ≡ dirty_in e.graph q
  pub graph : IsGraph e.graph
  pub tallies : map page_of e.tallies ≡ e.graph.dirty
  pub room : node_count e.graph ≤ e.room

-- it is whole, and each dirty page is one of the device
pub record Fits (e : EngineView) (d : Meaning) : Type 0 where
  pub whole : IsWhole e
  pub within : (q : ℕ) → dirty_in e.graph q ≡ true → q < d.pages

-- an engine, the device that it was lent, and the watch
pub record Moment (W : Type 0) : Type 0 where
  pub device : Meaning
  pub engine : EngineView
  pub watch : W

abbrev pub at : {W : Type 0} → Meaning → EngineView → W → Moment W
at d e w = record { device = d; engine = e; watch = w }

-- what each call with a device keeps: a failure is a counted fault, the device has as many pages and the engine room for as many, and it fits the device still
pub record Returned {W A E : Type 0} (result : Result A E) (old new : Moment W) : Type 0 where
  pub cause : HasCause result old.device new.device
  pub pages : new.device.pages ≡ old.device.pages
  pub room : new.engine.room ≡ old.engine.room
  pub fits : Fits new.engine new.device
