-- The plain state that a core over a device is.
use Rattle.std.specs.Prelude.{◌≡◌, ℕ, map, Option, Some, None, true, false, length}
use Rattle.page_device.specs.Block.{Block, zero_block}
use Rattle.page_device.specs.Meaning.{Meaning}
use Rattle.order_model.specs.World as plain
use Rattle.order_model.specs.World.{World}
use Rattle.engine_model.specs.Disk.{InRange, newest_on, older_on}
use Rattle.page_cache.specs.View.{CacheView, content_in}
use Rattle.dep_graph.specs.Lists.{GraphLists, dirty_in, hung_in, live_in, barred_in}
use Rattle.release_queue.specs.Queued.{QueueLists}
use Rattle.release_queue.specs.declared.Release.{Release}
use Rattle.flush_engine.specs.View.{Moment, at}
use Rattle.store_core.specs.declared.Core.{Core}
use Rattle.store_core.specs.declared.ledger.Ledger.{Ledger}

abbrev pub plain_release : Release → plain.Release
plain_release r = record { block = r.block; page = r.page; stage = r.stage }

abbrev pub held_or : Option Block → Block → Block
held_or (Some c) newest = c
held_or None newest = newest

-- of the device, the cache, the graph and the queue
abbrev pub world_in : Meaning → CacheView → GraphLists → QueueLists → World
world_in d cache graph queue = record {
  newest = λ page. newest_on d.state page;
  older = λ page. older_on d.state page;
  cached = λ page. held_or (content_in cache page) (newest_on d.state page);
  dirty = λ page. dirty_in graph page;
  hung = λ page. hung_in graph page;
  live = λ a b. live_in graph a b;
  barred = λ a b. barred_in graph a b;
  queue = map plain_release queue.releases;
}

abbrev pub world_of : Meaning → Core → World
world_of d core = world_in d core.engine.cache core.engine.graph core.ledger.queue

-- the content of a page in the cache
abbrev pub page_in : Core → ℕ → Block
page_in core at = held_or (content_in core.engine.cache at) zero_block

-- an honest device that tells its pages
pub record IsKnown (d : Meaning) : Type 0 where
  pub honest : d.honest ≡ true
  pub tells_pages : d.tells_pages ≡ true
  pub counts : length d.state.fixed ≡ d.pages
  pub in_range : InRange d.pages d.state.since

-- and each page that is not dirty is cached as the device has it, wherever it stands in the cache
pub record IsOver (d : Meaning) (core : Core) : Type 0 where
  pub known : IsKnown d
  pub clean : (a : ℕ) → dirty_in core.engine.graph a ≡ false → (world_of d core).cached a ≡ (world_of d core).newest a

-- what the engine is lent: the device beside it, and the ledger that it tells
abbrev pub lent : Meaning → Core → Moment Ledger
lent d core = at d core.engine core.ledger
