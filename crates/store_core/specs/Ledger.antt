-- What a ledger is told by an engine of its writes and barriers.
use Rattle.std.specs.Prelude.{◌≡◌, ℕ, map}
use Rattle.order_model.specs.Pool.{after_fixed, after_tried, after_written}
use Rattle.order_model.specs.World.{Layout}
use Rattle.page_alloc.specs.Pool.{IsLaidOut, IsTold, PoolView, told_of}
use Rattle.birth_marks.specs.Births.{FixedAll, TriedAt, WrittenAt}
use Rattle.release_queue.specs.Queued.{after_barrier, after_count_write, after_write}
use Rattle.flush_engine.specs.Telling.{Telling}
use Rattle.store_core.specs.declared.ledger.Ledger.{Ledger}

-- the pool was told of a count page that is about to be written, or was
abbrev pub PoolTried : ℕ → PoolView → PoolView → Type 0
PoolTried page old new = (lay : Layout) → IsLaidOut old.shape lay → IsTold old.shape (after_tried lay page (told_of old)) new

abbrev pub PoolWritten : ℕ → PoolView → PoolView → Type 0
PoolWritten page old new = (lay : Layout) → IsLaidOut old.shape lay → IsTold old.shape (after_written lay page (told_of old)) new

-- A page is about to be written: the device may have its counts from now on, and its names and prints have met their values.
pub record IsTried (old : Ledger) (page : ℕ) (new : Ledger) : Type 0 where
  pub queue : new.queue ≡ old.queue
  pub pool : PoolTried page old.pool new.pool
  pub births : TriedAt old.births new.births page
  pub changes : new.births.spare ≡ old.births.spare

-- The page was written: the releases of a map page wait for a barrier alone, those of a count page are to be looked at again, and its counts are the newest.
pub record IsWritten (old : Ledger) (page : ℕ) (new : Ledger) : Type 0 where
  pub queue : new.queue ≡ record old.queue { releases = map (after_count_write page) (map (after_write page) old.queue.releases) }
  pub pool : PoolWritten page old.pool new.pool
  pub births : WrittenAt old.births new.births page
  pub changes : new.births.spare ≡ old.births.spare

-- A barrier was made: the map pages of releases that were written are fixed, and the newest contents are the only ones.
pub record IsFixed (old new : Ledger) : Type 0 where
  pub queue : new.queue ≡ record old.queue { releases = map after_barrier old.queue.releases }
  pub pool : IsTold old.pool.shape (after_fixed (told_of old.pool)) new.pool
  pub births : FixedAll old.births new.births
  pub changes : new.births.spare ≡ old.births.spare

abbrev pub ledger_told : Telling Ledger
ledger_told = record { tried = IsTried; written = IsWritten; fixed = IsFixed }
