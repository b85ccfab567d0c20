-- What a pool knows, as a function of the calls that told it.
use Rattle.std.specs.Prelude.{ℕ, List, [], ◌∷◌}
use Rattle.order_model.specs.Pool.{Told, after_fixed, after_take, after_tried, after_written, after_zeroed, new_pool}
use Rattle.order_model.specs.World.{Layout}

-- a call: a data page is taken or its count became 0, a count page is tried or was written, a barrier was made
pub data PoolCall : Type 0 where
  Take : ℕ → PoolCall
  Zeroed : ℕ → PoolCall
  CountTried : ℕ → PoolCall
  CountWritten : ℕ → PoolCall
  Fixed : PoolCall

-- what it makes of what was told
abbrev pub after_call : Layout → PoolCall → (ℕ → Told) → ℕ → Told
after_call lay (Take p) = after_take p
after_call lay (Zeroed p) = after_zeroed p
after_call lay (CountTried page) = after_tried lay page
after_call lay (CountWritten page) = after_written lay page
after_call lay Fixed = after_fixed

-- what was told by a list of calls, the latest first
abbrev pub told_by : Layout → List PoolCall → ℕ → Told
told_by lay [] = new_pool
told_by lay (call ∷ calls) = after_call lay call (told_by lay calls)
