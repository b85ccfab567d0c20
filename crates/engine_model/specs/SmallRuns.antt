-- The small steps as steps of moments, and runs in which a command falls into them, so that a device call, a fault or a crash may come between any two of them.
use Rattle.std.specs.Prelude.{◌≡◌, ◌⊎◌, ◌++◌, ℕ, List, [], ◌∷◌, true}
use Rattle.order_model.specs.World.{Layout, Release, World, IsData}
use Rattle.engine_model.specs.Entries.{EdgeKind, IsTable, cached_count}
use Rattle.order_model.specs.Paths.{Closes}
use Rattle.engine_model.specs.Known.{Free}
use Rattle.order_model.specs.Calls.{Change, Fixed, Tried, Written}
use Rattle.order_model.specs.declared.Slot.TheVariants.{Name, Print}
use Rattle.order_model.specs.Pool.{Told, after_fixed, after_tried, after_written}
use Rattle.engine_model.specs.Invariant.{Moment, ToldTake, ToldZero, known_at}
use Rattle.engine_model.specs.DeviceSteps.{barrier_made, page_taken, page_written}
use Rattle.engine_model.specs.SmallSteps.{CanClear, CanLower, CanName, CanPrint, CanRaise, CanRecount, GainsOrHolds, given_up, held_by, lowered, named, ordered, ordered_by_barrier, placed, put, touched}
use Rattle.engine_model.specs.Schedule.{Step}

-- A barrier is made, or a page is written or taken, and birth_marks and the pool were told.
abbrev pub with_barrier : Moment → Moment
with_barrier m = record m { world = barrier_made m.world; calls = Fixed ∷ m.calls; pool = after_fixed m.pool }

abbrev pub with_written : Layout → ℕ → Moment → Moment
with_written lay page m = record m {
  world = page_written lay page m.world;
  calls = Written page ∷ (Tried page ∷ m.calls);
  pool = after_written lay page (after_tried lay page m.pool);
}

abbrev pub with_taken : Layout → ℕ → Moment → Moment
with_taken lay page m = record m { world = page_taken page m.world; calls = Tried page ∷ m.calls; pool = after_tried lay page m.pool }

-- a write was tried and refused, and birth_marks and the pool were told of the try
abbrev pub with_refused : Layout → ℕ → Moment → Moment
with_refused lay page m = record m { calls = Tried page ∷ m.calls; pool = after_tried lay page m.pool }

-- the moment with another state
abbrev pub in_state : World → Moment → Moment
in_state w m = record m { world = w }

-- the count page of p has this content, and the pool was told
abbrev pub with_count : Layout → ℕ → List ℕ → (ℕ → Told) → Moment → Moment
with_count lay p c pool m = record m { world = put (lay.count_page p) c m.world; pool = pool }

-- the print page of p has this content, and birth_marks was told of the change
abbrev pub with_print : Layout → ℕ → List ℕ → ℕ → ℕ → Moment → Moment
with_print lay p c from to m =
    record m { world = put (lay.print_page p) c m.world; calls = Change (Print p) (lay.print_page p) from to ∷ m.calls }

-- the map page of l has this content, the release of o is pushed, and birth_marks was told of the change from o to p
abbrev pub with_name : Layout → ℕ → ℕ → ℕ → List ℕ → (ℕ → List (List ℕ)) → Moment → Moment
with_name lay l o p c array m = record {
  world = named (known_at lay m) (lay.map_page l) c l o m.world;
  array = array;
  calls = Change (Name l) (lay.map_page l) o p ∷ m.calls;
  pool = m.pool;
}

-- the count page of p has this content, these releases are left, and the pool was told
abbrev pub with_release_out : Layout → ℕ → List ℕ → List Release → (ℕ → Told) → Moment → Moment
with_release_out lay p c queue pool m = record m { world = lowered (lay.count_page p) c queue m.world; pool = pool }

pub data SmallStep (lay : Layout) (top : ℕ) (m n : Moment) : Type 0 where
  Touch : (page : ℕ) → IsTable lay page → n ≡ in_state (touched page m.world) m → SmallStep lay top m n
  Place : (p : ℕ) (content : List ℕ) → IsData lay p → Free lay m.world p
      → n ≡ in_state (placed (lay.data_page p) content m.world) m → SmallStep lay top m n
  Order : (before after : ℕ) → EdgeKind lay before after → m.world.dirty before ≡ true → m.world.dirty after ≡ true
      → (Closes m.world.live before after → ⊥) → n ≡ in_state (ordered before after m.world) m → SmallStep lay top m n
  OrderByBarrier : (before after : ℕ) → EdgeKind lay before after → m.world.hung before ≡ true → m.world.dirty after ≡ true
      → n ≡ in_state (ordered_by_barrier before after m.world) m → SmallStep lay top m n
  Raise : (p : ℕ) (c : List ℕ) (pool : ℕ → Told) → CanRaise lay top m.world p c → n ≡ with_count lay p c pool m
      → ToldTake lay p m n → SmallStep lay top m n
  SetPrint : (p : ℕ) (c print : List ℕ) → CanPrint lay m.world p c print → n ≡ with_print lay p c 0 1 m → SmallStep lay top m n
  SetName : (l o p : ℕ) (c : List ℕ) (array : ℕ → List (List ℕ)) → CanName lay m.world l o p c
      → GainsOrHolds m.array array l (held_by lay m.world p) → n ≡ with_name lay l o p c array m → SmallStep lay top m n
  ClearPrint : (p : ℕ) (c print : List ℕ) → CanClear lay (known_at lay m) m.world p c print → n ≡ with_print lay p c 1 0 m
      → SmallStep lay top m n
  Lower : (r : Release) (before after : List Release) (c : List ℕ) (count : ℕ) (pool : ℕ → Told)
      → CanLower lay m.world r before after c count → n ≡ with_release_out lay r.page c (before ++ after) pool m
      → ToldZero lay r.page m n → SmallStep lay top m n
  Recount : (p : ℕ) (c : List ℕ) (count : ℕ) (pool : ℕ → Told) → CanRecount lay m.world p c count → n ≡ with_count lay p c pool m
      → ToldZero lay p m n → SmallStep lay top m n
  GiveUp : (p : ℕ) → IsData lay p → cached_count lay m.world p ≡ 0 → n ≡ in_state (given_up (lay.data_page p) m.world) m
      → SmallStep lay top m n

-- each moment comes from the one before by a step or a small step
abbrev pub SmallRun : Layout → ℕ → Moment → List Moment → Type 0
SmallRun lay top m [] = Unit {0}
SmallRun lay top m (n ∷ ns) = (Step lay top m n ⊎ SmallStep lay top m n) × SmallRun lay top n ns
