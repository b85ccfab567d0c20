-- The engine invariant whole: a state, the contents that each block may read, and what birth_marks and the pool were told.
use Rattle.std.specs.Prelude.{Bool, true, List, ℕ, ◌<◌, ◌≡◌, ◌⊎◌}
use Rattle.order_model.specs.World.{Agree, Layout, World, IsData}
use Rattle.engine_model.specs.Entries.{cached_count}
use Rattle.engine_model.specs.Counts.{CountsInvariant}
use Rattle.engine_model.specs.Contents.{ContentsInvariant}
use Rattle.engine_model.specs.Known.{Known}
use Rattle.order_model.specs.Calls.{Call, is_unborn}
use Rattle.order_model.specs.declared.Slot.TheVariants.{Name, Print}
use Rattle.order_model.specs.declared.Slot.{Slot}
use Rattle.engine_model.specs.Births.{AllDirty, BirthKnown, Edit, IsSlot, Leads, cached_value, told}
use Rattle.order_model.specs.Pool.{Told, after_take, after_zeroed, is_free}
use Rattle.engine_model.specs.Pool.{PoolKnows}

-- the array has for each block the contents that may be read of it after a crash, the last one at the end; the calls have the latest first
pub record Moment : Type 0 where
  pub world : World
  pub array : ℕ → List (List ℕ)
  pub calls : List Call
  pub pool : ℕ → Told

-- what the store knows at a moment
abbrev pub known_at : Layout → Moment → Known
known_at lay m = record {
  unborn_name = λ l p. is_unborn (Name l) (lay.map_page l) p m.calls;
  unborn_print = λ p. is_unborn (Print p) (lay.print_page p) 1 m.calls;
  free = λ p. is_free (m.pool p);
}

-- birth_marks is told each change of a slot
pub record ToldBirths (lay : Layout) (m n : Moment) : Type 0 where
  pub edits : List Edit
  pub calls : n.calls ≡ told edits m.calls
  pub dirty : AllDirty n.world edits
  pub leads : (slot : Slot) → IsSlot lay slot
      → Leads lay slot edits (cached_value lay m.world slot) (cached_value lay n.world slot)

-- the pool is told of a fresh page, and of a count that became 0
abbrev pub ToldTake : Layout → ℕ → Moment → Moment → Type 0
ToldTake lay p m n = ((cached_count lay m.world p ≡ 0) × Agree n.pool (after_take p m.pool)) ⊎ ((0 < cached_count lay m.world p) × Agree n.pool m.pool)

abbrev pub ToldZero : Layout → ℕ → Moment → Moment → Type 0
ToldZero lay p m n =
    ((cached_count lay n.world p ≡ 0) × Agree n.pool (after_zeroed p m.pool))
    ⊎ (((0 < cached_count lay n.world p) ⊎ (cached_count lay n.world p ≡ cached_count lay m.world p)) × Agree n.pool m.pool)

-- The pool is told of whatever an edit changes: it knows for each page whether the cached count is 0, and it is told nothing of the device.
pub record ToldPool (lay : Layout) (m n : Moment) : Type 0 where
  pub zero : (q : ℕ) → IsData lay q → (n.pool q).zero ≡ true → cached_count lay n.world q ≡ 0
  pub above : (q : ℕ) → IsData lay q → cached_count lay n.world q ≡ 0 → (n.pool q).zero ≡ true
  pub tried : (q : ℕ) → IsData lay q → (n.pool q).tried ≡ (m.pool q).tried
  pub newest : (q : ℕ) → IsData lay q → (n.pool q).newest ≡ (m.pool q).newest

-- all that is kept
pub record EngineInvariant (lay : Layout) (top : ℕ) (sound : Bool) (m : Moment) : Type 0 where
  pub counts : CountsInvariant lay top m.world
  pub contents : ContentsInvariant lay sound m.array m.world
  pub births : (slot : Slot) → IsSlot lay slot → BirthKnown lay m.world m.calls slot
  pub pool_knows_counts : (p : ℕ) → IsData lay p → PoolKnows lay m.world (m.pool p) p
