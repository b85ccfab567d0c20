-- What holds of marks, edges and queue on every device, honest or not.
use Rattle.std.specs.Prelude.{◌≡◌, ◌<◌, ℕ, List, [], ◌∷◌, true}
use Rattle.order_model.specs.World.{Layout, Queued, Release, World, IsData}
use Rattle.engine_model.specs.Invariant.{Moment}
use Rattle.engine_model.specs.SmallRuns.{with_barrier, with_refused, with_taken, with_written}
use Rattle.engine_model.specs.Counts.{EdgeKinds}

pub record IsOrdered (lay : Layout) (w : World) : Type 0 where
  -- a Live edge begins at a dirty page, and each edge is of an allowed kind
  pub live_before : (a b : ℕ) → w.live a b ≡ true → w.dirty a ≡ true
  pub edge_kinds : EdgeKinds lay w
  -- a release whose map page was not written since has it dirty, and one whose map page was written and not fixed has it hung; each is of a block and a data page
  pub zero_dirty : (l p : ℕ) → Queued w.queue l p 0 → w.dirty (lay.map_page l) ≡ true
  pub one_hung : (l p : ℕ) → Queued w.queue l p 1 → w.hung (lay.map_page l) ≡ true
  pub in_range : (l p stage : ℕ) → Queued w.queue l p stage → (l < lay.blocks) × IsData lay p

-- each of these releases is one of those
abbrev pub FewerQueued : List Release → List Release → Type 0
FewerQueued less rs = (l p stage : ℕ) → Queued less l p stage → Queued rs l p stage

-- a step of the device, whether it keeps its word or not: a write that is done, taken or refused, or a barrier
pub data AnyStep (lay : Layout) (m n : Moment) : Type 0 where
  AnyWritten : (page : ℕ) → n ≡ with_written lay page m → AnyStep lay m n
  AnyTaken : (page : ℕ) → n ≡ with_taken lay page m → AnyStep lay m n
  AnyRefused : (page : ℕ) → n ≡ with_refused lay page m → AnyStep lay m n
  AnyFixed : n ≡ with_barrier m → AnyStep lay m n

abbrev pub AnyRun : Layout → Moment → List Moment → Type 0
AnyRun lay m [] = Unit {0}
AnyRun lay m (n ∷ ns) = AnyStep lay m n × AnyRun lay n ns
