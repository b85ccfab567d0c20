-- Whole schedules: from one moment to the next, by every kind of step.
use Rattle.std.specs.Prelude.{List, [], cond, eqb, false, ℕ, ◌++◌, ◌<◌, ◌∷◌, ◌≡◌}
use Rattle.order_model.specs.World.{Agree, Layout, Release, IsData}
use Rattle.engine_model.specs.Entries.{cached_name}
use Rattle.engine_model.specs.Contents.{Last}
use Rattle.order_model.specs.Calls.{Fixed, Tried, Written}
use Rattle.order_model.specs.Pool.{after_fixed, after_tried, after_written}
use Rattle.engine_model.specs.Invariant.{Moment, ToldBirths, ToldTake, ToldZero, known_at}
use Rattle.engine_model.specs.DeviceSteps.{Barrier, KeepsMarks, MovesMarks, Same, Taken}
use Rattle.engine_model.specs.Commands.{DataKept, Discarded, Gains, PageContent, Renamed}
use Rattle.engine_model.specs.Releases.{Applied}
use Rattle.engine_model.specs.Drops.{Dropped}
use Rattle.engine_model.specs.Corrections.{Corrected}

pub data Step (lay : Layout) (top : ℕ) (m n : Moment) : Type 0 where
  BarrierDone : Barrier m.world n.world → Agree n.array m.array → n.calls ≡ Fixed ∷ m.calls → Agree n.pool (after_fixed m.pool)
      → Step lay top m n
  WriteDone : (page : ℕ) → Taken m.world n.world page → MovesMarks lay m.world n.world page → Agree n.array m.array
      → n.calls ≡ Written page ∷ (Tried page ∷ m.calls) → Agree n.pool (after_written lay page (after_tried lay page m.pool))
      → Step lay top m n
  WriteTaken : (page : ℕ) → Taken m.world n.world page → KeepsMarks m.world n.world → Agree n.array m.array
      → n.calls ≡ Tried page ∷ m.calls → Agree n.pool (after_tried lay page m.pool) → Step lay top m n
  WriteRefused : (page : ℕ) → Same m.world n.world → Agree n.array m.array → n.calls ≡ Tried page ∷ m.calls
      → Agree n.pool (after_tried lay page m.pool) → Step lay top m n
  -- a barrier that was refused, and a page that was fetched or forgotten
  Unchanged : Same m.world n.world → Agree n.array m.array → n.calls ≡ m.calls → Agree n.pool m.pool → Step lay top m n
  ReleaseApplied : (r : Release) (before after : List Release) → Applied lay (known_at lay m) m.world n.world r before after
      → DataKept lay m.world n.world → Agree n.array m.array → ToldBirths lay m n → ToldZero lay r.page m n → Step lay top m n
  Discard : (l o : ℕ) → Discarded lay (known_at lay m) m.world n.world l o → DataKept lay m.world n.world
      → Gains m.array n.array l lay.zero_block → ToldBirths lay m n → Agree n.pool m.pool → Step lay top m n
  Write : (l o p : ℕ) (content : List ℕ) → Renamed lay (known_at lay m) top m.world n.world l o p
      → PageContent lay (known_at lay m) m.world n.world l p content → Gains m.array n.array l content → ToldBirths lay m n
      → ToldTake lay p m n → Step lay top m n
  -- a write of what the block holds
  WriteAgain : (l p : ℕ) → IsData lay p → cached_name lay m.world l ≡ p → Same m.world n.world
      → Gains m.array n.array l (m.world.cached (lay.data_page p)) → n.calls ≡ m.calls → Agree n.pool m.pool → Step lay top m n
  -- a discard of a block with no name
  DiscardAgain : (l : ℕ) → cached_name lay m.world l ≡ 0 → Same m.world n.world → Gains m.array n.array l lay.zero_block
      → n.calls ≡ m.calls → Agree n.pool m.pool → Step lay top m n
  -- the block takes the name of an equal page, or none where its page holds zeros, and its list stays
  Fold : (l o p : ℕ) → IsData lay o → Renamed lay (known_at lay m) top m.world n.world l o p
      → PageContent lay (known_at lay m) m.world n.world l p (m.world.cached (lay.data_page o)) → Agree n.array m.array
      → ToldBirths lay m n → ToldTake lay p m n → Step lay top m n
  FoldZero : (l o : ℕ) → IsData lay o → m.world.cached (lay.data_page o) ≡ lay.zero_block
      → Discarded lay (known_at lay m) m.world n.world l o → DataKept lay m.world n.world → Agree n.array m.array
      → ToldBirths lay m n → Agree n.pool m.pool → Step lay top m n
  DropData : (p : ℕ) → Dropped lay m.world n.world p → Agree n.array m.array → n.calls ≡ m.calls → Agree n.pool m.pool
      → Step lay top m n
  Correct : (p : ℕ) → Corrected lay m.world n.world p → DataKept lay m.world n.world → Agree n.array m.array → ToldBirths lay m n
      → ToldZero lay p m n → Step lay top m n
  -- no page is a node: each block keeps the last content of its list alone
  FlushDone : ((a : ℕ) → (m.world.dirty a ≡ false) × (m.world.hung a ≡ false)) → Same m.world n.world
      → ((l : ℕ) → l < lay.blocks → (c : List ℕ) → Last (m.array l) c → n.array l ≡ c ∷ []) → n.calls ≡ m.calls
      → Agree n.pool m.pool → Step lay top m n

-- what the lists of a block gain in a step
abbrev pub gained : {lay : Layout} {top : ℕ} {m n : Moment} → Step lay top m n → ℕ → List (List ℕ)
gained {lay} (Discard l o x d g b e) k = cond (eqb l k) (lay.zero_block ∷ []) []
gained (Write l o p content x c g b e) k = cond (eqb l k) (content ∷ []) []
gained {lay} {m = m} (WriteAgain l p i x w g c e) k = cond (eqb l k) (m.world.cached (lay.data_page p) ∷ []) []
gained {lay} (DiscardAgain l z w g c e) k = cond (eqb l k) (lay.zero_block ∷ []) []
gained step k = []

abbrev pub Run : Layout → ℕ → Moment → List Moment → Type 0
Run lay top m [] = Unit {0}
Run lay top m (n ∷ ns) = Step lay top m n × Run lay top n ns

-- and in a run
abbrev pub gained_in : (lay : Layout) (top : ℕ) (m : Moment) (ns : List Moment) → Run lay top m ns → ℕ → List (List ℕ)
gained_in lay top m [] r k = []
gained_in lay top m (n ∷ ns) r k = gained r.0 k ++ gained_in lay top n ns r.1 k

abbrev pub Each : (Moment → Type 0) → List Moment → Type 0
Each P [] = Unit {0}
Each P (n ∷ ns) = P n × Each P ns

abbrev pub last_of : Moment → List Moment → Moment
last_of m [] = m
last_of m (n ∷ ns) = last_of n ns

abbrev pub NoNode : Moment → Type 0
NoNode m = (a : ℕ) → (m.world.dirty a ≡ false) × (m.world.hung a ≡ false)

-- a step of the device: a write or a barrier with each of its ends, or nothing
abbrev pub OfDevice : {lay : Layout} {top : ℕ} {m n : Moment} → Step lay top m n → Type 0
OfDevice (BarrierDone b e c p) = Unit {0}
OfDevice (WriteDone page t s e c p) = Unit {0}
OfDevice (WriteTaken page t s e c p) = Unit {0}
OfDevice (WriteRefused page w e c p) = Unit {0}
OfDevice (Unchanged s e c p) = Unit {0}
OfDevice step = ⊥

pub record DeviceStep (lay : Layout) (top : ℕ) (m n : Moment) : Type 0 where
  pub step : Step lay top m n
  pub of_device : OfDevice step

abbrev pub DeviceRun : Layout → ℕ → Moment → List Moment → Type 0
DeviceRun lay top m [] = Unit {0}
DeviceRun lay top m (n ∷ ns) = DeviceStep lay top m n × DeviceRun lay top n ns
