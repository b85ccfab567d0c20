-- Only a scan changes the waste of a page.
use Rattle.std.proofs.Common.{◌≡◌, ℕ, Bool, arith, ap, ◌∙◌}
use Rattle.order_model.specs.World.{Layout, World, queued, IsData}
use Rattle.engine_model.specs.Entries.{Apart}
use Rattle.engine_model.specs.DeviceSteps.{Same}
use Rattle.engine_model.specs.Scan.{CorrectsNothing, SameWaste}
use Rattle.engine_model.specs.Schedule.{WriteAgain, DiscardAgain, BarrierDone, Correct, Discard, DropData, FlushDone, Fold, FoldZero, Unchanged, ReleaseApplied, Step, Write, WriteDone, WriteRefused, WriteTaken}
use Rattle.engine_model.specs.Invariant.{EngineInvariant, Moment, known_at}
use Rattle.engine_model.proofs.Applied.{applied_waste}
use Rattle.engine_model.proofs.Barrier.{queued-fixed}
use Rattle.engine_model.proofs.Dropped as dropped
use Rattle.engine_model.proofs.Renamed.{discard_waste, write_waste}
use Rattle.engine_model.proofs.Schedule.{tells}
use Rattle.engine_model.proofs.Stages.{queued_written}
use Rattle.engine_model.proofs.Views.{count_same, names_same}

-- where the cache is left and as many releases are queued
left : (lay : Layout) (w v : World) (p : ℕ) → ((page : ℕ) → v.cached page ≡ w.cached page) → queued v.queue p ≡ queued w.queue p → SameWaste lay w v p
left lay w v p same queue =
    let count = count_same lay w v same p in
    let names = names_same lay w v same p in
    omega arith

world_same : (lay : Layout) (w v : World) (p : ℕ) → Same w v → SameWaste lay w v p
world_same lay w v p e = left lay w v p e.cached (ap (λ rs. queued rs p) e.queue)

module _ (lay : Layout) (top : ℕ) (sound : Bool) (apart : Apart lay) (m n : Moment) (k : EngineInvariant lay top sound m) (p : ℕ) (is : IsData lay p) where
  pub step_waste : (s : Step lay top m n) → CorrectsNothing s → SameWaste lay m.world n.world p
  step_waste (BarrierDone b e c q) h = left lay m.world n.world p b.cached (ap (λ rs. queued rs p) b.queue ∙ queued-fixed m.world.queue p)
  step_waste (WriteDone page t s e c q) h = left lay m.world n.world p t.cached (ap (λ rs. queued rs p) s.queue ∙ queued_written lay page m.world.queue p)
  step_waste (WriteTaken page t s e c q) h = left lay m.world n.world p t.cached (ap (λ rs. queued rs p) s.queue)
  step_waste (WriteRefused page w e c q) h = world_same lay m.world n.world p w
  step_waste (Unchanged s e c q) h = world_same lay m.world n.world p s
  step_waste (ReleaseApplied r before after a d e b q) h = applied_waste lay (known_at lay m) top m.world n.world r before after k.counts (tells lay top sound m k) a p is
  step_waste (Discard l o x d g b e) h = discard_waste lay (known_at lay m) top m.world n.world l o k.counts (tells lay top sound m k) x p is
  step_waste (Write l o q content x c g b e) h = write_waste lay (known_at lay m) top m.world n.world l o q apart k.counts (tells lay top sound m k) x p is
  step_waste (WriteAgain l q i x w g c e) h = world_same lay m.world n.world p w
  step_waste (Fold l o q i x c e b z) h = write_waste lay (known_at lay m) top m.world n.world l o q apart k.counts (tells lay top sound m k) x p is
  step_waste (DiscardAgain l i w g c e) h = world_same lay m.world n.world p w
  step_waste (FoldZero l o i y x d e b z) h = discard_waste lay (known_at lay m) top m.world n.world l o k.counts (tells lay top sound m k) x p is
  step_waste (DropData q x e c z) h =
      let count = dropped.count lay top m.world n.world q apart k.counts x p is in
      let names = dropped.names lay top m.world n.world q apart k.counts x p in
      let queue : queued n.world.queue p ≡ queued m.world.queue p = ap (λ rs. queued rs p) x.queue in
      omega arith
  step_waste (Correct q x d e b z) h = absurd h
  step_waste (FlushDone clean w alone c q) h = world_same lay m.world n.world p w
