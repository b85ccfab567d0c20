-- Whole commands, passes and drains waste nothing.
use Rattle.std.proofs.Common.{◌≡◌, inl, inr, ℕ, true, refl, sym, subst, List, [], ◌∷◌, ◌++◌}
use Rattle.order_model.specs.World.{Layout, Release}
use Rattle.engine_model.specs.Drain.{DoneDrain, Round}
use Rattle.engine_model.specs.Entries.{Apart, cached_count}
use Rattle.engine_model.specs.Images.{CrashImage, ImageTight}
use Rattle.engine_model.specs.Invariant.{EngineInvariant, Moment}
use Rattle.engine_model.specs.Pass.{Drops, Lowers, Pass}
use Rattle.engine_model.specs.Schedule.{BarrierDone, DeviceRun, Discard, DropData, OfDevice, ReleaseApplied, Step, Unchanged, Write, WriteDone, WriteRefused, WriteTaken, last_of}
use Rattle.engine_model.specs.SmallCommands.{Discards, Writes}
use Rattle.engine_model.specs.Tight.{IsTight, WantsPage}
use Rattle.engine_model.proofs.AppliedComposes.{pass_composed}
use Rattle.engine_model.proofs.Drains.{round_keeps, run_keeps, second_round}
use Rattle.engine_model.proofs.Schedule.{step_keeps}
use Rattle.engine_model.proofs.Tight.{end_tight, step_tight}

module _ (lay : Layout) (top version : ℕ) (apart : Apart lay) where
  abbrev Kept : Moment → Type 0
  Kept m = EngineInvariant lay top true m × IsTight lay version m.world

  module _ (m n : Moment) (k : EngineInvariant lay top true m) (tight : IsTight lay version m.world) where
    pub discard_tight : (l o : ℕ) → Discards lay m n l o → IsTight lay version n.world
    discard_tight l o x = step_tight lay top version apart m n k tight (Discard l o x.discarded x.data_kept x.gains x.births x.pool) tt

    pub write_tight : (l o p : ℕ) (content : List ℕ) → Writes lay top m n l o p content → (cached_count lay m.world p ≡ 0 → WantsPage lay top version m.world content) → IsTight lay version n.world
    write_tight l o p content x well = step_tight lay top version apart m n k tight (Write l o p content x.renamed x.page x.gains x.births x.pool) well

    device_tight : (s : Step lay top m n) → OfDevice s → IsTight lay version n.world
    device_tight (BarrierDone b e c q) is = step_tight lay top version apart m n k tight (BarrierDone b e c q) tt
    device_tight (WriteDone page t s e c q) is = step_tight lay top version apart m n k tight (WriteDone page t s e c q) tt
    device_tight (WriteTaken page t s e c q) is = step_tight lay top version apart m n k tight (WriteTaken page t s e c q) tt
    device_tight (WriteRefused page w e c q) is = step_tight lay top version apart m n k tight (WriteRefused page w e c q) tt
    device_tight (Unchanged s e c q) is = step_tight lay top version apart m n k tight (Unchanged s e c q) tt
    device_tight s is = absurd is

    lowers_kept : (r : Release) (before after : List Release) → Lowers lay m n r before after → Kept n
    lowers_kept r before after x = (
      step_keeps lay top true apart m n k (ReleaseApplied r before after x.applied x.data_kept x.array x.births x.pool),
      step_tight lay top version apart m n k tight (ReleaseApplied r before after x.applied x.data_kept x.array x.births x.pool) tt,
    )

    drops_kept : (p : ℕ) → Drops lay m n p → Kept n
    drops_kept p x = elim x.world [
      | inl e ↦ (step_keeps lay top true apart m n k (Unchanged e x.array x.calls x.pool), step_tight lay top version apart m n k tight (Unchanged e x.array x.calls x.pool) tt)
      | inr d ↦ (step_keeps lay top true apart m n k (DropData p d x.array x.calls x.pool), step_tight lay top version apart m n k tight (DropData p d x.array x.calls x.pool) tt)
    ]

  run_tight : (m : Moment) (ns : List Moment) → EngineInvariant lay top true m → IsTight lay version m.world → DeviceRun lay top m ns → IsTight lay version (last_of m ns).world
  run_tight m [] k tight r = tight
  run_tight m (n ∷ ns) k tight r = run_tight n ns (step_keeps lay top true apart m n k r.0.step) (device_tight m n k tight r.0.step r.0.of_device) r.1

  pass_tight : (m n : Moment) (kept todo : List Release) → Kept m → Pass lay m kept todo n → IsTight lay version n.world
  pass_tight m n kept [] k p = subst (λ z. IsTight lay version z.world) (sym p) k.1
  pass_tight m n kept (r ∷ todo) k (inl p) = pass_tight m n (kept ++ r ∷ []) todo k p.1
  pass_tight m n kept (r ∷ todo) k (inr p) =
      let first = lowers_kept m p.0 k.0 k.1 r kept todo p.2 in
      let then = drops_kept p.0 p.1 first.0 first.1 r.page p.3 in
      pass_tight p.1 n kept todo then p.4

  pub round_tight : (m n : Moment) → EngineInvariant lay top true m → IsTight lay version m.world → Round lay top m n → IsTight lay version n.world
  round_tight m n k tight x =
      let kept = run_keeps lay top true apart m x.flushed k x.run in
      pass_tight (last_of m x.flushed) n [] _ (kept, run_tight m x.flushed k tight x.run) (pass_composed lay top true apart (last_of m x.flushed) n _ _ kept refl x.pass)

  pub drain_tight : (m n : Moment) (image : ℕ → List ℕ) → EngineInvariant lay top true m → IsTight lay version m.world → DoneDrain lay top m n → CrashImage n.world image → ImageTight lay version image
  drain_tight m n image k tight x is =
      let between = round_keeps lay top true apart m x.between k x.first.round in
      let kept = round_keeps lay top true apart x.between n between x.second.round in
      let now = round_tight x.between n between (round_tight m x.between k tight x.first.round) x.second.round in
      let done = second_round lay top true apart m n k x in
      end_tight lay top version n kept now done.0 done.1 image is
