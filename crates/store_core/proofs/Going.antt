-- What a step of the engine does, a call does: the core is whole still, and what it stands for goes on.
use Rattle.std.proofs.Common.{arith, ◌≡◌, ◌≤◌, ℕ, Bool, true, false, cond, refl, sym, ap, ◌∙◌, subst, Option, None, is_some, Result}
use Rattle.std.proofs.lemmas.Bool.{and_parts}
use Rattle.std.specs.List.{All}
use Rattle.page_device.specs.Block.{Block}
use Rattle.page_device.specs.declared.error.Failed.{Failed}
use Rattle.page_layout.specs.Shape.{ShapeView, total}
use Rattle.dep_graph.specs.Schedules.{MakeBarrier, Step, WritePage}
use Rattle.order_model.specs.declared.Slot.{Slot}
use Rattle.birth_marks.specs.Births.{place_in, recorded_in}
use Rattle.release_queue.specs.Queued.{QueueLists}
use Rattle.flush_engine.specs.Along.{steps_keep}
use Rattle.flush_engine.specs.Steps.{BarrierDone, BarrierFailed, StepDone, StepFailed, Steps, WriteDone, WriteFailed}
use Rattle.flush_engine.specs.View.{Fits, Moment}
use Rattle.flush_engine.proofs.FitLemmas.{done_keeps, failed_keeps}
use Rattle.store_core.specs.declared.Core.{Core}
use Rattle.store_core.specs.declared.ledger.Ledger.{Ledger}
use Rattle.store_core.specs.Layout.{lay_of, place_of}
use Rattle.store_core.specs.Ledger.{ledger_told}
use Rattle.store_core.specs.Quiet.{Flows}
use Rattle.store_core.specs.Whole.{IsPlaced, IsWhole}
use Rattle.store_core.proofs.Clean.{dirty_there}
use Rattle.store_core.proofs.Flowed.{barrier_flows, failed_barrier_flows, failed_write_flows, flows_same, flows_then, write_flows}
use Rattle.store_core.proofs.Releases.{placed_fixed, placed_written}
use Rattle.store_core.proofs.StepStands.{laid_out, queue_written}

-- a core of these parts
abbrev pub core_of : (shape : ShapeView) (m : Moment Ledger) → IsWhole shape m.engine m.watch → Core
core_of shape m whole = record { shape = shape; engine = m.engine; ledger = m.watch; whole = whole }

-- a core fits a device that has every page of its image
pub core_fits : (shape : ShapeView) (m : Moment Ledger) → total shape ≤ m.device.pages → IsWhole shape m.engine m.watch → Fits m.engine m.device
core_fits shape m room w = record {
  whole = w.engine_whole;
  within = λ q h. omega (arith, w.within q (dirty_there m.engine.cache q (w.engine_whole.dirty q ∙ h)), room);
}

-- from one moment to a later one
pub record Goes (shape : ShapeView) (a b : Moment Ledger) : Type 0 where
  pub pages : b.device.pages ≡ a.device.pages
  pub whole : total shape ≤ a.device.pages → IsWhole shape a.engine a.watch → IsWhole shape b.engine b.watch
  pub flows : total shape ≤ a.device.pages → (w : IsWhole shape a.engine a.watch) (v : IsWhole shape b.engine b.watch) → Flows a.device b.device (core_of shape a w) (core_of shape b v)

module _ (shape : ShapeView) where
  pub goes_none : (a : Moment Ledger) → Goes shape a a
  goes_none a = record { pages = refl; whole = λ room w. w; flows = λ room w v. flows_same a.device (core_of shape a w) (core_of shape a v) refl refl refl }

  pub goes_then : (a b c : Moment Ledger) → Goes shape a b → Goes shape b c → Goes shape a c
  goes_then a b c h k = record {
    pages = k.pages ∙ h.pages;
    whole = λ room w. k.whole (still room) (h.whole room w);
    flows = λ room w v. flows_then a.device b.device c.device (core_of shape a w) (core_of shape b (h.whole room w)) (core_of shape c v) (h.flows room w (h.whole room w)) (k.flows (still room) (h.whole room w) v);
  }
    where
      still : total shape ≤ a.device.pages → total shape ≤ b.device.pages
      still room = subst (λ (n : ℕ). total shape ≤ n) (sym h.pages) room

  write_goes : (page : ℕ) (a b : Moment Ledger) → WriteDone ledger_told page a b → Goes shape a b
  write_goes page a b w = record {
    pages = w.call.call.pages;
    whole = λ room was.
        let told = w.tried.pool (lay_of shape) (laid_out a.watch.pool.shape shape was.pool_shape) in
        let retold = w.written.pool (lay_of shape) (laid_out w.between.pool.shape shape (told.same_shape ∙ was.pool_shape)) in
        record {
          engine_whole = ((done_keeps ledger_told (WritePage page) a b w).fits (core_fits shape a room was)).whole;
          within = λ q t. was.within q (ap is_some (sym (w.cache.content q)) ∙ t);
          placed = subst (λ (x : QueueLists). All (IsPlaced shape) x.releases) (sym (queue_written a.watch w.between b.watch page w.tried w.written.queue)) (placed_written shape page a.watch.queue.releases was.placed);
          pool_shape = retold.same_shape ∙ told.same_shape ∙ was.pool_shape;
          slots = λ s r. w.written.births.slots.place s ∙ w.tried.births.slots.place s ∙ was.slots s (sym (w.tried.births.slots.recorded s) ∙ sym (w.written.births.slots.recorded s) ∙ r);
        };
    flows = λ room w' v. write_flows a.device b.device (core_of shape a w') (core_of shape b v) refl page w;
  }

  failed_write_goes : (page : ℕ) (a b : Moment Ledger) → WriteFailed ledger_told page a b → Goes shape a b
  failed_write_goes page a b w = record {
    pages = w.call.call.pages;
    whole = λ room was. record {
      engine_whole = ((failed_keeps ledger_told (WritePage page) a b w).fits (core_fits shape a room was)).whole;
      within = λ q t. was.within q (ap is_some (sym (w.cache.content q)) ∙ t);
      placed = subst (λ (x : QueueLists). All (IsPlaced shape) x.releases) (sym w.tried.queue) was.placed;
      pool_shape = (w.tried.pool (lay_of shape) (laid_out a.watch.pool.shape shape was.pool_shape)).same_shape ∙ was.pool_shape;
      slots = λ s r. w.tried.births.slots.place s ∙ was.slots s (sym (w.tried.births.slots.recorded s) ∙ r);
    };
    flows = λ room w' v. failed_write_flows a.device b.device (core_of shape a w') (core_of shape b v) refl page w;
  }

  barrier_goes : (a b : Moment Ledger) → BarrierDone ledger_told a b → Goes shape a b
  barrier_goes a b w = record {
    pages = w.call.pages;
    whole = λ room was. record {
      engine_whole = ((done_keeps ledger_told MakeBarrier a b w).fits (core_fits shape a room was)).whole;
      within = λ q t. was.within q (some_before _ _ (ap is_some (sym (w.cache.content q)) ∙ t));
      placed = subst (λ (x : QueueLists). All (IsPlaced shape) x.releases) (sym w.fixed.queue) (placed_fixed shape a.watch.queue.releases was.placed);
      pool_shape = w.fixed.pool.same_shape ∙ was.pool_shape;
      slots = λ s r. w.fixed.births.place s r ∙ was.slots s (and_parts _ _ (sym (w.fixed.births.recorded s) ∙ r)).0;
    };
    flows = λ room w' v. barrier_flows a.device b.device (core_of shape a w') (core_of shape b v) refl w;
  }
    where
      some_before : (b : Bool) (o : Option Block) → is_some (cond b o None) ≡ true → is_some o ≡ true
      some_before true o h = h
      some_before false o h = cc

  failed_barrier_goes : (a b : Moment Ledger) → BarrierFailed ledger_told a b → Goes shape a b
  failed_barrier_goes a b w = record {
    pages = w.call.pages;
    whole = λ room was. record {
      engine_whole = ((failed_keeps ledger_told MakeBarrier a b w).fits (core_fits shape a room was)).whole;
      within = λ q t. was.within q (ap is_some (sym (w.cache.content q)) ∙ t);
      placed = subst (λ (l : Ledger). All (IsPlaced shape) l.queue.releases) (sym w.watch) was.placed;
      pool_shape = ap (λ (l : Ledger). l.pool.shape) w.watch ∙ was.pool_shape;
      slots = subst (λ (l : Ledger). (s : Slot) → recorded_in l.births s ≡ true → place_in l.births s ≡ place_of shape s) (sym w.watch) was.slots;
    };
    flows = λ room w' v. failed_barrier_flows a.device b.device (core_of shape a w') (core_of shape b v) refl w;
  }

  pub done_goes : (s : Step) (a b : Moment Ledger) → StepDone ledger_told s a b → Goes shape a b
  done_goes (WritePage page) a b w = write_goes page a b w
  done_goes MakeBarrier a b w = barrier_goes a b w

  pub failed_goes : (s : Step) (a b : Moment Ledger) → StepFailed ledger_told s a b → Goes shape a b
  failed_goes (WritePage page) a b w = failed_write_goes page a b w
  failed_goes MakeBarrier a b w = failed_barrier_goes a b w

  -- a call of the engine
  pub call_goes : {A : Type 0} (result : Result A Failed) (a b : Moment Ledger) → Steps ledger_told result a b → Goes shape a b
  call_goes result a b steps = steps_keep ledger_told (Goes shape) goes_none goes_then done_goes failed_goes result a b steps
