-- A flush that failed stopped at a call that did not end done.
use Rattle.std.proofs.Common.{◌≡◌, inl, inr, ◌≤◌, ◌++◌, ◌∷◌, [], ℕ, List, Ok, Err, Result, refl, sym, ap, ◌∙◌, subst, append_assoc, true≢false}
use Rattle.page_device.specs.declared.device.End.TheVariants.{Done, Refused, Taken}
use Rattle.page_device.specs.declared.device.LogEntry.{LogEntry}
use Rattle.page_device.specs.declared.device.LogEntry.TheVariants.{Write, Flush}
use Rattle.page_device.specs.declared.error.Failed.{Failed}
use Rattle.page_device.specs.Block.{Block}
use Rattle.page_device.specs.Meaning.{FlushEntry, IsRefused, Meaning, OneCall, WriteEntry}
use Rattle.page_layout.specs.Shape.{ShapeView, total}
use Rattle.dep_graph.specs.Schedules.{MakeBarrier, Step, WritePage}
use Rattle.flush_engine.specs.Along.{chain_keeps}
use Rattle.flush_engine.specs.Steps.{BarrierFailed, StepFailed, Steps, WriteFailed}
use Rattle.flush_engine.specs.View.{Moment, at}
use Rattle.store_core.specs.declared.Core.{Core}
use Rattle.store_core.specs.declared.ledger.Ledger.{Ledger}
use Rattle.store_core.specs.Ledger.{ledger_told}
use Rattle.store_core.specs.Quiet.{Flows}
use Rattle.store_core.specs.Stands.{EndsDone}
use Rattle.store_core.specs.Stopped.{EndUndone, FlowEnds}
use Rattle.store_core.specs.Whole.{IsWhole}
use Rattle.store_core.proofs.Flowed.{failed_barrier_flows, failed_write_flows, flows_then}
use Rattle.store_core.proofs.Going.{Goes, call_goes, core_of, done_goes, failed_goes, goes_none, goes_then}
use Rattle.store_core.proofs.Stood.{passes_call, passes_then}

refused_undone : (entry : LogEntry) → IsRefused entry → EndsDone entry → ⊥
refused_undone (Write page block end) h done = cc
refused_undone (Flush end) h done = cc

taken_undone : (page : ℕ) (block : Block) → EndsDone (Write page block Taken) → ⊥
taken_undone page block done = cc

write_undone : (page : ℕ) (block : Block) (failed : Failed) (entry : LogEntry) → WriteEntry page block (Err failed) entry → EndsDone entry → ⊥
write_undone page block failed entry (inl is) done = taken_undone page block (subst EndsDone is done)
write_undone page block failed entry (inr refused) done = refused_undone entry refused done

-- the calls of one step that failed
module _ (d e : Meaning) (old new : Core) (shape : new.shape ≡ old.shape) where
  failed_write_stops : (page : ℕ) (w : WriteFailed ledger_told page (at d old.engine old.ledger) (at e new.engine new.ledger)) → EndUndone (failed_write_flows d e old new shape page w).passes.calls
  unfolding failed_write_flows passes_call
  failed_write_stops page w = record { front = []; last = w.call.call.entry; split = refl; undone = write_undone page w.call.block w.failed w.call.call.entry w.call.call.is }

  failed_barrier_stops : (w : BarrierFailed ledger_told (at d old.engine old.ledger) (at e new.engine new.ledger)) → EndUndone (failed_barrier_flows d e old new shape w).passes.calls
  unfolding failed_barrier_flows passes_call
  failed_barrier_stops w = record { front = []; last = w.call.entry; split = refl; undone = refused_undone w.call.entry w.call.is }

step_stops : (shape : ShapeView) (x : Failed) (s : Step) (a b : Moment Ledger) → StepFailed ledger_told s a b → (w : IsWhole shape a.engine a.watch) (v : IsWhole shape b.engine b.watch) → FlowEnds (Err x) a.device b.device (core_of shape a w) (core_of shape b v)
step_stops shape x (WritePage page) a b f w v = record { flows = failed_write_flows a.device b.device (core_of shape a w) (core_of shape b v) refl page f; stopped = λ h. failed_write_stops a.device b.device (core_of shape a w) (core_of shape b v) refl page f }
step_stops shape x MakeBarrier a b f w v = record { flows = failed_barrier_flows a.device b.device (core_of shape a w) (core_of shape b v) refl f; stopped = λ h. failed_barrier_stops a.device b.device (core_of shape a w) (core_of shape b v) refl f }

-- after others
after_stops : (xs ys zs : List LogEntry) → zs ≡ xs ++ ys → EndUndone ys → EndUndone zs
after_stops xs ys zs e h = record { front = xs ++ h.front; last = h.last; split = e ∙ ap (λ (l : List LogEntry). xs ++ l) h.split ∙ sym (append_assoc xs h.front (h.last ∷ [])); undone = h.undone }

then_calls : (d e f : Meaning) (a b c : Core) (h : Flows d e a b) (k : Flows e f b c) → (flows_then d e f a b c h k).passes.calls ≡ h.passes.calls ++ k.passes.calls
unfolding flows_then passes_then
then_calls d e f a b c h k = refl

pub call_ends : (shape : ShapeView) (result : Result Unit Failed) (a b : Moment Ledger) → Steps ledger_told result a b → total shape ≤ a.device.pages → (w : IsWhole shape a.engine a.watch) (v : IsWhole shape b.engine b.watch) → FlowEnds result a.device b.device (core_of shape a w) (core_of shape b v)
call_ends shape (Ok x) a b s room w v = record { flows = (call_goes shape (Ok x) a b s).flows room w v; stopped = λ h. absurd (true≢false (sym h)) }
call_ends shape (Err x) a b s room w v =
    let first = chain_keeps ledger_told (Goes shape) (goes_none shape) (goes_then shape) (done_goes shape) s.done a s.last s.chain in
    let mid = first.whole room w in
    let before = first.flows room w mid in
    let last = step_stops shape x s.ends.step s.last b s.ends.failed mid v in
    record {
      flows = flows_then a.device s.last.device b.device (core_of shape a w) (core_of shape s.last mid) (core_of shape b v) before last.flows;
      stopped = λ h. after_stops before.passes.calls last.flows.passes.calls _
          (then_calls a.device s.last.device b.device (core_of shape a w) (core_of shape s.last mid) (core_of shape b v) before last.flows) (last.stopped h);
    }
