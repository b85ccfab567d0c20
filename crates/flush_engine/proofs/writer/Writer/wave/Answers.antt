use Rattle.std.proofs.Common.{◌≡◌, ◌∙◌, true, List, ℕ, sym, ap, subst, Err}
use Rattle.dep_graph.specs.Lists.{is_ready}
use Rattle.dep_graph.specs.Pages.{holds, IsRising}
use Rattle.dep_graph.specs.Schedules.{MakeBarrier}
use Rattle.flush_engine.specs.View.{EngineView, Returned, at}
use Rattle.flush_engine.specs.Steps.{Chain}
use Rattle.flush_engine.specs.Waves.{WritesFailed, writes}
use Rattle.flush_engine.proofs.DueLemmas.{due_ready}
use Rattle.flush_engine.proofs.FitLemmas.{no_failure, step_returned}
use Rattle.flush_engine.proofs.GraphAfter.{ready_dirty}
use Rattle.flush_engine.proofs.WaveLemmas.{wave_ends, write_failed}
use Rattle.flush_engine.proofs.writer.Writer.wave.Goals as goal

pub write_each-requires-clause-rising : goal.write_each-requires-clause-rising
write_each-requires-clause-rising g c = subst IsRising (sym c.deref.ensures.value) c.list_due.ensures.due.rising

pub write_each-requires-clause-ready : goal.write_each-requires-clause-ready
write_each-requires-clause-ready g c = λ a h.
    subst (λ (e : EngineView). is_ready e.graph a ≡ true) (sym c.list_due.ensures.same) (due_ready c.args.self.now.graph c.args.target a (c.list_due.ensures.due.due a (ap (λ (l : List ℕ). holds l a) (sym c.deref.ensures.value) ∙ h)))

pub returns-in-Err-clause-wave : goal.returns-in-Err-clause-wave
returns-in-Err-clause-wave g c =
    let moved = subst (λ (e : EngineView). WritesFailed g.W.Watch.told c.deref.result.now (at (g.D.Device.seen c.args.device.now) e c.args.watch.now) (at (g.D.Device.seen c.write_each.new.device) c.write_each.new.self c.write_each.new.watch)) c.list_due.ensures.same c.in-Err.ensures.writes in
    write_failed g.W.Watch.told c.args.target (at (g.D.Device.seen c.args.device.now) c.args.self.now c.args.watch.now) c.requires.goes_on c.list_due.new.due.items c.list_due.ensures.due _
    (subst (λ (l : List ℕ). WritesFailed g.W.Watch.told l (at (g.D.Device.seen c.args.device.now) c.args.self.now c.args.watch.now) (at (g.D.Device.seen c.write_each.new.device) c.write_each.new.self c.write_each.new.watch)) c.deref.ensures.value moved)

pub returns-in-Err-clause-returned : goal.returns-in-Err-clause-returned
returns-in-Err-clause-returned g c = subst (λ (e : EngineView). Returned (Err c.in-Err.failed) (at (g.D.Device.seen c.args.device.now) e c.args.watch.now) (at (g.D.Device.seen c.write_each.new.device) c.write_each.new.self c.write_each.new.watch)) c.list_due.ensures.same c.in-Err.ensures.returned

pub returns-clause-wave : goal.returns-clause-wave
returns-clause-wave g c =
    let moved = subst (λ (e : EngineView). Chain g.W.Watch.told (writes c.deref.result.now) (at (g.D.Device.seen c.args.device.now) e c.args.watch.now) (at (g.D.Device.seen c.write_each.new.device) c.write_each.new.self c.write_each.new.watch)) c.list_due.ensures.same c.in-Ok.ensures.writes in
    wave_ends g.W.Watch.told c.args.target (at (g.D.Device.seen c.args.device.now) c.args.self.now c.args.watch.now) c.requires.goes_on c.list_due.new.due.items c.list_due.ensures.due (g.D.Device.seen c.args.device.now).pages
    (λ a r. c.requires.fits.within a (ready_dirty c.args.self.now.graph a r)) (at (g.D.Device.seen c.write_each.new.device) c.write_each.new.self c.write_each.new.watch) _ c.barrier.result
    (subst (λ (l : List ℕ). Chain g.W.Watch.told (writes l) (at (g.D.Device.seen c.args.device.now) c.args.self.now c.args.watch.now) (at (g.D.Device.seen c.write_each.new.device) c.write_each.new.self c.write_each.new.watch)) c.deref.ensures.value moved)
    c.barrier.ensures.step

pub returns-clause-returned : goal.returns-clause-returned
returns-clause-returned g c =
    let moved = subst (λ (e : EngineView). Returned no_failure (at (g.D.Device.seen c.args.device.now) e c.args.watch.now) (at (g.D.Device.seen c.write_each.new.device) c.write_each.new.self c.write_each.new.watch)) c.list_due.ensures.same c.in-Ok.ensures.returned in
    step_returned g.W.Watch.told no_failure MakeBarrier c.barrier.result _ _ _ moved c.barrier.ensures.cause c.barrier.ensures.step
