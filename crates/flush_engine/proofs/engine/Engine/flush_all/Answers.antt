use Rattle.std.proofs.Common.{None, subst, sym}
use Rattle.flush_engine.specs.View.{EngineView, Fits, at}
use Rattle.flush_engine.specs.Steps.{Steps}
use Rattle.flush_engine.specs.Flush.{FlushEnds}
use Rattle.flush_engine.proofs.FlushLemmas.{flush_ends}
use Rattle.flush_engine.proofs.WaveLemmas.{waves_steps}
use Rattle.flush_engine.proofs.engine.Engine.flush_all.Goals as goal

pub returns-clause-flush : goal.returns-clause-flush
returns-clause-flush g c =
    let fits = subst (λ (e : EngineView). Fits e (g.D.Device.seen c.args.device.now)) (sym c.self.view_is) c.requires.fits in
    subst (λ (e : EngineView). FlushEnds g.W.Watch.told c.waves.result (at (g.D.Device.seen c.args.device.now) e c.args.watch.now) (at (g.D.Device.seen c.waves.new.device) c.waves.new.self c.waves.new.watch)) c.self.view_is (flush_ends g.W.Watch.told c.waves.result _ _ fits.whole.graph c.waves.ensures.waves)

pub returns-clause-steps : goal.returns-clause-steps
returns-clause-steps g c = subst (λ (e : EngineView). Steps g.W.Watch.told c.waves.result (at (g.D.Device.seen c.args.device.now) e c.args.watch.now) (at (g.D.Device.seen c.waves.new.device) c.waves.new.self c.waves.new.watch)) c.self.view_is (waves_steps g.W.Watch.told None c.waves.result _ _ c.waves.ensures.waves)
