use Rattle.std.proofs.Common.{Some, subst}
use Rattle.flush_engine.specs.View.{EngineView, at}
use Rattle.flush_engine.specs.Steps.{Steps}
use Rattle.flush_engine.proofs.WaveLemmas.{waves_steps}
use Rattle.flush_engine.proofs.engine.Engine.settle.Goals as goal

pub returns-clause-steps : goal.returns-clause-steps
returns-clause-steps g c = subst (λ (e : EngineView). Steps g.W.Watch.told c.waves.result (at (g.D.Device.seen c.args.device.now) e c.args.watch.now) (at (g.D.Device.seen c.waves.new.device) c.waves.new.self c.waves.new.watch)) c.self.view_is (waves_steps g.W.Watch.told (Some c.args.page) c.waves.result _ _ c.waves.ensures.waves)
