use Rattle.std.proofs.Common.{subst}
use Rattle.flush_engine.specs.View.{EngineView, at}
use Rattle.flush_engine.specs.Steps.{Steps}
use Rattle.flush_engine.proofs.PickLemmas.{turn_steps}
use Rattle.flush_engine.proofs.engine.Engine.idle_turn.Goals as goal

pub returns-clause-steps : goal.returns-clause-steps
returns-clause-steps g c = subst (λ (e : EngineView). Steps g.W.Watch.told c.idle_turn.result (at (g.D.Device.seen c.args.device.now) e c.args.watch.now) (at (g.D.Device.seen c.idle_turn.new.device) c.idle_turn.new.self c.idle_turn.new.watch)) c.self.view_is (turn_steps g.W.Watch.told c.idle_turn.result _ _ _ _ c.idle_turn.ensures.turn)
