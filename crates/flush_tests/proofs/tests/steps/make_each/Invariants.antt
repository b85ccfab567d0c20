use Rattle.flush_engine.specs.View.{Fits}
use Rattle.flush_tests.proofs.tests.steps.make_each.Given as goal

abbrev pub invariant-loop-step : goal.invariant-loop-step
invariant-loop-step g l = Fits l.engine (g.D.Device.seen l.device)
