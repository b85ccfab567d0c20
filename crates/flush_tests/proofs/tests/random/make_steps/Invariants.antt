use Rattle.flush_engine.specs.View.{Fits}
use Rattle.flush_tests.proofs.tests.random.make_steps.Given as goal

abbrev pub invariant-loop : goal.invariant-loop
invariant-loop g l = Fits l.engine (g.D.Device.seen l.device)
