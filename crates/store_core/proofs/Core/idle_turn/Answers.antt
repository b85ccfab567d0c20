use Rattle.store_core.specs.Views.{lent}
use Rattle.store_core.proofs.OrderlyFlows.{call_orders}
use Rattle.store_core.proofs.Going.{call_goes, core_fits}
use Rattle.store_core.proofs.Core.idle_turn.Goals as goal

pub idle_turn-requires : goal.idle_turn-requires
idle_turn-requires g c = record { fits = core_fits c.args.self.now.shape (lent (g.D.Device.seen c.args.device.now) c.args.self.now) c.requires.room c.args.self.now.whole }

pub invariant_of-self : goal.invariant_of-self
invariant_of-self g c = record { whole = (call_goes c.args.self.now.shape c.idle_turn.result _ _ c.idle_turn.ensures.steps).whole c.requires.room c.args.self.now.whole }

pub returns-clause-flows : goal.returns-clause-flows
returns-clause-flows g c = (call_goes c.args.self.now.shape c.idle_turn.result _ _ c.idle_turn.ensures.steps).flows c.requires.room c.args.self.now.whole _

pub returns-clause-orderly : goal.returns-clause-orderly
returns-clause-orderly g c = (call_orders c.args.self.now.shape c.idle_turn.result _ _ c.idle_turn.ensures.steps).orderly c.requires.room c.args.self.now.whole _

pub returns-clause-fewer : goal.returns-clause-fewer
returns-clause-fewer g c = (call_orders c.args.self.now.shape c.idle_turn.result _ _ c.idle_turn.ensures.steps).fewer
