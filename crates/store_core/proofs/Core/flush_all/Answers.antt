use Rattle.store_core.specs.Views.{lent}
use Rattle.store_core.proofs.OrderlyFlows.{call_orders}
use Rattle.store_core.proofs.Going.{call_goes, core_fits}
use Rattle.store_core.proofs.Stopping.{call_ends}
use Rattle.store_core.proofs.Core.flush_all.Goals as goal

pub flush_all-requires : goal.flush_all-requires
flush_all-requires g c = record { fits = core_fits c.args.self.now.shape (lent (g.D.Device.seen c.args.device.now) c.args.self.now) c.requires.room c.args.self.now.whole }

pub invariant_of-self : goal.invariant_of-self
invariant_of-self g c = record { whole = (call_goes c.args.self.now.shape c.flush_all.result _ _ c.flush_all.ensures.steps).whole c.requires.room c.args.self.now.whole }

pub returns-clause-flows : goal.returns-clause-flows
returns-clause-flows g c = (call_goes c.args.self.now.shape c.flush_all.result _ _ c.flush_all.ensures.steps).flows c.requires.room c.args.self.now.whole _

pub returns-clause-orderly : goal.returns-clause-orderly
returns-clause-orderly g c = (call_orders c.args.self.now.shape c.flush_all.result _ _ c.flush_all.ensures.steps).orderly c.requires.room c.args.self.now.whole _

pub returns-clause-fewer : goal.returns-clause-fewer
returns-clause-fewer g c = (call_orders c.args.self.now.shape c.flush_all.result _ _ c.flush_all.ensures.steps).fewer

pub returns-clause-stops : goal.returns-clause-stops
returns-clause-stops g c = call_ends c.args.self.now.shape c.flush_all.result _ _ c.flush_all.ensures.steps c.requires.room c.args.self.now.whole _
