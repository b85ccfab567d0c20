use Rattle.std.proofs.Common.{refl, sym, ap, subst}
use Rattle.flush_engine.specs.View.{EngineView}
use Rattle.store_core.specs.Whole.{IsWhole}
use Rattle.store_core.proofs.Quieted.{quiet_same}
use Rattle.store_core.proofs.Reserved.{rest_same}
use Rattle.store_core.proofs.Core.closes.Goals as goal

pub invariant_of-self : goal.invariant_of-self
invariant_of-self c = record { whole = subst (λ (e : EngineView). IsWhole c.args.self.now.shape e c.args.self.now.ledger) (sym c.closes_in.ensures.same) c.args.self.now.whole }

pub returns-clause-quiet : goal.returns-clause-quiet
returns-clause-quiet c d = quiet_same d c.args.self.now _ (rest_same c.args.self.now _ refl c.closes_in.ensures.same refl) (ap (λ (e : EngineView). e.cache) c.closes_in.ensures.same)
