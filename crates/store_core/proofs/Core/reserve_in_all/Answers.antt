use Rattle.std.proofs.Common.{arith, refl, ap}
use Rattle.flush_engine.specs.View.{EngineView}
use Rattle.store_core.proofs.Quieted.{quiet_same}
use Rattle.store_core.proofs.Reserved.{at_least, rest_engine, rest_spare, whole_births, whole_reserved, with_births}
use Rattle.store_core.proofs.Core.reserve_in_all.Goals as goal

pub invariant_of-self : goal.invariant_of-self
invariant_of-self c = record { whole = whole_births c.args.self.now _ c.reserve.ensures.same }

pub invariant_of-self-2 : goal.invariant_of-self-2
invariant_of-self-2 c = let mid = with_births c.args.self.now c.reserve.new.self c.reserve.ensures.same in
    record { whole = whole_reserved mid _ c.args.all.nodes c.args.all.edges c.reserve_nodes.result c.reserve_nodes.ensures.ok c.reserve_nodes.ensures.err }

pub returns-in-Err-clause-rest : goal.returns-in-Err-clause-rest
returns-in-Err-clause-rest c = rest_engine c.args.self.now _ refl refl refl c.reserve.ensures.same (omega (arith, c.in-Err.ensures.err)) refl

pub returns-in-Err-clause-quiet : goal.returns-in-Err-clause-quiet
returns-in-Err-clause-quiet c d = quiet_same d c.args.self.now _ (returns-in-Err-clause-rest c) refl

pub returns-in-Ok-reserve_nodes-clause-rest : goal.returns-in-Ok-reserve_nodes-clause-rest
returns-in-Ok-reserve_nodes-clause-rest c = rest_spare c.args.self.now _ refl refl refl c.reserve.ensures.same (at_least _ _ _ c.in-Ok.ensures.ok) c.args.all.nodes c.args.all.edges c.in-Ok-reserve_nodes.ensures.ok

pub returns-in-Ok-reserve_nodes-clause-quiet : goal.returns-in-Ok-reserve_nodes-clause-quiet
returns-in-Ok-reserve_nodes-clause-quiet c d = quiet_same d c.args.self.now _ (returns-in-Ok-reserve_nodes-clause-rest c) (ap (λ (e : EngineView). e.cache) c.in-Ok-reserve_nodes.ensures.ok)

pub returns-in-Err-reserve_nodes-clause-rest : goal.returns-in-Err-reserve_nodes-clause-rest
returns-in-Err-reserve_nodes-clause-rest c = rest_engine c.args.self.now _ refl refl refl c.reserve.ensures.same (at_least _ _ _ c.in-Ok.ensures.ok) c.in-Err-reserve_nodes.ensures.err

pub returns-in-Err-reserve_nodes-clause-quiet : goal.returns-in-Err-reserve_nodes-clause-quiet
returns-in-Err-reserve_nodes-clause-quiet c d = quiet_same d c.args.self.now _ (returns-in-Err-reserve_nodes-clause-rest c) (ap (λ (e : EngineView). e.cache) c.in-Err-reserve_nodes.ensures.err)

pub returns-in-Ok-reserve_nodes-clause-cache : goal.returns-in-Ok-reserve_nodes-clause-cache
returns-in-Ok-reserve_nodes-clause-cache c = ap (λ (e : EngineView). e.cache) c.in-Ok-reserve_nodes.ensures.ok

pub returns-in-Err-reserve_nodes-clause-cache : goal.returns-in-Err-reserve_nodes-clause-cache
returns-in-Err-reserve_nodes-clause-cache c = ap (λ (e : EngineView). e.cache) c.in-Err-reserve_nodes.ensures.err
