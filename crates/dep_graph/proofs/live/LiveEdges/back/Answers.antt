use Rattle.dep_graph.specs.Pairs.{BothWays, IsTurned}
use Rattle.std.proofs.Common.{subst}
use Rattle.dep_graph.proofs.live.LiveEdges.back.Goals as goal

pub returns-clause-turned : goal.returns-clause-turned
returns-clause-turned c = subst (λ (e : BothWays). IsTurned e.pairs e.back) c.self.view_is c.self.invariant
