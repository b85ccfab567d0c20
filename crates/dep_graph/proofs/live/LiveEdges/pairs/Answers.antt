use Rattle.std.proofs.Common.{ap, subst}
use Rattle.dep_graph.specs.Pairs.{AreRising, BothWays}
use Rattle.dep_graph.proofs.live.LiveEdges.pairs.Goals as goal

pub returns-clause-rising : goal.returns-clause-rising
returns-clause-rising c = subst AreRising (ap (λ (e : BothWays). e.pairs) c.self.view_is) c.self.invariant.rising
