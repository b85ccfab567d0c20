use Rattle.std.proofs.Common.{arith}
use Rattle.dep_graph.proofs.GraphLemmas.{hung_within}
use Rattle.dep_graph.proofs.graph.Graph.hung.Goals as goal

pub overflow_cast-result : goal.overflow_cast-result
overflow_cast-result c = let within = hung_within c.self.inside.dirty c.self.inside.hung.items c.self.inside.hung_only c.self.inside.live.pairs c.self.inside.barred.items c.self.invariant.0 in omega (arith, c.self.invariant.1.few_nodes)
