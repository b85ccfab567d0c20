use Rattle.std.proofs.Common.{ap, length, arith}
use Rattle.dep_graph.proofs.graph.Graph.dirty.Goals as goal

pub overflow_cast-result : goal.overflow_cast-result
overflow_cast-result c = omega (arith, c.self.invariant.1.few_nodes, ap length c.pages.ensures.pages)
