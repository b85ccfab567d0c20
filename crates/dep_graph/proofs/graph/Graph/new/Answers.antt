use Rattle.std.proofs.Common.{ap, length, arith}
use Rattle.dep_graph.proofs.GraphLemmas.{graph_of}
use Rattle.dep_graph.proofs.KeptLemmas.{nothing_kept}
use Rattle.dep_graph.proofs.graph.Graph.new.Goals as goal

pub invariant_of-result : goal.invariant_of-result
invariant_of-result c = let none = ap length c.new.ensures in rw (c.new-2.ensures.items, c.new-3.ensures, c.new-4.ensures.items) (
  nothing_kept c.new.result c.new.ensures,
  record {
    dirty = omega arith;
    hung = omega arith;
    live = omega arith;
    barred = omega arith;
    search_fits = omega arith;
    left_fits = omega arith;
    level_fits = omega arith;
    few_nodes = omega arith;
    few_places = omega arith;
    few_edges = omega arith;
  },
  c.new-5.ensures.reached,
)

pub returns-clause-graph : goal.returns-clause-graph
returns-clause-graph c = graph_of c.new.result c.new-2.result.items 0 c.new-3.result.pairs c.new-4.result.items 0 0 (invariant_of-result c).0
