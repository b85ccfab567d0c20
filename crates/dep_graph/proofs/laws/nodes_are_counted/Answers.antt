use Rattle.dep_graph.proofs.NodeLemmas.{hung_counts, no_node, some_node}
use Rattle.dep_graph.proofs.laws.nodes_are_counted.Goals as goal

pub returns : goal.returns
returns c = record {
  some = some_node;
  none = no_node;
  hung = hung_counts;
}
