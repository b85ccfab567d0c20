use Rattle.dep_graph.proofs.ReadyLemmas.{none_waits, ready_alone, waited_for}
use Rattle.dep_graph.proofs.laws.edges_are_waited_for.Goals as goal

pub returns : goal.returns
returns c = record {
  waits = waited_for;
  none = none_waits;
  ready = ready_alone;
}
