use Rattle.dep_graph.proofs.PathLemmas.{acyclic_more, closes_before}
use Rattle.dep_graph.proofs.laws.edges_into_one_page.Goals as goal

pub returns : goal.returns
returns c = record {
  closes = closes_before;
  acyclic = acyclic_more;
}
