use Rattle.dep_graph.proofs.ReadyLemmas.{some_free, some_ready, some_serves}
use Rattle.dep_graph.proofs.laws.some_page_is_ready.Goals as goal

pub returns : goal.returns
returns c = record {
  free = some_free;
  ready = some_ready;
  serves = some_serves;
}
