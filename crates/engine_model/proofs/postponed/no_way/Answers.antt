use Rattle.engine_model.proofs.postponed.no_way.Goals as goal
use Rattle.engine_model.proofs.Corollaries.{settled_open}
use Rattle.engine_model.proofs.NewEdges.{data_open}

pub returns : goal.returns
returns c = record {
  to_settled = settled_open;
  from_data = λ lay top w p b apart e d t h. data_open lay w p b apart e.edge_kinds d t h;
}
