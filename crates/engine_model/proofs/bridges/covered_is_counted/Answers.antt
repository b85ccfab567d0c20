use Rattle.engine_model.proofs.bridges.covered_is_counted.Goals as goal
use Rattle.engine_model.proofs.CoveredCount.{covered_size}

pub returns : goal.returns
returns c = record {
  size = covered_size;
}
