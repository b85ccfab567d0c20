use Rattle.engine_model.proofs.editing.growth.Goals as goal
use Rattle.engine_model.proofs.Grown.{grown_keeps}

pub returns : goal.returns
returns c = record {
  counts = grown_keeps;
}
