use Rattle.engine_model.proofs.releases.released.Goals as goal
use Rattle.engine_model.proofs.Applied.{applied_keeps}
use Rattle.engine_model.proofs.ReleasedContents.{applied_contents}

pub returns : goal.returns
returns c = record {
  counts = applied_keeps;
  contents = applied_contents;
}
