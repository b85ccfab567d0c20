use Rattle.engine_model.proofs.commands.discarded.Goals as goal
use Rattle.engine_model.proofs.ReleasedContents.{discard_contents}
use Rattle.engine_model.proofs.Renamed.{discard_keeps}

pub returns : goal.returns
returns c = record {
  counts = discard_keeps;
  contents = discard_contents;
}
