use Rattle.engine_model.proofs.commands.folded.Goals as goal
use Rattle.engine_model.proofs.ReleasedContents.{fold_zero_contents}
use Rattle.engine_model.proofs.RenamedContents.{fold_contents}

pub returns : goal.returns
returns c = record {
  contents = fold_contents;
  zeros = fold_zero_contents;
}
