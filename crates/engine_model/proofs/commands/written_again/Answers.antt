use Rattle.engine_model.proofs.commands.written_again.Goals as goal
use Rattle.engine_model.proofs.ReleasedContents.{again_contents, again_zero_contents}

pub returns : goal.returns
returns c = record {
  write = again_contents;
  discard = again_zero_contents;
}
