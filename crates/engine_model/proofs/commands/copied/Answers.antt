use Rattle.engine_model.proofs.commands.copied.Goals as goal
use Rattle.engine_model.proofs.RenamedContents.{copy_contents, shared}

pub returns : goal.returns
returns c = record {
  last = shared;
  contents = copy_contents;
}
