use Rattle.engine_model.proofs.commands.written.Goals as goal
use Rattle.engine_model.proofs.Renamed.{rename_keeps}
use Rattle.engine_model.proofs.RenamedContents.{write_contents_kept}

pub returns : goal.returns
returns c = record {
  counts = rename_keeps;
  contents = write_contents_kept;
}
