use Rattle.engine_model.proofs.possible.edits_are_possible.Goals as goal
use Rattle.engine_model.proofs.Examples.{empty_tells, release_applied, waiting_tells, write_content, write_gains, write_renamed}
use Rattle.engine_model.proofs.Instances.{some_content_edits, some_edits, some_growth, some_told_pool}
use Rattle.engine_model.proofs.Pair.{fold_content, fold_renamed}

pub returns : goal.returns
returns c = record {
  written = (empty_tells, write_renamed, write_content, write_gains);
  applied = (waiting_tells, release_applied);
  folded = (fold_renamed, fold_content);
  general = (some_edits, some_content_edits);
  grown = (some_growth, some_told_pool);
}
