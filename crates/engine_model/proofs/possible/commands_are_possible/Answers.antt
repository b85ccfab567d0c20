use Rattle.engine_model.proofs.possible.commands_are_possible.Goals as goal
use Rattle.engine_model.proofs.CommandExamples.{discard_possible, emptied_gains, found_possible, fresh_possible}
use Rattle.engine_model.proofs.Examples.{write_gains}
use Rattle.engine_model.proofs.FlushSession.{switch_start}
use Rattle.engine_model.proofs.PassExamples.{discarded_kept}
use Rattle.engine_model.proofs.Session.{mounted_kept}

pub returns : goal.returns
returns c = record {
  fresh = (mounted_kept, fresh_possible, write_gains);
  found = (discarded_kept, found_possible);
  discard = (switch_start.kept, discard_possible, emptied_gains);
}
