use Rattle.engine_model.proofs.possible.a_scan_is_possible.Goals as goal
use Rattle.engine_model.proofs.CommandExamples.{leftover_drained, leftover_kept, scan_possible, scan_settled}

pub returns : goal.returns
returns c = record { scan = (leftover_kept, leftover_drained, scan_possible, scan_settled) }
