use Rattle.engine_model.proofs.possible.a_drain_is_possible.Goals as goal
use Rattle.engine_model.proofs.CommandExamples.{drain_possible, emptied_kept}

pub returns : goal.returns
returns c = record { drain = (emptied_kept, drain_possible) }
