use Rattle.engine_model.proofs.possible.a_look_can_be_spared.Goals as goal
use Rattle.engine_model.proofs.PassExamples.{stuck_quiet, stuck_spared}

pub returns : goal.returns
returns c = record { quiet = stuck_quiet; spared = stuck_spared }
