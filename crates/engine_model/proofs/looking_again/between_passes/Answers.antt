use Rattle.engine_model.proofs.looking_again.between_passes.Goals as goal
use Rattle.engine_model.proofs.LooksAgain.{quiet_run}

pub returns : goal.returns
returns c = record { stays = λ lay top apart m n r s lt is run b. quiet_run lay top apart s n m r lt is run b }
