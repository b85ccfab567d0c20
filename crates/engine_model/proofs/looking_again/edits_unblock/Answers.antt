use Rattle.engine_model.proofs.looking_again.edits_unblock.Goals as goal
use Rattle.engine_model.proofs.LooksAgain.{step_blocked}

pub returns : goal.returns
returns c = record { stays = λ lay top apart m n r is step leaves b. step_blocked lay top apart m n r is step leaves b }
