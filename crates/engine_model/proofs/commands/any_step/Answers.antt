use Rattle.engine_model.proofs.commands.any_step.Goals as goal
use Rattle.engine_model.proofs.Schedule.{step_keeps}

pub returns : goal.returns
returns c = record {
  kept = λ lay top sound apart m n k s. step_keeps lay top sound apart m n k s;
}
