use Rattle.engine_model.proofs.small_steps.any_small_step.Goals as goal
use Rattle.engine_model.proofs.SmallSteps.{small_step_keeps}

pub returns : goal.returns
returns c = record {
  kept = λ lay top sound apart m n k s. small_step_keeps lay top sound apart m n k s;
}
