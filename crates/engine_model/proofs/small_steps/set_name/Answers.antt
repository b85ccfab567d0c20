use Rattle.engine_model.proofs.small_steps.set_name.Goals as goal
use Rattle.engine_model.proofs.SetNames.{named_keeps}

pub returns : goal.returns
returns c = record {
  kept = λ lay top sound apart m k l o p c can array gain. named_keeps lay top sound apart m k l o p c can array gain;
}
