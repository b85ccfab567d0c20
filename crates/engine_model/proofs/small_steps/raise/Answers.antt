use Rattle.engine_model.proofs.small_steps.raise.Goals as goal
use Rattle.engine_model.proofs.Quiet.{raised_keeps}

pub returns : goal.returns
returns c = record {
  kept = λ lay top sound apart m k p c can pool told. raised_keeps lay top sound apart m k p c can pool told;
}
