use Rattle.engine_model.proofs.small_steps.place.Goals as goal
use Rattle.engine_model.proofs.Quiet.{placed_keeps}

pub returns : goal.returns
returns c = record {
  kept = λ lay top sound apart m k p content is free. placed_keeps lay top sound apart m k p content is free;
}
