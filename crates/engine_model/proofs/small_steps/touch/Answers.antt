use Rattle.engine_model.proofs.small_steps.touch.Goals as goal
use Rattle.engine_model.proofs.Quiet.{touched_keeps}

pub returns : goal.returns
returns c = record {
  kept = λ lay top sound apart m k page is. touched_keeps lay top sound apart m k page is;
}
