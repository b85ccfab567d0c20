use Rattle.engine_model.proofs.small_steps.recount.Goals as goal
use Rattle.engine_model.proofs.Lowered.{recounted_keeps}

pub returns : goal.returns
returns c = record {
  kept = λ lay top sound apart m k p c count can pool told. recounted_keeps lay top sound apart m k p c count can pool told;
}
