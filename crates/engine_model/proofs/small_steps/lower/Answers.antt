use Rattle.engine_model.proofs.small_steps.lower.Goals as goal
use Rattle.engine_model.proofs.Lowered.{lowered_keeps}

pub returns : goal.returns
returns c = record {
  kept = λ lay top sound apart m k r before after c count can pool told. lowered_keeps lay top sound apart m k r before after c count can pool told;
}
