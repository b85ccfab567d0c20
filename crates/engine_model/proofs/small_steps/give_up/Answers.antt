use Rattle.engine_model.proofs.small_steps.give_up.Goals as goal
use Rattle.engine_model.proofs.GivenUp.{given_up_keeps}

pub returns : goal.returns
returns c = record {
  kept = λ lay top sound apart m k p is none. given_up_keeps lay top sound apart m k p is none;
}
