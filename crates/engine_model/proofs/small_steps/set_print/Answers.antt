use Rattle.engine_model.proofs.small_steps.set_print.Goals as goal
use Rattle.engine_model.proofs.SetPrints.{printed_keeps}

pub returns : goal.returns
returns c = record {
  kept = λ lay top sound apart m k p c print can. printed_keeps lay top sound apart m k p c print can;
}
