use Rattle.engine_model.proofs.small_steps.clear_print.Goals as goal
use Rattle.engine_model.proofs.SetPrints.{cleared_keeps}

pub returns : goal.returns
returns c = record {
  kept = λ lay top sound apart m k p c print can. cleared_keeps lay top sound apart m k p c print can;
}
