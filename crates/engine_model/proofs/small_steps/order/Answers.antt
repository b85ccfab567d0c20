use Rattle.engine_model.proofs.small_steps.order.Goals as goal
use Rattle.engine_model.proofs.Quiet.{barred_keeps, either_keeps, ordered_keeps}

pub returns : goal.returns
returns c = record {
  live = λ lay top sound apart m k before after kind dirty first no_cycle. ordered_keeps lay top sound apart m k before after kind dirty first no_cycle;
  barrier = λ lay top sound apart m k before after kind dirty first. barred_keeps lay top sound apart m k before after kind dirty first;
  either = λ lay top sound apart m k before after kind dirty no_cycle. either_keeps lay top sound apart m k before after kind dirty no_cycle;
}
