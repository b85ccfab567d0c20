use Rattle.engine_model.proofs.no_waste.nothing_is_wasted.Goals as goal
use Rattle.engine_model.proofs.Tight.{end_tight, start_tight, step_tight}

pub returns : goal.returns
returns c = record {
  start = start_tight;
  kept = λ lay top version apart m n k tight s well. step_tight lay top version apart m n k tight s well;
  ends = end_tight;
}
