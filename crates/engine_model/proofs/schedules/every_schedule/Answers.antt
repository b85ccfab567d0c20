use Rattle.engine_model.proofs.schedules.every_schedule.Goals as goal
use Rattle.engine_model.proofs.Schedule.{run_keeps}
use Rattle.engine_model.proofs.SmallSteps.{small_run_fits, small_run_graph, small_run_keeps}

pub returns : goal.returns
returns c = record {
  kept = λ lay top sound apart m ns k r. run_keeps lay top sound apart m ns k r;
  kept_in_small = λ lay top sound apart m ns k r. small_run_keeps lay top sound apart m ns k r;
  images = λ lay top sound apart m ns k r. small_run_fits lay top sound apart m ns k r;
  graph = λ lay top sound apart m ns k r. small_run_graph lay top sound apart m ns k r;
}
