use Rattle.engine_model.proofs.possible.small_steps_are_possible.Goals as goal
use Rattle.engine_model.proofs.FlushSession.{barrier_edge}
use Rattle.engine_model.proofs.SmallSession.{small_run}

pub returns : goal.returns
returns c = record {
  run = small_run;
  barrier_edge = barrier_edge;
}
