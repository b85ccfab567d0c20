use Rattle.engine_model.proofs.possible.a_flush_is_possible.Goals as goal
use Rattle.engine_model.proofs.FlushSession.{flush_run}

pub returns : goal.returns
returns c = record {
  run = flush_run;
}
