use Rattle.engine_model.proofs.possible.a_switch_is_possible.Goals as goal
use Rattle.engine_model.proofs.FlushSession.{switch_run, switch_start}

pub returns : goal.returns
returns c = record {
  run = (switch_start, switch_run);
}
