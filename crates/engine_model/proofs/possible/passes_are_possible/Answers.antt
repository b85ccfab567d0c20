use Rattle.engine_model.proofs.possible.passes_are_possible.Goals as goal
use Rattle.engine_model.proofs.PassExamples.{discarded_kept, late_order, late_pass, stuck_order, stuck_pass, unborn_pass}

pub returns : goal.returns
returns c = record {
  gives_up = (discarded_kept, unborn_pass);
  last_print = (late_order, late_pass);
  stays = (stuck_order, stuck_pass);
}
