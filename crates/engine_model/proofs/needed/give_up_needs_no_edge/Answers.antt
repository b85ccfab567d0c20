use Rattle.engine_model.proofs.needed.give_up_needs_no_edge.Goals as goal
use Rattle.engine_model.proofs.PassExamples.{crossed_open, crossed_way}

pub returns : goal.returns
returns c = record { unblocked = (crossed_way, crossed_open) }
