use Rattle.engine_model.proofs.needed.order_decides.Goals as goal
use Rattle.engine_model.proofs.PassExamples.{first_open, second_open, second_shut}

pub returns : goal.returns
returns c = record { first = first_open; second = second_open; after_first = second_shut }
