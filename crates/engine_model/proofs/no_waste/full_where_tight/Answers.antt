use Rattle.engine_model.proofs.no_waste.full_where_tight.Goals as goal
use Rattle.engine_model.proofs.TightNumbers.{full_is}

pub returns : goal.returns
returns c = record { full = full_is }
