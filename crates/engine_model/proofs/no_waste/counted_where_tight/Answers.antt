use Rattle.engine_model.proofs.no_waste.counted_where_tight.Goals as goal
use Rattle.engine_model.proofs.TightNumbers.{at_least, at_most, has_room, one_page}

pub returns : goal.returns
returns c = record { at_least = at_least; at_most = at_most; room = has_room; one_page = one_page }
