use Rattle.store_core.proofs.OrderlyEdits.{give_up_orderly, place_orderly}
use Rattle.store_core.proofs.orderly.data_is_orderly.Goals as goal

pub returns-clause-place : goal.returns-clause-place
returns-clause-place c = place_orderly

pub returns-clause-give_up : goal.returns-clause-give_up
returns-clause-give_up c = give_up_orderly
