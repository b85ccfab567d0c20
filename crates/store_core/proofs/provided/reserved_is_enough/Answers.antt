use Rattle.store_core.proofs.Owing.{spent_provided}
use Rattle.store_core.proofs.provided.reserved_is_enough.Goals as goal

pub returns : goal.returns
returns c = spent_provided
