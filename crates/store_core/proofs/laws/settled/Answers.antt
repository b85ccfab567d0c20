use Rattle.store_core.proofs.Standing.{reads_settled}
use Rattle.store_core.proofs.laws.settled.Goals as goal

pub returns : goal.returns
returns c = reads_settled
