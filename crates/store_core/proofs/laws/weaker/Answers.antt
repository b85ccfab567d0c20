use Rattle.store_core.proofs.Standing.{stands_fit, stands_longer}
use Rattle.store_core.proofs.laws.weaker.Goals as goal

pub returns : goal.returns
returns c = record { fit = stands_fit; longer = stands_longer }
