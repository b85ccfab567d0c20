use Rattle.store_core.proofs.OrderlyReleases.{applied_orderly, look_orderly, lower_orderly, out_orderly}
use Rattle.store_core.proofs.orderly.releases_are_orderly.Goals as goal

pub returns-clause-lower : goal.returns-clause-lower
returns-clause-lower c = lower_orderly

pub returns-clause-applied : goal.returns-clause-applied
returns-clause-applied c = applied_orderly

pub returns-clause-out : goal.returns-clause-out
returns-clause-out c = out_orderly

pub returns-clause-look : goal.returns-clause-look
returns-clause-look c = look_orderly
