use Rattle.store_core.proofs.OrderlySteps.{back_orderly, quiet_orderly}
use Rattle.store_core.proofs.orderly.quiet_is_orderly.Goals as goal

pub returns-clause-quiet : goal.returns-clause-quiet
returns-clause-quiet c b more d e old new = quiet_orderly b old new more d e

pub returns-clause-back : goal.returns-clause-back
returns-clause-back c b less old new = back_orderly b old new less
