use Rattle.store_core.proofs.OrderlySteps.{orderly_all, orderly_but}
use Rattle.store_core.proofs.orderly.but_for_none.Goals as goal

pub returns-clause-any : goal.returns-clause-any
returns-clause-any c = orderly_but

pub returns-clause-all : goal.returns-clause-all
returns-clause-all c = orderly_all
