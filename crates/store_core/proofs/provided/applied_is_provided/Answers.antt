use Rattle.store_core.proofs.Owing.{applied_left, applied_provided}
use Rattle.store_core.proofs.provided.applied_is_provided.Goals as goal

pub returns-clause-rest : goal.returns-clause-rest
returns-clause-rest c = applied_provided

pub returns-clause-left : goal.returns-clause-left
returns-clause-left c = applied_left
