use Rattle.store_core.proofs.Owing.{back_provided, flows_provided, quiet_provided}
use Rattle.store_core.proofs.provided.stays_provided.Goals as goal

pub returns-clause-quiet : goal.returns-clause-quiet
returns-clause-quiet c = quiet_provided

pub returns-clause-flows : goal.returns-clause-flows
returns-clause-flows c = flows_provided

pub returns-clause-back : goal.returns-clause-back
returns-clause-back c = back_provided
