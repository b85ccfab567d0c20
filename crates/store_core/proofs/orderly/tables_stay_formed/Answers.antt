use Rattle.store_core.proofs.OrderlyEdits.{formed_came}
use Rattle.store_core.proofs.OrderlySteps.{formed_back, formed_cache}
use Rattle.store_core.proofs.orderly.tables_stay_formed.Goals as goal

pub returns-clause-back : goal.returns-clause-back
returns-clause-back c = formed_back

pub returns-clause-cache : goal.returns-clause-cache
returns-clause-cache c = formed_cache

pub returns-clause-came : goal.returns-clause-came
returns-clause-came c = formed_came
