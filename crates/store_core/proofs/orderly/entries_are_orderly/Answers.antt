use Rattle.store_core.proofs.OrderlyEdits.{name_orderly, print_orderly, raise_orderly}
use Rattle.store_core.proofs.OrderlySteps.{again_orderly}
use Rattle.store_core.proofs.orderly.entries_are_orderly.Goals as goal

pub returns-clause-raise : goal.returns-clause-raise
returns-clause-raise c = raise_orderly

pub returns-clause-print : goal.returns-clause-print
returns-clause-print c = print_orderly

pub returns-clause-name : goal.returns-clause-name
returns-clause-name c = name_orderly

pub returns-clause-again : goal.returns-clause-again
returns-clause-again c = again_orderly
