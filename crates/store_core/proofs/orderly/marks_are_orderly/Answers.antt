use Rattle.store_core.proofs.OrderlySteps.{bar_orderly, order_orderly, touch_orderly}
use Rattle.store_core.proofs.orderly.marks_are_orderly.Goals as goal

pub returns-clause-touch : goal.returns-clause-touch
returns-clause-touch c = touch_orderly

pub returns-clause-order : goal.returns-clause-order
returns-clause-order c = order_orderly

pub returns-clause-order_by_barrier : goal.returns-clause-order_by_barrier
returns-clause-order_by_barrier c = bar_orderly
