use Rattle.store_core.proofs.Spending.{back_spends, bar_spends, enter_spends, flows_spend, name_spends, order_spends, print_spends, quiet_spends, raise_spends, spends_more, spends_none, spends_then}
use Rattle.store_core.proofs.provided.steps_spend.Goals as goal

pub returns-clause-none : goal.returns-clause-none
returns-clause-none c = spends_none

pub returns-clause-then : goal.returns-clause-then
returns-clause-then c = spends_then

pub returns-clause-more : goal.returns-clause-more
returns-clause-more c = spends_more

pub returns-clause-quiet : goal.returns-clause-quiet
returns-clause-quiet c = quiet_spends

pub returns-clause-back : goal.returns-clause-back
returns-clause-back c = back_spends

pub returns-clause-flows : goal.returns-clause-flows
returns-clause-flows c = flows_spend

pub returns-clause-mark : goal.returns-clause-mark
returns-clause-mark c = enter_spends

pub returns-clause-order : goal.returns-clause-order
returns-clause-order c = order_spends

pub returns-clause-order_by_barrier : goal.returns-clause-order_by_barrier
returns-clause-order_by_barrier c = bar_spends

pub returns-clause-raise : goal.returns-clause-raise
returns-clause-raise c = raise_spends

pub returns-clause-name : goal.returns-clause-name
returns-clause-name c = name_spends

pub returns-clause-print : goal.returns-clause-print
returns-clause-print c = print_spends
