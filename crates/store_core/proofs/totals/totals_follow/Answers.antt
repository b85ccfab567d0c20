use Rattle.store_core.proofs.Totaled.{few_totals, lowered_totals, raised_totals, renamed_totals, same_totals}
use Rattle.store_core.proofs.totals.totals_follow.Goals as goal

pub returns-clause-raise : goal.returns-clause-raise
returns-clause-raise c lay v w p t is r more few was = raised_totals lay v w p is r t more few was

pub returns-clause-lower : goal.returns-clause-lower
returns-clause-lower c lay v w p t is r less was = lowered_totals lay v w p is r t less was

pub returns-clause-rename : goal.returns-clause-rename
returns-clause-rename c lay v w l t lt r few was = renamed_totals lay v w l lt r t few was

pub returns-clause-same : goal.returns-clause-same
returns-clause-same c lay v w t counts names was = same_totals lay v w t counts names was

pub returns-clause-few : goal.returns-clause-few
returns-clause-few c sound d core array t s was = few_totals sound d core array t s was
