use Rattle.store_core.proofs.Owing.{holds_flow, holds_quiet, holds_same, holds_then, owed_more, owed_moves}
use Rattle.store_core.proofs.provided.holds_move.Goals as goal

pub returns-clause-quiet : goal.returns-clause-quiet
returns-clause-quiet c = holds_quiet

pub returns-clause-flows : goal.returns-clause-flows
returns-clause-flows c = holds_flow

pub returns-clause-then : goal.returns-clause-then
returns-clause-then c = holds_then

pub returns-clause-owed : goal.returns-clause-owed
returns-clause-owed c = owed_moves

pub returns-clause-edit : goal.returns-clause-edit
returns-clause-edit c = holds_same

pub returns-clause-more : goal.returns-clause-more
returns-clause-more c = owed_more
