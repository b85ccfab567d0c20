use Rattle.store_core.proofs.Owing.{again_provided, look_provided, out_left, out_provided}
use Rattle.store_core.proofs.provided.queue_is_provided.Goals as goal

pub returns-clause-again : goal.returns-clause-again
returns-clause-again c = again_provided

pub returns-clause-look : goal.returns-clause-look
returns-clause-look c = look_provided

pub returns-clause-out : goal.returns-clause-out
returns-clause-out c = out_provided

pub returns-clause-left : goal.returns-clause-left
returns-clause-left c = out_left
