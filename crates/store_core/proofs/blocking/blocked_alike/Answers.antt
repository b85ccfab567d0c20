use Rattle.store_core.proofs.Alike.{to_engine, to_queue}
use Rattle.store_core.proofs.blocking.blocked_alike.Goals as goal

pub returns : goal.returns
returns c = λ shape known w r last s l. (to_engine shape known w r last s l, to_queue shape known w r last s l)
