use Rattle.store_core.proofs.AppliedLaws.{blocked_alike_at}
use Rattle.store_core.proofs.Moved.{name_known, unborn_known}
use Rattle.store_core.proofs.blocking.known_at_moments.Goals as goal

pub returns-clause-name : goal.returns-clause-name
returns-clause-name c = name_known

pub returns-clause-print : goal.returns-clause-print
returns-clause-print c = unborn_known

pub returns-clause-blocked : goal.returns-clause-blocked
returns-clause-blocked c = blocked_alike_at
