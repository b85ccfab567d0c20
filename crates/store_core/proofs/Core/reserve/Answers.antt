use Rattle.store_core.proofs.Quieted.{quiet_none}
use Rattle.store_core.proofs.Core.reserve.Goals as goal

pub returns-then-not-has_place-clause-quiet : goal.returns-then-not-has_place-clause-quiet
returns-then-not-has_place-clause-quiet c d = quiet_none d c.args.self.now

pub returns-in-None-clause-quiet : goal.returns-in-None-clause-quiet
returns-in-None-clause-quiet c d = quiet_none d c.args.self.now
