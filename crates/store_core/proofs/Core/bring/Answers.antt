use Rattle.store_core.specs.Quiet.{none, once}
use Rattle.store_core.proofs.Looked.{formed_then}
use Rattle.store_core.proofs.Quieted.{quiet_on}
use Rattle.store_core.proofs.Core.bring.Goals as goal

pub returns-in-Ok-hold-clause-ok : goal.returns-in-Ok-hold-clause-ok
returns-in-Ok-hold-clause-ok g c = quiet_on (once c.args.page) _ _ _ _ c.fetch.new.self _ c.fetch.ensures.quiet (c.in-Ok-hold.ensures.ok _)

pub returns-in-Err-hold-clause-err : goal.returns-in-Err-hold-clause-err
returns-in-Err-hold-clause-err g c = quiet_on none _ _ _ _ c.fetch.new.self _ c.fetch.ensures.quiet (c.in-Err-hold.ensures.err _)

pub returns-in-Ok-hold-clause-formed : goal.returns-in-Ok-hold-clause-formed
returns-in-Ok-hold-clause-formed g c none_ = formed_then c.args.self.now c.fetch.new.self c.hold.new.self (c.in-Ok-hold.ensures.ok (g.D.Device.seen c.fetch.new.device)).rest.shape c.hold.ensures.same (c.fetch.ensures.formed none_)

pub returns-in-Err-hold-clause-formed : goal.returns-in-Err-hold-clause-formed
returns-in-Err-hold-clause-formed g c none_ = formed_then c.args.self.now c.fetch.new.self c.hold.new.self (c.in-Err-hold.ensures.err (g.D.Device.seen c.fetch.new.device)).rest.shape c.hold.ensures.same (c.fetch.ensures.formed none_)
