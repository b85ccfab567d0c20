use Rattle.std.proofs.Common.{refl}
use Rattle.session.specs.Answers.{at}
use Rattle.session.proofs.Done.{flush_done, flush_refused}
use Rattle.session.proofs.turns.flush_all.Goals as goal

pub returns-in-Ok-clause-done : goal.returns-in-Ok-clause-done
returns-in-Ok-clause-done g c =
    flush_done (at c.args.store.now (g.D.Device.seen c.args.device.now)) (at c.flush.new.self (g.D.Device.seen c.flush.new.device)) c.in-Ok.ensures.pages c.in-Ok.ensures.call.call

pub returns-in-Err-clause-done : goal.returns-in-Err-clause-done
returns-in-Err-clause-done g c =
    flush_refused (at c.args.store.now (g.D.Device.seen c.args.device.now)) (at c.flush.new.self (g.D.Device.seen c.flush.new.device)) c.in-Err.ensures.pages (c.in-Err.ensures.cause.failed refl) c.in-Err.ensures.call.call
