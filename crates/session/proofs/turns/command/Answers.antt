use Rattle.session.specs.Answers.{at}
use Rattle.session.proofs.Done.{one_command, bad_done}
use Rattle.session.proofs.turns.command.Goals as goal

pub returns-in-Ok-clause-done : goal.returns-in-Ok-clause-done
returns-in-Ok-clause-done g c =
    one_command c.args.line.now c.in-Ok.asked c.run_command.result (at c.args.store.now (g.D.Device.seen c.args.device.now)) (at c.run_command.new.store (g.D.Device.seen c.run_command.new.device))
    c.in-Ok.ensures.read (λ other is. cc (c.in-Ok.ensures.only other is)) c.run_command.ensures.done

pub returns-in-Err-clause-done : goal.returns-in-Err-clause-done
returns-in-Err-clause-done g c = bad_done (at c.args.store.now (g.D.Device.seen c.args.device.now)) c.args.line.now (λ other _ is. c.in-Err.ensures.bad other is)
