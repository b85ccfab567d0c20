use Rattle.std.proofs.Common.{sym, subst, refl, Err}
use Rattle.trace_text.specs.declared.reply.Reply.{Reply}
use Rattle.trace_text.specs.declared.command.Command.TheVariants.{Read}
use Rattle.session.specs.Answers.{at, Commanded}
use Rattle.session.proofs.Done.{read_done, read_refused, is_range}
use Rattle.session.proofs.turns.read_block.Goals as goal

pub returns-in-Ok-clause-done : goal.returns-in-Ok-clause-done
returns-in-Ok-clause-done g c =
    read_done (at c.args.store.now (g.D.Device.seen c.args.device.now)) (at c.read.new.self (g.D.Device.seen c.read.new.device)) c.in-Ok.ensures.pages c.args.block c.read.new.into (λ past. cc (c.in-Ok.ensures.range past)) c.in-Ok.ensures.bytes c.in-Ok.ensures.call

pub returns-in-Err-clause-done : goal.returns-in-Err-clause-done
returns-in-Err-clause-done g c =
    let from = at c.args.store.now (g.D.Device.seen c.args.device.now) in
    let to = at c.read.new.self (g.D.Device.seen c.read.new.device) in
    subst (λ (r : Reply). Commanded (Read c.args.block) r from to) (sym c.refused.ensures)
    (read_refused from to c.in-Err.ensures.pages c.args.block c.in-Err.why c.in-Err.ensures.cause c.in-Err.ensures.quiet (λ past. is_range (Err c.in-Err.why) c.in-Err.why refl (c.in-Err.ensures.range past)) c.in-Err.ensures.call)
