use Rattle.std.proofs.Common.{sym, subst, refl, Err}
use Rattle.page_device.specs.Block.{Block}
use Rattle.trace_text.specs.declared.reply.Reply.{Reply}
use Rattle.trace_text.specs.declared.command.Command.TheVariants.{Write}
use Rattle.array_model.specs.Array.{gained, maps, writes_one}
use Rattle.dedup_writer.specs.Core.{shape_in}
use Rattle.dedup_writer.specs.Calls.{Called}
use Rattle.session.specs.Answers.{at, Commanded}
use Rattle.session.proofs.Done.{write_done, write_refused, is_range}
use Rattle.session.proofs.turns.write_numbered.Goals as goal

pub returns-in-Ok-clause-done : goal.returns-in-Ok-clause-done
returns-in-Ok-clause-done g c =
    let d0 = g.D.Device.seen c.args.device.now in
    let d1 = g.D.Device.seen c.write.new.device in
    let c0 = c.args.store.now in
    let c1 = c.write.new.self in
    write_done (at c0 d0) (at c1 d1) c.in-Ok.ensures.pages c.args.block c.args.number (λ past. cc (c.in-Ok.ensures.range past))
    (subst (λ (b : Block). Called c0 c1 d0 d1 (λ a. gained a c.args.block b (maps (shape_in c0).version b)) (λ _. writes_one c.args.block b)) c.numbered.ensures c.in-Ok.ensures.call)

pub returns-in-Err-clause-done : goal.returns-in-Err-clause-done
returns-in-Err-clause-done g c =
    let d0 = g.D.Device.seen c.args.device.now in
    let d1 = g.D.Device.seen c.write.new.device in
    let c0 = c.args.store.now in
    let c1 = c.write.new.self in
    subst (λ (r : Reply). Commanded (Write c.args.block c.args.number) r (at c0 d0) (at c1 d1)) (sym c.refused.ensures)
    (write_refused (at c0 d0) (at c1 d1) c.in-Err.ensures.pages c.args.block c.args.number c.in-Err.why c.in-Err.ensures.cause c.in-Err.ensures.quiet (λ past. is_range (Err c.in-Err.why) c.in-Err.why refl (c.in-Err.ensures.range past))
    (subst (λ (b : Block). Called c0 c1 d0 d1 (λ a. a) (λ _. writes_one c.args.block b)) c.numbered.ensures c.in-Err.ensures.call))
