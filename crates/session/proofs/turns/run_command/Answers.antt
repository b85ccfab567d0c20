use Rattle.std.proofs.Common.{refl, sym, subst}
use Rattle.trace_text.specs.declared.reply.Reply.TheVariants as reply
use Rattle.trace_text.specs.declared.command.Command.TheVariants.{Write, Fill, Discard, Read, Flush, Stat, Policy, Tune, Tick}
use Rattle.trace_text.specs.declared.reply.Stat.{Stat as Numbers}
use Rattle.session.specs.Answers.{at, Commanded}
use Rattle.session.proofs.Done.{runs_built, tune_done, tick_done, stat_done, policy_done}
use Rattle.session.proofs.turns.run_command.Goals as goal

pub returns-in-Write-clause-done : goal.returns-in-Write-clause-done
returns-in-Write-clause-done g c =
    runs_built c.args.command.now _ c.write_numbered.result (at c.args.store.now (g.D.Device.seen c.args.device.now)) (at c.write_numbered.new.store (g.D.Device.seen c.write_numbered.new.device)) c.in-Write.is refl c.write_numbered.ensures.done

pub returns-in-Fill-clause-done : goal.returns-in-Fill-clause-done
returns-in-Fill-clause-done g c =
    runs_built c.args.command.now _ c.fill_block.result (at c.args.store.now (g.D.Device.seen c.args.device.now)) (at c.fill_block.new.store (g.D.Device.seen c.fill_block.new.device)) c.in-Fill.is refl c.fill_block.ensures.done

pub returns-in-Discard-clause-done : goal.returns-in-Discard-clause-done
returns-in-Discard-clause-done g c =
    runs_built c.args.command.now _ c.discard_block.result (at c.args.store.now (g.D.Device.seen c.args.device.now)) (at c.discard_block.new.store (g.D.Device.seen c.discard_block.new.device)) c.in-Discard.is refl c.discard_block.ensures.done

pub returns-in-Read-clause-done : goal.returns-in-Read-clause-done
returns-in-Read-clause-done g c =
    runs_built c.args.command.now _ c.read_block.result (at c.args.store.now (g.D.Device.seen c.args.device.now)) (at c.read_block.new.store (g.D.Device.seen c.read_block.new.device)) c.in-Read.is refl c.read_block.ensures.done

pub returns-in-Flush-clause-done : goal.returns-in-Flush-clause-done
returns-in-Flush-clause-done g c =
    runs_built c.args.command.now _ c.flush_all.result (at c.args.store.now (g.D.Device.seen c.args.device.now)) (at c.flush_all.new.store (g.D.Device.seen c.flush_all.new.device)) c.in-Flush.is refl c.flush_all.ensures.done

pub returns-in-Stat-clause-done : goal.returns-in-Stat-clause-done
returns-in-Stat-clause-done g c =
    let m = at c.args.store.now (g.D.Device.seen c.args.device.now) in
    runs_built c.args.command.now (Stat) (reply.Stat c.stat.result) m m c.in-Stat.is refl (subst (λ (s : Numbers). Commanded Stat (reply.Stat s) m m) (sym c.stat.ensures) (stat_done m))

pub returns-in-Policy-clause-done : goal.returns-in-Policy-clause-done
returns-in-Policy-clause-done g c =
    let m = at c.args.store.now (g.D.Device.seen c.args.device.now) in
    runs_built c.args.command.now (Policy c.in-Policy.label) (reply.NoPolicy) m m c.in-Policy.is refl (policy_done m c.in-Policy.label)

pub returns-in-Tune-clause-done : goal.returns-in-Tune-clause-done
returns-in-Tune-clause-done g c =
    let m = at c.args.store.now (g.D.Device.seen c.args.device.now) in
    runs_built c.args.command.now (Tune c.in-Tune.n) (reply.Done) m m c.in-Tune.is refl (tune_done m c.in-Tune.n)

pub returns-in-Tick-clause-done : goal.returns-in-Tick-clause-done
returns-in-Tick-clause-done g c =
    let m = at c.args.store.now (g.D.Device.seen c.args.device.now) in
    runs_built c.args.command.now (Tick) (reply.Done) m m c.in-Tick.is refl (tick_done m)
