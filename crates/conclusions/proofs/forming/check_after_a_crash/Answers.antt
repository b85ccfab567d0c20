use Rattle.std.proofs.Common.{◌≡◌, arith}
use Rattle.cli_words.specs.declared.jobs.Job.TheVariants as job
use Rattle.session.specs.declared.status.Status.TheVariants.{SinkFault}
use Rattle.conclusions.proofs.Partway.{crash_partway, part_is_told}
use Rattle.conclusions.proofs.forming.check_after_a_crash.Goals as goal

pub returns : goal.returns
returns g c = λ few left calm sink_calm.
    let d = g.D.Device.seen c.args.device.now in
    let d' = g.D.Device.seen c.run-first.new.device in
    let e = g.L.Device.seen c.args.later.now in
    let e' = g.L.Device.seen c.run-second.new.device in
    let source = g.S.Source.seen c.args.source.now in
    let source' = g.S.Source.seen c.run-first.new.source in
    let source2 = g.S.Source.seen c.run-second.new.source in
    let sink = g.K.Sink.seen c.args.sink.now in
    let sink' = g.K.Sink.seen c.run-first.new.sink in
    let report = g.M.Sink.seen c.args.report.now in
    let report' = g.M.Sink.seen c.run-second.new.sink in
    let partway = crash_partway c.run-first.result d d' source source' sink sink' c.requires.honest c.requires.pages c.requires.log few (c.run-first.ensures.outcome.done (job.Format 4 4) c.requires.making) e.state.fixed left in
    let done = c.run-second.ensures.outcome.done job.Check c.requires.checking in
    let never : c.run-second.result ≡ SinkFault → ⊥ = λ is. omega (arith, sink_calm.0, c.run-second.ensures.sink_cause is sink_calm.1) in
    part_is_told c.run-second.result e e' source' source2 report report' c.requires.later calm c.requires.report never c.images_weaken.ensures.sound _ partway.is done
