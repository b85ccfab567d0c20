use Rattle.conclusions.proofs.Crashes.{crash_fit, reads_allowed}
use Rattle.conclusions.proofs.crash.blocks_after_two_crashes.Goals as goal

pub returns-clause-first : goal.returns-clause-first
returns-clause-first g c = λ is.
    reads_allowed c.crash_reads_a_content.ensures (g.D.Device.seen c.args.device.now) (g.D.Device.seen c.serve-first.new.device) (g.S.Source.seen c.args.source.now) _ (g.K.Sink.seen c.args.sink.now) (g.K.Sink.seen c.serve-first.new.sink)
    c.requires.device c.requires.fit c.requires.log c.requires.source (c.serve-first.ensures.done is)

pub returns-clause-second : goal.returns-clause-second
returns-clause-second g c = λ is few left.
    let d = g.D.Device.seen c.args.device.now in
    let d' = g.D.Device.seen c.serve-first.new.device in
    let e = g.L.Device.seen c.args.later.now in
    let good = crash_fit c.serve-first.result d d' (g.S.Source.seen c.args.source.now) (g.S.Source.seen c.serve-first.new.source) (g.K.Sink.seen c.args.sink.now) (g.K.Sink.seen c.serve-first.new.sink)
    c.requires.device c.requires.fit c.requires.log few c.serve-first.ensures.session e.state.fixed left in
    reads_allowed c.crash_reads_a_content.ensures e (g.L.Device.seen c.serve-second.new.device) (g.T.Source.seen c.args.next.now) _ (g.M.Sink.seen c.args.report.now) (g.M.Sink.seen c.serve-second.new.sink)
    c.requires.later good c.requires.later_log c.requires.next (c.serve-second.ensures.done is)
