use Rattle.conclusions.proofs.Crashes.{crash_fit}
use Rattle.conclusions.proofs.crash.crash_after_a_crash.Goals as goal

pub returns : goal.returns
returns g c = λ few left next_few.
    let d = g.D.Device.seen c.args.device.now in
    let d' = g.D.Device.seen c.serve-first.new.device in
    let e = g.L.Device.seen c.args.later.now in
    let e' = g.L.Device.seen c.serve-second.new.device in
    let source = g.S.Source.seen c.args.source.now in
    let source' = g.S.Source.seen c.serve-first.new.source in
    let source2 = g.S.Source.seen c.serve-second.new.source in
    let sink = g.K.Sink.seen c.args.sink.now in
    let sink' = g.K.Sink.seen c.serve-first.new.sink in
    let sink2 = g.K.Sink.seen c.serve-second.new.sink in
    let good = crash_fit c.serve-first.result d d' source source' sink sink' c.requires.device c.requires.fit c.requires.log few c.serve-first.ensures.session e.state.fixed left in
    crash_fit c.serve-second.result e e' source' source2 sink' sink2 c.requires.later good c.requires.later_log next_few c.serve-second.ensures.session
