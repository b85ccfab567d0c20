use Rattle.conclusions.proofs.Crashes.{crash_fit}
use Rattle.conclusions.proofs.crash.crash_leaves_a_fit_image.Goals as goal

pub returns : goal.returns
returns g c = λ few.
    crash_fit c.serve.result (g.D.Device.seen c.args.device.now) (g.D.Device.seen c.serve.new.device) (g.S.Source.seen c.args.source.now) (g.S.Source.seen c.serve.new.source) (g.K.Sink.seen c.args.sink.now) (g.K.Sink.seen c.serve.new.sink)
    c.requires.device c.requires.fit c.requires.log few c.serve.ensures.session
