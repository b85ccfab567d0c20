use Rattle.std.proofs.Common.{map, subst}
use Rattle.std.specs.String.{string_bytes}
use Rattle.session.specs.declared.status.Status.{Status}
use Rattle.session.specs.Flat.{Session}
use Rattle.conclusions.proofs.words.serve.Goals as goal

pub returns-clause-session : goal.returns-clause-session
returns-clause-session g c = c.session_of_words.ensures (map string_bytes c.args.words.now) 512 c.run.result (g.D.Device.seen c.args.device.now) (g.D.Device.seen c.run.new.device) (g.S.Source.seen c.args.source.now) (g.S.Source.seen c.run.new.source)
    (g.K.Sink.seen c.args.sink.now) (g.K.Sink.seen c.run.new.sink) c.run.ensures.outcome c.requires

pub returns-clause-done : goal.returns-clause-done
returns-clause-done g c = λ is.
    let d = g.D.Device.seen c.args.device.now in
    let d' = g.D.Device.seen c.run.new.device in
    let source = g.S.Source.seen c.args.source.now in
    let source' = g.S.Source.seen c.run.new.source in
    let sink = g.K.Sink.seen c.args.sink.now in
    let sink' = g.K.Sink.seen c.run.new.sink in
    c.done_session.ensures d d' source source' sink sink' (subst (λ (status : Status). Session status d d' source source' sink sink') is (returns-clause-session g c))

pub returns-clause-cut : goal.returns-clause-cut
returns-clause-cut g c = λ is.
    let d = g.D.Device.seen c.args.device.now in
    let d' = g.D.Device.seen c.run.new.device in
    let source = g.S.Source.seen c.args.source.now in
    let source' = g.S.Source.seen c.run.new.source in
    let sink = g.K.Sink.seen c.args.sink.now in
    let sink' = g.K.Sink.seen c.run.new.sink in
    c.cut_session.ensures d d' source source' sink sink' (subst (λ (status : Status). Session status d d' source source' sink sink') is (returns-clause-session g c))
