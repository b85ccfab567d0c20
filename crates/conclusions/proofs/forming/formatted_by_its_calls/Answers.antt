use Rattle.std.proofs.Common.{◌≡◌, ℕ, List, length, ap, subst}
use Rattle.page_device.specs.Counts.{Rises}
use Rattle.page_device.specs.declared.device.LogEntry.{LogEntry}
use Rattle.session.specs.declared.status.Status.{Status}
use Rattle.session.specs.Run.{new_shape}
use Rattle.session.specs.Jobs.{Formatting}
use Rattle.conclusions.proofs.Formats.{eight_calls}
use Rattle.conclusions.proofs.forming.formatted_by_its_calls.Goals as goal

pub returns : goal.returns
returns g c = λ is.
    let d = g.D.Device.seen c.args.device.now in
    let d' = g.D.Device.seen c.run.new.device in
    let source = g.S.Source.seen c.args.source.now in
    let source' = g.S.Source.seen c.run.new.source in
    let sink = g.K.Sink.seen c.args.sink.now in
    let sink' = g.K.Sink.seen c.run.new.sink in
    let made = c.formatting_of_words.ensures _ 4 4 c.run.result d d' source source' sink sink' c.run.ensures.outcome c.requires.making in
    let done = c.formatted_device.ensures.done (new_shape 4 4) d d' source source' sink sink' (subst (λ (s : Status). Formatting (new_shape 4 4) s d d' source source' sink sink') is made) in
    (subst (λ (n : ℕ). Rises n d.calls d'.calls) (eight_calls done.image.calls done.image.are) done.image.gains.counted, done.put)
