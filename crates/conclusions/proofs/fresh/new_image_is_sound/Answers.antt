use Rattle.std.proofs.Common.{◌≡◌, ◌⊎◌, ◌∙◌, ◌++◌, ℕ, List, ap, subst}
use Rattle.cli_words.specs.declared.jobs.Job.TheVariants as job
use Rattle.trace_text.specs.Texts.{sound_line}
use Rattle.session.specs.declared.status.Status.{Status}
use Rattle.session.specs.Run.{NoneDone, FormatOutcome, CheckOutcome, new_shape}
use Rattle.conclusions.proofs.Formats.{fresh_from}
use Rattle.conclusions.proofs.Checks.{new_is_sound}
use Rattle.conclusions.proofs.fresh.new_image_is_sound.Goals as goal

pub returns : goal.returns
returns g c = λ made is.
    let d0 = g.D.Device.seen c.args.device.now in
    let d = g.D.Device.seen c.run-first.new.device in
    let d' = g.D.Device.seen c.run-second.new.device in
    let source0 = g.S.Source.seen c.args.source.now in
    let source = g.S.Source.seen c.run-first.new.source in
    let source' = g.S.Source.seen c.run-second.new.source in
    let sink0 = g.K.Sink.seen c.args.sink.now in
    let sink = g.K.Sink.seen c.run-first.new.sink in
    let sink' = g.K.Sink.seen c.run-second.new.sink in
    let f = fresh_from 4 4 d0 d source0 source sink0 sink c.requires.honest c.requires.pages
    (subst (λ (status : Status). NoneDone status d0 d source0 source sink0 sink ⊎ (FormatOutcome (new_shape 4 4) status d0 d sink0 sink × (source ≡ source0))) made (c.run-first.ensures.outcome.done (job.Format 4 4) c.requires.making)) in
    let put = new_is_sound d d' source source' sink sink' f.0.ready f.0.image
    (subst (λ (status : Status). NoneDone status d d' source source' sink sink' ⊎ (CheckOutcome status d d' sink sink' × (source' ≡ source))) is (c.run-second.ensures.outcome.done job.Check c.requires.checking)) in
    put.held (f.0.put.tells ∙ c.requires.sink) ∙ ap (λ (l : List ℕ). l ++ sound_line 0) (f.0.put.held c.requires.sink)
