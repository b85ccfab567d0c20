use Rattle.std.proofs.Common.{refl, sym, subst}
use Rattle.cli_words.specs.declared.jobs.Job.{Job}
use Rattle.session.specs.Run.{JobOutcome}
use Rattle.session.proofs.program.run_job.Goals as goal

pub returns-in-Format-clause-outcome : goal.returns-in-Format-clause-outcome
returns-in-Format-clause-outcome g c =
    let source = g.S.Source.seen c.args.source.now in
    subst (λ (j : Job). JobOutcome j c.format_image.result (g.D.Device.seen c.args.device.now) (g.D.Device.seen c.format_image.new.device) source source (g.K.Sink.seen c.args.sink.now) (g.K.Sink.seen c.format_image.new.sink)) (sym c.in-Format.is)
    (c.format_image.ensures.outcome, refl)
