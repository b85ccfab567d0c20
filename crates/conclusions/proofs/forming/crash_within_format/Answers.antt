use Rattle.cli_words.specs.declared.jobs.Job.TheVariants as job
use Rattle.conclusions.proofs.Partway.{crash_partway}
use Rattle.conclusions.proofs.forming.crash_within_format.Goals as goal

pub returns : goal.returns
returns g c = λ few.
    crash_partway c.run.result (g.D.Device.seen c.args.device.now) (g.D.Device.seen c.run.new.device) (g.S.Source.seen c.args.source.now) (g.S.Source.seen c.run.new.source) (g.K.Sink.seen c.args.sink.now) (g.K.Sink.seen c.run.new.sink)
    c.requires.honest c.requires.pages c.requires.log few (c.run.ensures.outcome.done (job.Format 4 4) c.requires.making)
