use Rattle.cli_words.specs.declared.jobs.Job.TheVariants as job
use Rattle.session.proofs.job_laws.formatting_of_words.Goals as goal

pub returns : goal.returns
returns c = λ words blocks pages status d e source source2 sink sink2 outcome means. outcome.done (job.Format blocks pages) means
