use Rattle.std.proofs.Common.{⊎_elim, inl, inr, refl}
use Rattle.cli_words.specs.declared.jobs.Job.TheVariants as job
use Rattle.session.proofs.laws.session_of_words.Goals as goal

pub returns : goal.returns
returns c = λ words cache status d e source source2 sink sink2 outcome means. ⊎_elim (λ none. inl none) (λ done. inr (done.0 refl)) (outcome.done (job.Trace cache 0) means)
