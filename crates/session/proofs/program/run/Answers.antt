use Rattle.std.proofs.Common.{◌≡◌, inl, ℕ, List, Err, refl, ap, subst}
use Rattle.cli_words.specs.Grammar.{Means}
use Rattle.cli_words.specs.declared.jobs.Job.{Job}
use Rattle.cli_words.specs.declared.jobs.Job.TheVariants as job
use Rattle.session.specs.Run.{AsksFor, a_session, an_image, a_check, IsOther}
use Rattle.session.proofs.Outcomes.{job_done, words_refused, none_done}
use Rattle.session.proofs.program.run.Goals as goal

-- words of another job ask for none that is built
unasked : (words : List (List ℕ)) (j : Job) → ((other : Job) → Means words other → j ≡ other) → IsOther j → AsksFor words → ⊥
unasked words j only other (a_session cache means) = let built : IsOther (job.Trace cache 0) = subst IsOther (only (job.Trace cache 0) means) other in built refl
unasked words j only other (an_image blocks pages means) = let built : IsOther (job.Format blocks pages) = subst IsOther (only (job.Format blocks pages) means) other in built
unasked words j only other (a_check means) = let built : IsOther job.Check = subst IsOther (only job.Check means) other in built

meaningless : (words : List (List ℕ)) → ((j : Job) → Means words j → ⊥) → AsksFor words → ⊥
meaningless words none (a_session cache means) = none (job.Trace cache 0) means
meaningless words none (an_image blocks pages means) = none (job.Format blocks pages) means
meaningless words none (a_check means) = none job.Check means

-- a job that is built is asked for, or it is another one
asked : (words : List (List ℕ)) (j : Job) → Means words j → (AsksFor words → ⊥) → IsOther j
asked words (job.Trace cache policy) means none = λ is. none (a_session cache (subst (λ (n : ℕ). Means words (job.Trace cache n)) is means))
asked words (job.Format blocks pages) means none = none (an_image blocks pages means)
asked words job.Check means none = none (a_check means)
asked words (job.Load seed count cache policy) means none = tt
asked words job.Upgrade means none = tt
asked words job.Merge means none = tt
asked words (job.Serve cache policy) means none = tt
asked words (job.Vtrace cache policy) means none = tt

pub returns-in-Ok-clause-usage : goal.returns-in-Ok-clause-usage
returns-in-Ok-clause-usage g c = λ is asks. unasked _ c.in-Ok.job c.in-Ok.ensures.only (c.run_job.ensures.usage is) asks

pub returns-in-Err-Usage-clause-usage : goal.returns-in-Err-Usage-clause-usage
returns-in-Err-Usage-clause-usage g c = λ _ asks. meaningless _ (c.in-Err-Usage.ensures.usage (ap Err c.in-Err-Usage.field-0-is)) asks

pub returns-in-Ok-clause-other_words : goal.returns-in-Ok-clause-other_words
returns-in-Ok-clause-other_words g c = λ none. inl (c.run_job.ensures.other (asked _ c.in-Ok.job c.in-Ok.ensures.ok none))

pub returns-in-Ok-clause-outcome : goal.returns-in-Ok-clause-outcome
returns-in-Ok-clause-outcome g c =
    job_done _ c.in-Ok.job c.run_job.result (g.D.Device.seen c.args.device.now) (g.D.Device.seen c.run_job.new.device) (g.S.Source.seen c.args.source.now) (g.S.Source.seen c.run_job.new.source) (g.K.Sink.seen c.args.sink.now) (g.K.Sink.seen c.run_job.new.sink)
    c.in-Ok.ensures.ok c.in-Ok.ensures.only c.run_job.ensures.outcome

pub returns-in-Err-Usage-clause-outcome : goal.returns-in-Err-Usage-clause-outcome
returns-in-Err-Usage-clause-outcome g c =
    words_refused _ (g.D.Device.seen c.args.device.now) (g.S.Source.seen c.args.source.now) (g.K.Sink.seen c.args.sink.now) (c.in-Err-Usage.ensures.usage (ap Err c.in-Err-Usage.field-0-is))

pub returns-in-Err-NoMemory-clause-outcome : goal.returns-in-Err-NoMemory-clause-outcome
returns-in-Err-NoMemory-clause-outcome g c =
    none_done _ c.end_with.result (g.D.Device.seen c.args.device.now) (g.S.Source.seen c.args.source.now) (g.K.Sink.seen c.args.sink.now) (g.K.Sink.seen c.end_with.new.sink) c.end_with.ensures.put
