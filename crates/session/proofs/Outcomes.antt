-- The outcome of the program, by what its words mean.
use Rattle.std.proofs.Common.{◌≡◌, inl, inr, ℕ, List, refl, subst}
use Rattle.byte_ports.specs.Source.{SourceMeaning}
use Rattle.byte_ports.specs.Sink.{SinkMeaning}
use Rattle.page_device.specs.Meaning.{Meaning}
use Rattle.cli_words.specs.Grammar.{Means}
use Rattle.cli_words.specs.declared.jobs.Job.{Job}
use Rattle.session.specs.declared.status.Status.{Status}
use Rattle.session.specs.declared.status.Status.TheVariants.{Usage, NoMemory}
use Rattle.session.specs.Endings.{LastPut}
use Rattle.session.specs.Run.{JobOutcome, NoneDone, Outcome}

-- the words mean this job alone, and it was done
pub job_done : (words : List (List ℕ)) (job : Job) (status : Status) (d d' : Meaning) (source source' : SourceMeaning) (sink sink' : SinkMeaning) → Means words job → ((other : Job) → Means words other → job ≡ other)
    → JobOutcome job status d d' source source' sink sink' → Outcome words status d d' source source' sink sink'
job_done words job status d d' source source' sink sink' means only done = record {
  done = λ other other_means. inr (subst (λ (j : Job). JobOutcome j status d d' source source' sink sink') (only other other_means) done);
  refused = λ none. absurd (none job means);
}

-- the words mean no job, and nothing was done
pub words_refused : (words : List (List ℕ)) (d : Meaning) (source : SourceMeaning) (sink : SinkMeaning) → ((job : Job) → Means words job → ⊥) → Outcome words Usage d d source source sink sink
words_refused words d source sink none = record {
  done = λ job means. absurd (none job means);
  refused = λ _. inr (record { is = refl; same_device = refl; same_source = refl; same_sink = refl });
}

-- there was no memory for the words
pub none_done : (words : List (List ℕ)) (status : Status) (d : Meaning) (source : SourceMeaning) (sink sink' : SinkMeaning) → LastPut NoMemory status sink sink' → Outcome words status d d source source sink sink'
none_done words status d source sink sink' put = record { done = λ _ _. inl none; refused = λ _. inl none }
  where
    none : NoneDone status d d source source sink sink'
    none = record { same_device = refl; same_source = refl; last_line = put }
