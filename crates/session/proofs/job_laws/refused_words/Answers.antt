use Rattle.std.proofs.Common.{⊎_elim, inl, inr}
use Rattle.session.proofs.Jobs.{refused_or_none, unbuilt_refuses}
use Rattle.session.proofs.job_laws.refused_words.Goals as goal

pub returns-clause-meaningless : goal.returns-clause-meaningless
returns-clause-meaningless c = λ words status d e source source2 sink sink2 outcome none. refused_or_none d e source source2 sink sink2 status (outcome.refused none)

pub returns-clause-unbuilt : goal.returns-clause-unbuilt
returns-clause-unbuilt c = λ words j status d e source source2 sink sink2 outcome means other.
    refused_or_none d e source source2 sink sink2 status (⊎_elim (λ n. inl n) (λ done. inr (unbuilt_refuses d e source source2 sink sink2 j status other done)) (outcome.done j means))
