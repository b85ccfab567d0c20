use Rattle.session.specs.declared.status.Status.TheVariants.{NotFormatted, Unsound}
use Rattle.session.proofs.Stops.{refused_flat}
use Rattle.session.proofs.laws.refused_session.Goals as goal

pub returns-clause-unformatted : goal.returns-clause-unformatted
returns-clause-unformatted c = λ d e source source2 sink sink2 h. refused_flat d e source source2 sink sink2 NotFormatted (λ is. cc is) (λ is. cc is) (λ ends. ends) h

pub returns-clause-unsound : goal.returns-clause-unsound
returns-clause-unsound c = λ found d e source source2 sink sink2 h. refused_flat d e source source2 sink sink2 (Unsound found) (λ is. cc is) (λ is. cc is) (λ ends. ends) h
