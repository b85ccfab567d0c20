use Rattle.session.proofs.Stops.{source_flat, limit_flat}
use Rattle.session.proofs.laws.stopped_session.Goals as goal

pub returns-clause-source : goal.returns-clause-source
returns-clause-source c = λ d e source source2 sink sink2 h. source_flat d e source source2 sink sink2 h

pub returns-clause-limit : goal.returns-clause-limit
returns-clause-limit c = λ d e source source2 sink sink2 h. limit_flat d e source source2 sink sink2 h
