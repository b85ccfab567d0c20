use Rattle.session.proofs.Flats.{memory_flat}
use Rattle.session.proofs.Stops.{forgotten_flat}
use Rattle.session.proofs.laws.memory_session.Goals as goal

pub returns-clause-done : goal.returns-clause-done
returns-clause-done c = λ d e source source2 sink sink2 h. forgotten_flat d e source source2 sink sink2 h

pub returns-clause-put : goal.returns-clause-put
returns-clause-put c = λ d e source source2 sink sink2 h. memory_flat d e source source2 sink sink2 h
