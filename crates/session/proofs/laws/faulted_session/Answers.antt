use Rattle.session.proofs.Stops.{fault_flat}
use Rattle.session.proofs.laws.faulted_session.Goals as goal

pub returns : goal.returns
returns c = λ d e source source2 sink sink2 h. fault_flat d e source source2 sink sink2 h
