use Rattle.session.proofs.Flats.{limit_flat}
use Rattle.session.proofs.laws.limit_session.Goals as goal

pub returns : goal.returns
returns c = λ d e source source2 sink sink2 tells h. limit_flat d e source source2 sink sink2 tells h
