use Rattle.session.proofs.Flats.{done_flat}
use Rattle.session.proofs.laws.done_session.Goals as goal

pub returns : goal.returns
returns c = λ d e source source2 sink sink2 h. done_flat d e source source2 sink sink2 h
