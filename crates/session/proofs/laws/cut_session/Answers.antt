use Rattle.session.proofs.Cuts.{cut_flat}
use Rattle.session.proofs.laws.cut_session.Goals as goal

pub returns : goal.returns
returns c = λ d e source source2 sink sink2 h. cut_flat d e source source2 sink sink2 h
