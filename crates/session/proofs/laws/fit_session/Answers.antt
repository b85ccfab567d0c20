use Rattle.session.proofs.Flats.{fit_flat}
use Rattle.session.proofs.laws.fit_session.Goals as goal

pub returns : goal.returns
returns c = λ status d e source source2 sink sink2 honest tells good h. fit_flat d e source source2 sink sink2 status honest tells good h
