use Rattle.flush_engine.proofs.HoldLemmas.{hold_turns}
use Rattle.flush_engine.proofs.laws.hold_writes_nothing.Goals as goal

pub returns : goal.returns
returns g c = λ result old new a b hold turn. let h = hold_turns g.W.Watch.told result old a new b hold turn in (h.0, h.1.0, h.1.1)
