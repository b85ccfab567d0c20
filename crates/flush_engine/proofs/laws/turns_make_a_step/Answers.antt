use Rattle.flush_engine.proofs.PickLemmas.{failed_turn, last_turn, turn_before}
use Rattle.flush_engine.proofs.laws.turns_make_a_step.Goals as goal

pub returns : goal.returns
returns g c = record { last = last_turn g.W.Watch.told; failed = failed_turn g.W.Watch.told; more = turn_before g.W.Watch.told }
