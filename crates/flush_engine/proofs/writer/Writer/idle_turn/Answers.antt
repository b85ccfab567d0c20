use Rattle.flush_engine.proofs.PickLemmas.{asked_returned, turn_ends}
use Rattle.flush_engine.proofs.writer.Writer.idle_turn.Goals as goal

pub returns-clause-turn : goal.returns-clause-turn
returns-clause-turn g c = turn_ends g.W.Watch.told c.ask_barrier.result _ _ _ _ _ _ c.in-Ok.ensures.picks c.ask_barrier.ensures.ends

pub returns-clause-returned : goal.returns-clause-returned
returns-clause-returned g c = asked_returned g.W.Watch.told c.ask_barrier.result _ _ _ _ _ c.in-Ok.ensures.returned c.ask_barrier.ensures.cause c.ask_barrier.ensures.ends
