use Rattle.engine_model.proofs.draining.a_drain.Goals as goal
use Rattle.engine_model.proofs.Drains.{first_round, round_blocked, round_keeps, round_leaves, round_room, second_round}

pub returns : goal.returns
returns c = record {
  kept = round_keeps;
  blocked = round_blocked;
  leaves = round_leaves;
  room = λ lay top total m n x. round_room total lay top m n x;
  first = first_round;
  second = second_round;
}
