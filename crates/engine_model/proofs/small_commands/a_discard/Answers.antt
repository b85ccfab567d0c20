use Rattle.engine_model.proofs.small_commands.a_discard.Goals as goal
use Rattle.engine_model.proofs.SmallDiscard.{discard_frame, discard_keeps, discards}
use Rattle.engine_model.specs.Schedule.{Discard}

pub returns : goal.returns
returns c = record {
  composed = discards;
  frame = discard_frame;
  kept = discard_keeps;
  step = λ lay top m n l o x. Discard l o x.discarded x.data_kept x.gains x.births x.pool;
}
