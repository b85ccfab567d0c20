use Rattle.engine_model.proofs.small_commands.a_fresh_write.Goals as goal
use Rattle.engine_model.proofs.FreshWrite.{fresh_frame, fresh_keeps, fresh_writes}
use Rattle.engine_model.specs.Schedule.{Write}

pub returns : goal.returns
returns c = record {
  composed = fresh_writes;
  frame = fresh_frame;
  kept = fresh_keeps;
  step = λ lay top m n l o p content x. Write l o p content x.renamed x.page x.gains x.births x.pool;
}
