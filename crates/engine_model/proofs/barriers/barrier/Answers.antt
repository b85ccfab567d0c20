use Rattle.engine_model.proofs.barriers.barrier.Goals as goal
use Rattle.engine_model.proofs.Barrier.{barrier_keeps}
use Rattle.engine_model.proofs.BarrierContents.{barrier_contents}
use Rattle.engine_model.proofs.Births.{fixed_births}
use Rattle.engine_model.proofs.DeviceMoves.{barrier_made_is, barrier_made_keeps}
use Rattle.engine_model.proofs.Pool.{fixed_knows}
use Rattle.engine_model.proofs.PoolExact.{fixed_exact}
use Rattle.engine_model.proofs.Schedule.{step_keeps}
use Rattle.engine_model.specs.Schedule.{BarrierDone}

pub returns : goal.returns
returns c = record {
  counts = barrier_keeps;
  contents = barrier_contents;
  births = fixed_births;
  pool = fixed_knows;
  pool_is_exact = fixed_exact;
  whole = λ lay top sound apart m n k b e calls pool. step_keeps lay top sound apart m n k (BarrierDone b e calls pool);
  made = barrier_made_is;
  kept = λ lay top sound apart m k. barrier_made_keeps lay top sound apart m k;
}
