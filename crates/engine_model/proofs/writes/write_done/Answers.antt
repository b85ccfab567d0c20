use Rattle.engine_model.proofs.writes.write_done.Goals as goal
use Rattle.engine_model.proofs.Births.{done_births}
use Rattle.engine_model.proofs.DeviceMoves.{page_written_is, page_written_kept, page_written_moves}
use Rattle.engine_model.proofs.Pool.{written_knows}
use Rattle.engine_model.proofs.PoolExact.{written_exact}
use Rattle.engine_model.proofs.Schedule.{step_keeps}
use Rattle.engine_model.proofs.Write.{write_done_keeps}
use Rattle.engine_model.proofs.WriteContents.{done_contents}
use Rattle.engine_model.specs.Schedule.{WriteDone}

pub returns : goal.returns
returns c = record {
  counts = write_done_keeps;
  contents = done_contents;
  births = done_births;
  pool = written_knows;
  pool_is_exact = written_exact;
  whole = λ lay top sound apart m n k page t s e calls pool. step_keeps lay top sound apart m n k (WriteDone page t s e calls pool);
  made = λ lay w page ready. (page_written_is lay w page ready, page_written_moves lay w page);
  kept = λ lay top sound apart m k page ready. page_written_kept lay top sound apart m k page ready;
}
