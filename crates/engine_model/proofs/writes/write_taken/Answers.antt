use Rattle.engine_model.proofs.writes.write_taken.Goals as goal
use Rattle.engine_model.proofs.Births.{failed_births}
use Rattle.engine_model.proofs.DeviceMoves.{page_taken_is, page_taken_keeps, page_taken_kept}
use Rattle.engine_model.proofs.Pool.{failed_knows}
use Rattle.engine_model.proofs.Schedule.{step_keeps}
use Rattle.engine_model.proofs.Write.{write_taken_keeps}
use Rattle.engine_model.proofs.WriteContents.{taken_contents}
use Rattle.engine_model.specs.Schedule.{WriteTaken}

pub returns : goal.returns
returns c = record {
  counts = write_taken_keeps;
  contents = taken_contents;
  births = failed_births;
  pool = failed_knows;
  whole = λ lay top sound apart m n k page t s e calls pool. step_keeps lay top sound apart m n k (WriteTaken page t s e calls pool);
  made = λ w page ready. (page_taken_is w page ready, page_taken_keeps w page);
  kept = λ lay top sound apart m k page ready. page_taken_kept lay top sound apart m k page ready;
}
