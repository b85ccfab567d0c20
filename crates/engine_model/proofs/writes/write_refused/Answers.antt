use Rattle.engine_model.proofs.writes.write_refused.Goals as goal
use Rattle.engine_model.proofs.Births.{tried_births}
use Rattle.engine_model.proofs.DeviceMoves.{page_refused_kept}
use Rattle.engine_model.proofs.Pool.{tried_knows}
use Rattle.engine_model.proofs.Schedule.{step_keeps}
use Rattle.engine_model.specs.Schedule.{WriteRefused}

pub returns : goal.returns
returns c = record {
  births = tried_births;
  pool = λ lay w page pool p old. tried_knows lay w w page pool p old;
  whole = λ lay top sound apart m n k page w e calls pool. step_keeps lay top sound apart m n k (WriteRefused page w e calls pool);
  kept = λ lay top sound apart m k page. page_refused_kept lay top sound apart m k page;
}
