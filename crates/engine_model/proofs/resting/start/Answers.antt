use Rattle.engine_model.proofs.resting.start.Goals as goal
use Rattle.engine_model.proofs.AtRest.{start, start_contents}
use Rattle.engine_model.proofs.Births.{start_births}
use Rattle.engine_model.proofs.Pool.{start_knows}
use Rattle.engine_model.proofs.PoolExact.{start_exact}
use Rattle.engine_model.proofs.Scans.{session_start}

pub returns : goal.returns
returns c = record {
  counts = start;
  contents = start_contents;
  births = start_births;
  pool = start_knows;
  pool_is_exact = start_exact;
  whole = session_start;
}
