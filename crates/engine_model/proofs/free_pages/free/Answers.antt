use Rattle.engine_model.proofs.free_pages.free.Goals as goal
use Rattle.engine_model.proofs.Pool.{pool_free}
use Rattle.engine_model.proofs.PoolExact.{free_exact}

pub returns : goal.returns
returns c = record {
  free = pool_free;
  lowest = λ lay w pool p knows is. pool_free lay w (pool p) p (knows p is.is_data) is.free;
  every_free = free_exact;
  whole = λ lay top sound m k p d f. pool_free lay m.world (m.pool p) p (k.pool_knows_counts p d) f;
}
