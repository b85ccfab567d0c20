use Rattle.engine_model.proofs.postponed.second_flush.Goals as goal
use Rattle.engine_model.proofs.Flushes.{second_flush_leaves}

pub returns : goal.returns
returns c = record {
  nothing = λ lay top sound apart m n o ns k clean first run done second. second_flush_leaves lay top sound apart m n o ns k clean first run done second;
}
