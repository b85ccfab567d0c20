use Rattle.engine_model.proofs.bridges.disk_steps.Goals as goal
use Rattle.engine_model.proofs.OverDisks.{flush_fixes, image_over, write_is_taken}

pub returns : goal.returns
returns c = record {
  taken = λ d w v page before after ready cached. write_is_taken d w v page before after ready cached;
  fixed = flush_fixes;
  image = image_over;
}
