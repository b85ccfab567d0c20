use Rattle.engine_model.proofs.editing.edits.Goals as goal
use Rattle.engine_model.proofs.Births.{edited_births}
use Rattle.engine_model.proofs.EditContents.{edit_contents}
use Rattle.engine_model.proofs.Edits.{edits_keep}
use Rattle.engine_model.proofs.Pool.{taken_knows, zeroed_knows}
use Rattle.engine_model.proofs.PoolExact.{edited_exact}
use Rattle.engine_model.proofs.Whole.{edits_keep_all, told_pool_knows}

pub returns : goal.returns
returns c = record {
  counts = edits_keep;
  contents = edit_contents;
  births = edited_births;
  pool = told_pool_knows;
  pool_taken = taken_knows;
  pool_zeroed = zeroed_knows;
  pool_is_exact = edited_exact;
  whole = edits_keep_all;
}
