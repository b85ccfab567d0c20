use Rattle.engine_model.proofs.small_passes.applied_composes.Goals as goal
use Rattle.engine_model.proofs.AppliedComposes as composes

pub returns : goal.returns
returns c = record {
  lowers = λ lay top sound apart m n r before after k queue x. composes.lowers lay top sound apart m n r before after k queue x;
  drops = λ lay top sound apart m n r before after k queue x. composes.drops lay top sound apart m n r before after k queue x;
}
