use Rattle.engine_model.proofs.small_passes.pass_keeps.Goals as goal
use Rattle.engine_model.proofs.AppliedComposes.{pass_exact}
use Rattle.engine_model.proofs.PassKeeps.{small_pass_keeps}
use Rattle.std.proofs.Common.{refl}

pub returns : goal.returns
returns c = record {
  kept = λ lay top sound apart m n k p. small_pass_keeps lay top sound apart m n _ _ k refl p;
  exact = λ lay top sound apart m n k p q old. pass_exact lay top sound apart m n _ _ k refl p q old;
}
