use Rattle.engine_model.proofs.small_passes.pass_composes.Goals as goal
use Rattle.engine_model.proofs.AppliedComposes as composes
use Rattle.std.proofs.Common.{refl}

pub returns : goal.returns
returns c = record {
  composed = λ lay top sound apart m n k p. composes.pass_composed lay top sound apart m n _ _ k refl p;
  drained = λ lay top sound apart m n o ns k clean first run done second. composes.drained lay top sound apart m n o ns k clean first run done second;
}
