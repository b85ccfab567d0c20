use Rattle.engine_model.proofs.postponed.postponed_where_blocked.Goals as goal
use Rattle.engine_model.proofs.Corollaries.{drained_stages}
use Rattle.engine_model.proofs.Passes.{drained_pass, drained_twice, pass_leaves}
use Rattle.std.proofs.Common.{refl}

pub returns : goal.returns
returns c = record {
  blocked = λ lay top sound apart m n k p. pass_leaves lay top sound apart m n _ _ k refl (λ r is. absurd is) p;
  emptied = λ lay top sound apart m n k none p. drained_pass lay top sound apart m n k (λ a. (none a).0) p;
  drained = λ lay top sound apart m n ns k none p r. drained_twice lay top sound apart m n ns k none p r;
  stages = drained_stages;
}
