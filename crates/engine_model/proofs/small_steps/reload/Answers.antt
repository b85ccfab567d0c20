use Rattle.engine_model.proofs.small_steps.reload.Goals as goal
use Rattle.engine_model.proofs.Same.{same_is}
use Rattle.engine_model.proofs.Schedule.{step_keeps}
use Rattle.engine_model.specs.Counts.{CountsInvariant}
use Rattle.engine_model.specs.Schedule.{Unchanged}
use Rattle.std.proofs.Common.{subst, sym}

pub returns : goal.returns
returns c = record {
  counts = λ lay top w v old s. subst (λ x. CountsInvariant lay top x) (sym (same_is w v s)) old;
  whole = λ lay top sound apart m n k same e calls pool. step_keeps lay top sound apart m n k (Unchanged same e calls pool);
}
