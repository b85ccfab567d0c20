use Rattle.engine_model.proofs.small_commands.one_step_commands.Goals as goal
use Rattle.engine_model.proofs.GivenUp.{given_up_is}
use Rattle.engine_model.proofs.Same.{same_self}
use Rattle.engine_model.specs.Schedule.{DiscardAgain, DropData, WriteAgain}
use Rattle.std.proofs.Common.{refl}

pub returns : goal.returns
returns c = record {
  same_write = λ lay top m l p d is array gain. WriteAgain l p d is (same_self m.world) gain refl (λ q. refl);
  empty_discard = λ lay top m l none array gain. DiscardAgain l none (same_self m.world) gain refl (λ q. refl);
  gives_up = λ lay top m p d zero. DropData p (given_up_is lay m.world p d zero) (λ l. refl) refl (λ q. refl);
}
