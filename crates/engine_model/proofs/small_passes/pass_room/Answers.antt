use Rattle.engine_model.proofs.small_passes.pass_room.Goals as goal
use Rattle.engine_model.proofs.PassRoom as rooms
use Rattle.std.proofs.Common.{refl}

pub returns : goal.returns
returns c = record { kept = λ lay total m n p. rooms.pass_room total lay m n _ _ refl p }
