use Rattle.store_core.proofs.MomentStands.{keeps_stands}
use Rattle.store_core.proofs.laws.moves_stand.Goals as goal

pub returns : goal.returns
returns c = keeps_stands
