use Rattle.engine_model.proofs.small_commands.filled_page_is_nameable.Goals as goal
use Rattle.engine_model.proofs.FilledNamed.{can}

pub returns : goal.returns
returns c = record { nameable = can }
