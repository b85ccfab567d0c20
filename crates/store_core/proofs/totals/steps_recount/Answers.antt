use Rattle.store_core.proofs.Totaled.{lower_recounts, name_renames, raise_recounts}
use Rattle.store_core.proofs.totals.steps_recount.Goals as goal

pub returns-clause-raise : goal.returns-clause-raise
returns-clause-raise c d old new p first last there r = raise_recounts d old new p first last there r

pub returns-clause-lower : goal.returns-clause-lower
returns-clause-lower c d old new i r placed there some low = lower_recounts d old new i r placed there some low

pub returns-clause-name : goal.returns-clause-name
returns-clause-name c d old new l p lt there n = name_renames d old new l p lt there n
