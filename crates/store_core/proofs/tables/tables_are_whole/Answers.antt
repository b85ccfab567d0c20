use Rattle.store_core.proofs.Undamaged.{never_damaged}
use Rattle.store_core.proofs.tables.tables_are_whole.Goals as goal

pub returns : goal.returns
returns c = λ sound d core array page damage s some x. never_damaged sound d core array page damage s some x
