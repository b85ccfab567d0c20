use Rattle.store_core.proofs.Owing.{named_length, named_none, named_some}
use Rattle.store_core.proofs.provided.name_owes.Goals as goal

pub returns-clause-some : goal.returns-clause-some
returns-clause-some c = named_some

pub returns-clause-none : goal.returns-clause-none
returns-clause-none c = named_none

pub returns-clause-few : goal.returns-clause-few
returns-clause-few c = named_length
