use Rattle.array_model.proofs.CrashLemmas.{left_at_end}
use Rattle.array_model.proofs.laws.works_end.Goals as goal

pub returns : goal.returns
returns c = λ mode rules a start works image leave is. left_at_end mode rules a start works leave image is
