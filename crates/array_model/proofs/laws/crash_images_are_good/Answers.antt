use Rattle.array_model.proofs.CrashLemmas.{mode_stays}
use Rattle.array_model.proofs.laws.crash_images_are_good.Goals as goal

pub returns-clause-good : goal.returns-clause-good
returns-clause-good c = λ mode rules a start works k image survives left. (survives k image left).good

pub returns-clause-again : goal.returns-clause-again
returns-clause-again c = λ mode. mode_stays mode
