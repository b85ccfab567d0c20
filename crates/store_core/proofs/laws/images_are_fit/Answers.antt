use Rattle.store_core.proofs.Stood.{images_fit}
use Rattle.store_core.proofs.laws.images_are_fit.Goals as goal

pub returns : goal.returns
returns c = λ sound d core array image s is. images_fit sound d core array s image is
