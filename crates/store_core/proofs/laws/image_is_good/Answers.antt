use Rattle.store_core.proofs.Good.{good, reads, same}
use Rattle.store_core.proofs.laws.image_is_good.Goals as goal

pub returns : goal.returns
returns c = record { shape = same; good = good; reads = reads }
