use Rattle.store_core.proofs.Opens.{waits_at}
use Rattle.store_core.proofs.orderly.releases_wait.Goals as goal

pub returns : goal.returns
returns c = waits_at
