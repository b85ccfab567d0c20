use Rattle.store_core.proofs.OpenedStands.{opened_orderly, opened_provided, stands_opened}
use Rattle.store_core.proofs.opening.opened.Goals as goal

pub returns : goal.returns
returns c = record {
  provided = λ shape size pool core is. opened_provided shape size pool core is;
  orderly = λ shape size pool core is. opened_orderly shape size pool core is;
  stands = λ sound d size pool core can is. stands_opened sound d size pool core can is;
}
