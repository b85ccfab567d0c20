use Rattle.store_core.proofs.FreePages.{free_page}
use Rattle.store_core.proofs.placing.given_page_is_free.Goals as goal

pub returns : goal.returns
returns c = free_page
