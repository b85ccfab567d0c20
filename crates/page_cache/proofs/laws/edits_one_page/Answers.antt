use Rattle.page_cache.proofs.EditLemmas.{edited_is}
use Rattle.page_cache.proofs.laws.edits_one_page.Goals as goal

pub returns : goal.returns
returns c = edited_is
