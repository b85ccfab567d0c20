use Rattle.page_cache.proofs.EditLemmas.{still_held}
use Rattle.device_tests.proofs.tests.cache.edit.Goals as goal

pub unhold-requires : goal.unhold-requires
unhold-requires c = still_held _ c.hold.new.self c.args.page _ c.in-Ok.ensures.ok
