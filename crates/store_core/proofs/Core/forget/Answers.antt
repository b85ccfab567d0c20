use Rattle.std.proofs.Common.{refl}
use Rattle.store_core.proofs.Looked.{out_back}
use Rattle.store_core.proofs.Quieted.{rest_cache}
use Rattle.store_core.proofs.Core.forget.Goals as goal

pub returns-clause-back : goal.returns-clause-back
returns-clause-back c = out_back c.args.self.now _ c.args.page (rest_cache c.args.self.now _ refl c.forget_page.ensures.rest refl) c.forget_page.ensures.out c.requires.clean c.requires.free
