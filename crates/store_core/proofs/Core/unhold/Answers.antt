use Rattle.std.proofs.Common.{refl}
use Rattle.store_core.proofs.Quieted.{gives_back, rest_cache, unheld_within, whole_cache}
use Rattle.store_core.proofs.Core.unhold.Goals as goal

pub invariant_of-self : goal.invariant_of-self
invariant_of-self c =
    let core = c.args.self.now in
    let new = c.unhold_page.new.engine in
    record { whole = whole_cache core new new.cache c.unhold_page.ensures.rest c.unhold_page.ensures.unheld.dirty (unheld_within core new.cache c.args.page c.unhold_page.ensures.unheld) }

pub returns : goal.returns
returns c = gives_back c.args.self.now _ c.args.page c.requires (rest_cache c.args.self.now _ refl c.unhold_page.ensures.rest refl) c.unhold_page.ensures.unheld
