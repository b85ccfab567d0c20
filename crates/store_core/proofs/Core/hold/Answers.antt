use Rattle.std.proofs.Common.{refl}
use Rattle.store_core.proofs.Held.{hold_dirty, hold_done, hold_failed, hold_same, hold_there, hold_within}
use Rattle.store_core.proofs.Quieted.{rest_cache, whole_cache}
use Rattle.store_core.proofs.Core.hold.Goals as goal

pub invariant_of-self : goal.invariant_of-self
invariant_of-self c =
    let core = c.args.self.now in
    let new = c.hold_page.new.engine in
    record {
      whole = whole_cache core new new.cache c.hold_page.ensures.rest
          (hold_dirty core new.cache c.args.page c.hold_page.result c.hold_page.ensures.ok c.hold_page.ensures.err)
          (hold_within core new.cache c.args.page c.hold_page.result c.hold_page.ensures.ok c.hold_page.ensures.err);
    }

pub returns-clause-ok : goal.returns-clause-ok
returns-clause-ok c = hold_done c.args.self.now _ c.args.page (rest_cache c.args.self.now _ refl c.hold_page.ensures.rest refl) c.hold_page.result c.hold_page.ensures.ok

pub returns-clause-there : goal.returns-clause-there
returns-clause-there c = hold_there c.args.self.now c.hold_page.new.engine.cache c.args.page c.hold_page.result c.hold_page.ensures.ok c.requires

pub returns-clause-err : goal.returns-clause-err
returns-clause-err c = hold_failed c.args.self.now _ c.args.page (rest_cache c.args.self.now _ refl c.hold_page.ensures.rest refl) c.hold_page.result c.hold_page.ensures.err

pub returns-clause-same : goal.returns-clause-same
returns-clause-same c = hold_same c.args.self.now c.hold_page.new.engine.cache c.args.page c.hold_page.result c.hold_page.ensures.ok c.hold_page.ensures.err
