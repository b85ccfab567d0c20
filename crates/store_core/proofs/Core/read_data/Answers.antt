use Rattle.std.proofs.Common.{refl}
use Rattle.store_core.proofs.Copied.{copied_bytes, copy_dirty, copy_within, formed_copied, quiet_copied}
use Rattle.store_core.proofs.Quieted.{rest_cache, whole_cache}
use Rattle.store_core.proofs.Core.read_data.Goals as goal

pub invariant_of-self : goal.invariant_of-self
invariant_of-self g c =
    let d = g.D.Device.seen c.args.device.now in
    let e = g.D.Device.seen c.read_page.new.device in
    let core = c.args.self.now in
    let new = c.read_page.new.engine in
    record {
      whole = whole_cache core new new.cache c.read_page.ensures.rest
          (copy_dirty c.data_place-at.result d e core.engine.cache new.cache c.read_page.ensures.copies)
          (copy_within c.data_place-at.result d e core new.cache c.read_page.ensures.copies);
    }

pub returns-clause-quiet : goal.returns-clause-quiet
returns-clause-quiet g c = quiet_copied c.data_place-at.result (g.D.Device.seen c.args.device.now) (g.D.Device.seen c.read_page.new.device) c.args.self.now _ c.read_page.result c.read_page.ensures.cause c.read_page.ensures.copies
    (rest_cache c.args.self.now _ refl c.read_page.ensures.rest refl)

pub returns-clause-bytes : goal.returns-clause-bytes
returns-clause-bytes g c = copied_bytes _ c.data_place-at.result (g.D.Device.seen c.args.device.now) c.args.self.now c.read_page.result c.read_page.new.into c.data_place-at.ensures.page c.read_page.ensures.content

pub returns-clause-formed : goal.returns-clause-formed
returns-clause-formed g c = formed_copied c.data_place-at.result (g.D.Device.seen c.args.device.now) (g.D.Device.seen c.read_page.new.device) c.args.self.now _ (returns-clause-quiet g c) c.read_page.ensures.copies
