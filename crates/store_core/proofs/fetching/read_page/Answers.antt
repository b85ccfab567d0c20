use Rattle.std.proofs.Common.{◌≡◌, OnOk, subst}
use Rattle.page_cache.specs.View.{CacheView, content_in}
use Rattle.engine_model.specs.Disk.{newest_on}
use Rattle.store_core.specs.Fetching.{Copies}
use Rattle.store_core.specs.Views.{IsKnown, held_or}
use Rattle.store_core.proofs.Copied.{copied_content, copies}
use Rattle.store_core.proofs.fetching.read_page.Goals as goal

pub returns-clause-copies : goal.returns-clause-copies
returns-clause-copies g c =
    let d = g.D.Device.seen c.args.device.now in
    let e = g.D.Device.seen c.read_into.new.device in
    subst (λ (x : CacheView). Copies c.args.page d e x c.read_into.new.self) c.cache.ensures.now
    (copies c.args.page d e c.cache.result.now c.read_into.new.self c.read_into.result c.read_into.new.into c.read_into.ensures.there c.read_into.ensures.absent)

pub returns-clause-content : goal.returns-clause-content
returns-clause-content g c =
    let d = g.D.Device.seen c.args.device.now in
    subst (λ (x : CacheView). OnOk c.read_into.result (IsKnown d → held_or (content_in x c.args.page) (newest_on d.state c.args.page) ≡ c.read_into.new.into)) c.cache.ensures.now
    (copied_content c.args.page d (g.D.Device.seen c.read_into.new.device) c.cache.result.now c.read_into.new.self c.read_into.result c.read_into.new.into c.read_into.ensures.there c.read_into.ensures.newest)
