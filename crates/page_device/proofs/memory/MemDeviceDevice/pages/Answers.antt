use Rattle.std.proofs.Common.{ap, arith}
use Rattle.page_device.specs.Memory.{MemoryView}
use Rattle.page_device.proofs.Views.{as_many}
use Rattle.page_device.proofs.memory.MemDeviceDevice.pages.Goals as goal

pub returns : goal.returns
returns c =
    let inside = c.self.inside in
    let e = as_many c.args.self.now inside.pages.items inside.replaced.items inside.log.kept inside.log.all (ap (λ (v : MemoryView). v.start) c.self.view_is) (ap (λ (v : MemoryView). v.all) c.self.view_is) c.self.invariant.0 in
    omega (arith, e, c.len.ensures)
