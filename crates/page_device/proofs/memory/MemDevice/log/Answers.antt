use Rattle.std.proofs.Common.{ℕ, List, length, ap, subst}
use Rattle.page_device.specs.declared.device.LogEntry.{LogEntry}
use Rattle.page_device.specs.Memory.{MemoryView, AllBelow, taken_pages}
use Rattle.page_device.proofs.Views.{as_many}
use Rattle.page_device.proofs.memory.MemDevice.log.Goals as goal

pub returns-clause-within : goal.returns-clause-within
returns-clause-within c =
    let inside = c.self.inside in
    let start = ap (λ (v : MemoryView). v.start) c.self.view_is in
    let all = ap (λ (v : MemoryView). v.all) c.self.view_is in
    subst (λ (n : ℕ). AllBelow (taken_pages c.args.self.now.all) n) (as_many c.args.self.now inside.pages.items inside.replaced.items inside.log.kept inside.log.all start all c.self.invariant.0)
    (subst (λ (l : List LogEntry). AllBelow (taken_pages l) (length inside.pages.items)) all c.self.invariant.0.all_below)
