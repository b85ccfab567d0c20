use Rattle.std.proofs.Common.{ap, refl, ◌∙◌, [], ◌∷◌, ◌++◌}
use Rattle.page_device.specs.declared.device.LogEntry.TheVariants.{Flush}
use Rattle.page_device.specs.declared.device.End.TheVariants.{Done}
use Rattle.page_device.specs.Memory.{MemoryView}
use Rattle.page_device.proofs.Calls.{kept_call}
use Rattle.page_device.proofs.Shown.{shows_entry, shows_planned}
use Rattle.page_device.proofs.memory.MemDeviceDevice.flush.Goals as goal

pub returns-then-keep_quiet-clause-call : goal.returns-then-keep_quiet-clause-call
returns-then-keep_quiet-clause-call c =
    let e = c.if-keep_quiet.ensures.kept in
    let f = c.next_plan.ensures.counted in
    kept_call _ c.args.self.now c.keep_quiet.new.self (Flush Done) refl (ap (λ (v : MemoryView). v.start) e ∙ ap (λ (v : MemoryView). v.start) f)
    (ap (λ (v : MemoryView). v.all) e ∙ ap (λ (v : MemoryView). v.all ++ Flush Done ∷ []) f) (ap (λ (v : MemoryView). v.reads) e ∙ ap (λ (v : MemoryView). v.reads) f) (ap (λ (v : MemoryView). v.lies) e ∙ ap (λ (v : MemoryView). v.lies) f)

pub returns-then-keep_quiet-clause-shows : goal.returns-then-keep_quiet-clause-shows
returns-then-keep_quiet-clause-shows c =
    shows_planned _ c.args.self.now c.next_plan.new.self c.keep_quiet.new.self _ c.next_plan.ensures.counted
    (shows_entry _ c.next_plan.new.self c.keep_quiet.new.self (Flush Done) refl c.if-keep_quiet.ensures.kept)
