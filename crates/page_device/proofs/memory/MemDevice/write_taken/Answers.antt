use Rattle.std.proofs.Common.{ap, refl, inl}
use Rattle.page_device.specs.declared.device.LogEntry.TheVariants.{Write}
use Rattle.page_device.specs.declared.device.End.TheVariants.{Taken}
use Rattle.page_device.specs.Memory.{MemoryView}
use Rattle.page_device.proofs.Calls.{kept_call, fault_counted}
use Rattle.page_device.specs.Meaning.{IsRefused, WriteEntry}
use Rattle.page_device.proofs.Shown.{shows_entry, shows_fault, shows_from, shows_weaker, refused_write}
use Rattle.page_device.proofs.memory.MemDevice.write_taken.Goals as goal

pub returns-then-take_write-clause-call : goal.returns-then-take_write-clause-call
returns-then-take_write-clause-call c =
    let e = c.if-take_write.ensures.kept in
    fault_counted _ c.args.self.now c.take_write.new.self c.count_fault.new.self _ c.count_fault.ensures.alone
    (kept_call _ c.args.self.now c.take_write.new.self (Write c.args.page c.args.from.now Taken) (inl refl) (ap (λ (v : MemoryView). v.start) e) (ap (λ (v : MemoryView). v.all) e) (ap (λ (v : MemoryView). v.reads) e) (ap (λ (v : MemoryView). v.lies) e))

pub returns-then-take_write-clause-shows : goal.returns-then-take_write-clause-shows
returns-then-take_write-clause-shows c =
    shows_fault _ c.args.self.now c.take_write.new.self c.count_fault.new.self _ c.count_fault.ensures.alone
    (shows_entry _ c.args.self.now c.take_write.new.self (Write c.args.page c.args.from.now Taken) (inl refl) c.if-take_write.ensures.kept)

pub returns-clause-shows : goal.returns-clause-shows
returns-clause-shows c =
    shows_weaker IsRefused (WriteEntry c.args.page c.args.from.now c.refuse.result) c.args.self.now c.refuse.new.self
    (refused_write c.args.page c.args.from.now c.refuse.result c.refuse.ensures.err)
    (shows_from IsRefused c.args.self.now c.take_write.new.self c.refuse.new.self c.if-take_write.ensures.same c.refuse.ensures.shows)
