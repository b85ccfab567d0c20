use Rattle.std.proofs.Common.{refl, ◌∙◌, ap}
use Rattle.page_device.specs.Memory.{MemoryView}
use Rattle.page_device.specs.MemorySeen.{memory_seen}
use Rattle.page_device.specs.Meaning.{IsRefused}
use Rattle.page_device.proofs.Calls.{fault_counted, refused_leaves}
use Rattle.page_device.proofs.Shown.{shows_fault}
use Rattle.page_device.proofs.memory.MemDevice.refuse.Goals as goal

pub returns-clause-call : goal.returns-clause-call
returns-clause-call c = fault_counted IsRefused c.args.self.now c.note_refused.new.self c.count_fault.new.self _ c.count_fault.ensures.alone c.note_refused.ensures.call

pub returns-clause-state : goal.returns-clause-state
returns-clause-state c = ap (λ (v : MemoryView). (memory_seen v).state) c.count_fault.ensures.alone ∙ c.note_refused.ensures.call.state refl
    ∙ refused_leaves (memory_seen c.args.self.now).state c.note_refused.ensures.call.entry c.note_refused.ensures.call.is

pub returns-clause-shows : goal.returns-clause-shows
returns-clause-shows c = shows_fault IsRefused c.args.self.now c.note_refused.new.self c.count_fault.new.self _ c.count_fault.ensures.alone c.note_refused.ensures.shows
