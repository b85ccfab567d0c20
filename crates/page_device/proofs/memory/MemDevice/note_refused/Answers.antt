use Rattle.std.proofs.Common.{ap, subst, ◌∙◌}
use Rattle.page_device.specs.Meaning.{IsRefused, OneCall}
use Rattle.page_device.specs.Memory.{MemoryView}
use Rattle.page_device.specs.MemorySeen.{memory_seen}
use Rattle.page_device.proofs.Calls.{kept_call, lost_calls, refused_is_quiet}
use Rattle.page_device.proofs.Shown.{shows_entry, shows_lost, shows_from}
use Rattle.page_device.proofs.memory.MemDevice.note_refused.Goals as goal

pub keep_quiet-requires : goal.keep_quiet-requires
keep_quiet-requires c = refused_is_quiet c.args.entry c.requires

pub returns-then-keep_quiet-clause-call : goal.returns-then-keep_quiet-clause-call
returns-then-keep_quiet-clause-call c = let e = c.if-keep_quiet.ensures.kept in
    kept_call IsRefused c.args.self.now c.keep_quiet.new.self c.args.entry c.requires (ap (λ (v : MemoryView). v.start) e) (ap (λ (v : MemoryView). v.all) e) (ap (λ (v : MemoryView). v.reads) e) (ap (λ (v : MemoryView). v.lies) e)

pub returns-clause-call : goal.returns-clause-call
returns-clause-call c = let same = c.if-keep_quiet.ensures.same in
    let some = c.lose.ensures.some in
    subst (λ (m : MemoryView). OneCall IsRefused (memory_seen m) (memory_seen c.lose.new.self)) same
    (lost_calls c.keep_quiet.new.self c.lose.new.self (ap (λ (v : MemoryView). v.start) some.1) c.lose.ensures.counted c.lose.ensures.one (some.0, ap (λ (v : MemoryView). v.all) some.1) (ap (λ (v : MemoryView). v.reads) some.1) (ap (λ (v : MemoryView). v.lies) some.1))

pub returns-then-keep_quiet-clause-shows : goal.returns-then-keep_quiet-clause-shows
returns-then-keep_quiet-clause-shows c = shows_entry IsRefused c.args.self.now c.keep_quiet.new.self c.args.entry c.requires c.if-keep_quiet.ensures.kept

pub returns-clause-shows : goal.returns-clause-shows
returns-clause-shows c =
    let same = c.if-keep_quiet.ensures.same in
    shows_from IsRefused c.args.self.now c.keep_quiet.new.self c.lose.new.self same
    (shows_lost IsRefused c.keep_quiet.new.self c.lose.new.self _ c.lose.ensures.some.1 (ap (λ (v : MemoryView). v.spare) same ∙ c.if-keep_quiet.ensures.room))
