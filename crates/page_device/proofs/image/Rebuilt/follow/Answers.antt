use Rattle.std.proofs.Common.{◌≡◌, ◌∙◌}
use Rattle.page_device.specs.Rebuilt.{state_of}
use Rattle.page_device.specs.Disk.{written, after}
use Rattle.page_device.proofs.Rebuilds.{follows_refused, follows_taken, follows_barrier, follows_failed, on_ok}
use Rattle.page_device.proofs.image.Rebuilt.follow.Goals as goal

pub returns-in-Refused : goal.returns-in-Refused
returns-in-Refused c = follows_refused (state_of c.args.self.now) c.args.entry.now c.in-Write.page c.in-Write.from c.in-Write.end c.in-Write.is c.in-Refused.is

pub returns-in-Done : goal.returns-in-Done
returns-in-Done c = on_ok c.write.result (state_of c.write.new.self ≡ written (state_of c.args.self.now) c.in-Write.page c.in-Write.from) (state_of c.write.new.self ≡ after (state_of c.args.self.now) c.args.entry.now)
    (λ h. h ∙ follows_taken (state_of c.args.self.now) c.args.entry.now c.in-Write.page c.in-Write.from c.in-Write.end c.in-Write.is c.in-Done.is) c.write.ensures

pub returns-in-Done-end : goal.returns-in-Done-end
returns-in-Done-end c = c.settle.ensures ∙ follows_barrier (state_of c.args.self.now) c.args.entry.now c.in-Flush.end c.in-Flush.is c.in-Done-end.is

pub returns-in_default : goal.returns-in_default
returns-in_default c = follows_failed (state_of c.args.self.now) c.args.entry.now c.in-Flush.end c.in-Flush.is c.in_default.not-Done
