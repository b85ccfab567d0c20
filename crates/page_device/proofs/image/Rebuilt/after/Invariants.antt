use Rattle.std.proofs.Common.{◌≡◌, drop}
use Rattle.page_device.specs.Disk.{state_after, at_rest}
use Rattle.page_device.specs.Rebuilt.{state_of}
use Rattle.page_device.proofs.image.Rebuilt.after.Given as goal

abbrev pub invariant-loop-entry : goal.invariant-loop-entry
invariant-loop-entry l = state_after (state_of l.state) (drop l.entry-index l.entries) ≡ state_after (at_rest l.fn.start.items) l.entries
