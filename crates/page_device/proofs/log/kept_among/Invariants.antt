use Rattle.std.proofs.Common.{◌≡◌, ◌+◌, drop}
use Rattle.page_device.specs.Memory.{kept_at}
use Rattle.page_device.proofs.log.kept_among.Given as goal

abbrev pub invariant-loop-i : goal.invariant-loop-i
invariant-loop-i l = l.i + kept_at (drop l.i l.lost_before) l.left ≡ kept_at l.lost_before l.at
