use Rattle.std.proofs.Common.{◌-◌, ◌≤◌, length}
use Rattle.store_core.specs.PassParts.{IsPassing}
use Rattle.store_core.specs.Passing.{PassAdds}
use Rattle.store_core.proofs.PartStays.{HasPassed}
use Rattle.store_core.proofs.Core.pass.Given as goal

abbrev pub invariant-loop-i : goal.invariant-loop-i
invariant-loop-i l = record {
  passed : HasPassed l.from l.freed l.fn.self l.self l.fn.prints l.prints;
  passing : IsPassing l.from l.self;
  adds : PassAdds l.fn.self l.self;
  within : l.from ≤ length l.self.ledger.queue.releases;
}

abbrev pub decreases-loop-i : goal.decreases-loop-i
decreases-loop-i l = length l.self.ledger.queue.releases - l.from
