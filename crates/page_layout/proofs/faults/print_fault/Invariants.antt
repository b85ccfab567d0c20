use Rattle.std.proofs.Common.{ℕ, ◌<◌}
use Rattle.page_layout.specs.Entries.{IsPrintPlace}
use Rattle.page_layout.proofs.faults.print_fault.Given as goal

abbrev pub invariant-loop-i : goal.invariant-loop-i
invariant-loop-i l = (j : ℕ) → j < l.i → IsPrintPlace l.used l.bytes j
