use Rattle.std.proofs.Common.{ℕ, ◌<◌}
use Rattle.page_layout.specs.Entries.{IsNumberEntry}
use Rattle.page_layout.proofs.faults.number_fault.Given as goal

abbrev pub invariant-loop-i : goal.invariant-loop-i
invariant-loop-i l = (j : ℕ) → j < l.i → IsNumberEntry l.used l.limit l.bytes j
