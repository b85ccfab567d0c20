use Rattle.std.proofs.Common.{ℕ, ◌<◌, ◌≤◌}
use Rattle.page_layout.specs.Numbers.{entry_of}
use Rattle.page_layout.proofs.faults.largest.Given as goal

abbrev pub invariant-loop-i : goal.invariant-loop-i
invariant-loop-i l = (j : ℕ) → j < l.i → entry_of l.bytes j ≤ l.most
