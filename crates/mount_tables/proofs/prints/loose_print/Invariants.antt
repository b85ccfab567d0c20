use Rattle.std.proofs.Common.{ℕ, ◌<◌}
use Rattle.mount_tables.specs.Reading.{IsBacked}
use Rattle.mount_tables.proofs.prints.loose_print.Given as goal

abbrev pub invariant-loop-i : goal.invariant-loop-i
invariant-loop-i l = record { backed : (q : ℕ) → q < l.i → IsBacked l.fn.shape l.fn.counts l.fn.j l.fn.page q }
