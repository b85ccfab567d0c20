use Rattle.std.proofs.Common.{ℕ, ◌<◌}
use Rattle.mount_tables.specs.Reading.{IsEnough}
use Rattle.mount_tables.proofs.counts.low_count.Given as goal

abbrev pub invariant-loop-i : goal.invariant-loop-i
invariant-loop-i l = record { enough : (q : ℕ) → q < l.i → IsEnough l.fn.shape l.fn.tallies l.fn.j l.fn.page q }
