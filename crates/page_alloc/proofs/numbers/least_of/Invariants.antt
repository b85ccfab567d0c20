use Rattle.std.proofs.Common.{◌≡◌, ℕ, ◌*◌, ◌<◌, false}
use Rattle.page_alloc.specs.Numbers.{holds}
use Rattle.page_alloc.proofs.numbers.least_of.Given as goal

abbrev pub invariant-loop-i : goal.invariant-loop-i
invariant-loop-i l = (k : ℕ) → k < 64 * l.i → holds l.words k ≡ false
