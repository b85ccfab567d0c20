use Rattle.std.proofs.Common.{◌≡◌, ◌≤◌, ◌+◌, ◌==◌, not, ℕ, length}
use Rattle.page_layout.specs.Numbers.{entry_of}
use Rattle.array_model.specs.Counting.{count_below}
use Rattle.image_reader.specs.Tallies.{tally_of}
use Rattle.image_reader.proofs.tallies.count_names.Given as goal

abbrev pub invariant-loop-i : goal.invariant-loop-i
invariant-loop-i l = record {
  length : length l.tallies.items ≡ length l.fn.tallies.items;
  names : (p : ℕ) → 1 ≤ p → tally_of l.fn.tallies.items p + l.fn.used ≤ 4294967295
      → tally_of l.tallies.items p ≡ tally_of l.fn.tallies.items p + count_below (λ q. entry_of l.fn.page q == p) l.i;
  named : l.named ≡ count_below (λ q. not (entry_of l.fn.page q == 0)) l.i;
}
