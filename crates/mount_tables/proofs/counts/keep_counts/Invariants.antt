use Rattle.std.proofs.Common.{◌≡◌, ◌⊎◌, ℕ, ◌<◌, ◌≤◌, ◌+◌, ◌*◌, length}
use Rattle.page_layout.specs.Numbers.{entry_of}
use Rattle.image_reader.specs.Tallies.{tally_of}
use Rattle.mount_tables.proofs.counts.keep_counts.Given as goal

abbrev pub invariant-loop-i : goal.invariant-loop-i
invariant-loop-i l = record {
  length_is : length l.tallies.items ≡ l.fn.shape.pages;
  here : (q : ℕ) → q < l.i → tally_of l.tallies.items (1024 * l.fn.j + q + 1) ≡ entry_of l.fn.page q;
  others : (p : ℕ) → 1 ≤ p → (p ≤ 1024 * l.fn.j) ⊎ (1024 * l.fn.j + l.i < p) → tally_of l.tallies.items p ≡ tally_of l.fn.tallies.items p;
}
