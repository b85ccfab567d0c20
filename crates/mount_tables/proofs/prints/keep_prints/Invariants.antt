use Rattle.std.proofs.Common.{◌≡◌, ◌⊎◌, ℕ, ◌<◌, ◌≤◌, ◌+◌, ◌*◌, length}
use Rattle.page_layout.specs.Tables.{print_entry_of}
use Rattle.finger_table.specs.Order.{print_in}
use Rattle.mount_tables.proofs.prints.keep_prints.Given as goal

abbrev pub invariant-loop-i : goal.invariant-loop-i
invariant-loop-i l = record {
  length_is : length l.table.items ≡ l.fn.shape.pages + 1;
  here : (q : ℕ) → q < l.i → print_in l.table.items (170 * l.fn.j + q + 1) ≡ print_entry_of l.fn.page q;
  others : (p : ℕ) → (p ≤ 170 * l.fn.j) ⊎ (170 * l.fn.j + l.i < p) → print_in l.table.items p ≡ print_in l.fn.table.items p;
}
