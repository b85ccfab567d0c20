use Rattle.std.proofs.Common.{◌≡◌, ℕ, ◌<◌, length, vec_len}
use Rattle.std.specs.List.Sorted.{IsNonDecreasingBy}
use Rattle.finger_table.specs.Filled.{IsFilled}
use Rattle.finger_table.specs.Index.{list_at}
use Rattle.finger_table.specs.Order.{key_in}
use Rattle.finger_table.proofs.bulk.sort_lists.Given as goal

abbrev pub invariant-loop-list : goal.invariant-loop-list
invariant-loop-list l = record {
  count : vec_len l.lists ≡ vec_len l.fn.lists;
  filled : IsFilled l.fn.table (length l.fn.table) (list_at l.lists.items);
  sorted : (b : ℕ) → b < l.list → IsNonDecreasingBy (key_in l.fn.table) (list_at l.lists.items b);
}
