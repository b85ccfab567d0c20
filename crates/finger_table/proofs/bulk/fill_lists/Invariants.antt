use Rattle.std.proofs.Common.{◌≤◌, vec_len}
use Rattle.finger_table.specs.Filled.{IsFilled}
use Rattle.finger_table.specs.Index.{list_at}
use Rattle.finger_table.proofs.bulk.fill_lists.Given as goal

abbrev pub invariant-loop-p : goal.invariant-loop-p
invariant-loop-p l = record {
  lists_are : 65536 ≤ vec_len l.lists;
  filled : IsFilled l.fn.table l.p (list_at l.lists.items);
}
