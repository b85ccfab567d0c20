use Rattle.std.proofs.Common.{◌≡◌, ◌≤◌, replicate, None, vec_len, vec_capacity}
use Rattle.mount_tables.proofs.prints.no_prints.Given as goal

abbrev pub invariant-loop : goal.invariant-loop
invariant-loop l = record {
  items : l.table.items ≡ replicate l.counter None;
  len : vec_len l.table ≡ l.counter;
  capacity : l.n ≤ vec_capacity l.table;
}
