use Rattle.std.proofs.Common.{◌≡◌, ◌≤◌, replicate, vec_len, vec_capacity}
use Rattle.image_reader.proofs.tallies.zeros.Given as goal

abbrev pub invariant-loop : goal.invariant-loop
invariant-loop l = record {
  items : l.list.items ≡ replicate l.counter 0;
  len : vec_len l.list ≡ l.counter;
  capacity : l.n ≤ vec_capacity l.list;
}
