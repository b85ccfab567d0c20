use Rattle.std.proofs.Common.{◌≡◌, ◌≤◌, replicate, vec_capacity}
use Rattle.page_alloc.proofs.pool.no_groups.Given as goal

abbrev pub invariant-loop : goal.invariant-loop
invariant-loop l = record {
  items : l.groups.items ≡ replicate l.counter (record { zero = 0; tried = 0; newest = 0 });
  room : l.count ≤ vec_capacity l.groups;
}
