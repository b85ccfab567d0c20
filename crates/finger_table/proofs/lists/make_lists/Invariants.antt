use Rattle.std.proofs.Common.{◌≡◌, ℕ, true, ◌≤◌, vec_len, vec_capacity}
use Rattle.finger_table.specs.Index.{list_at, has_room}
use Rattle.finger_table.proofs.lists.make_lists.Given as goal

abbrev pub invariant-loop-number : goal.invariant-loop-number
invariant-loop-number l = record {
  count : vec_len l.lists ≡ l.number;
  space : 65536 ≤ vec_capacity l.lists;
  same : (k : ℕ) → list_at l.lists.items k ≡ list_at l.initial.lists.items k;
  rooms : (k : ℕ) → has_room l.initial.lists.items k ≡ true → has_room l.lists.items k ≡ true;
}
