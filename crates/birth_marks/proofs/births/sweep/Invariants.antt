use Rattle.std.proofs.Common.{◌≡◌, ◌≤◌, ℕ, None}
use Rattle.std.specs.HashMap.{hash_map_len, spare}
use Rattle.birth_marks.specs.Kept.{HeadsPage, TakenOff}
use Rattle.birth_marks.proofs.births.sweep.Given as goal

abbrev pub decreases-loop-next : goal.decreases-loop-next
decreases-loop-next l = hash_map_len l.moments

abbrev pub invariant-loop-next : goal.invariant-loop-next
invariant-loop-next l = record {
  none : l.fn.last ≡ None → (l.next ≡ None) × ((l.records.entries ≡ l.initial.records.entries) × (l.moments.entries ≡ l.initial.moments.entries));
  taken : (page moment : ℕ) → HeadsPage page moment l.fn.last l.initial.records.entries l.initial.moments.entries → TakenOff page l.next l.initial.records.entries l.initial.moments.entries l.records.entries l.moments.entries;
  records_fit : spare l.initial.records ≤ spare l.records;
  moments_fit : spare l.initial.moments ≤ spare l.moments;
}
