use Rattle.std.proofs.Common.{◌≡◌, ◌≤◌, ◌*◌}
use Rattle.array_model.specs.Counting.{counted_of, live_of}
use Rattle.image_reader.specs.Tallies.{tally_of}
use Rattle.mount_tables.proofs.totals.totals_of.Given as goal

abbrev pub invariant-loop-i : goal.invariant-loop-i
invariant-loop-i l = record {
  live_is : l.live ≡ live_of (tally_of l.fn.counts) l.i;
  sum_is : l.sum ≡ counted_of (tally_of l.fn.counts) l.i;
  few_live : l.live ≤ l.i;
  few : l.sum ≤ l.i * 2147483647;
}
