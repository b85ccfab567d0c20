use Rattle.std.proofs.Common.{◌≡◌, ◌≤◌, ◌*◌, ◌+◌}
use Rattle.array_model.specs.Counting.{sum_below}
use Rattle.image_reader.specs.Tallies.{tally_of}
use Rattle.image_check.proofs.counts.sum_of.Given as goal

abbrev pub invariant-loop-at : goal.invariant-loop-at
invariant-loop-at l = record {
  sum : l.sum ≡ sum_below (λ k. tally_of l.fn.counts (k + 1)) l.at;
  few : l.sum ≤ l.at * 4294967295;
}
