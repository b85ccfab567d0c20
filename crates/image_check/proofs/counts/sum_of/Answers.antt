use Rattle.std.proofs.Common.{◌≡◌, ℕ, ◌+◌, ◌-◌, slice_index_or, refl, ap, arith, add-one}
use Rattle.array_model.specs.Counting.{sum_below}
use Rattle.array_model.proofs.CountingLemmas.{sum_below-next}
use Rattle.image_reader.specs.Tallies.{tally_of}
use Rattle.image_check.proofs.counts.sum_of.Goals as goal

same : (n : ℕ) → n + 1 - 1 ≡ n
same n = omega arith

pub loop-at-init : goal.loop-at-init
unfolding sum_below
loop-at-init c = record { sum = refl; few = omega arith }

pub loop-at-preserved : goal.loop-at-preserved
loop-at-preserved c = record {
  sum = omega (arith, c.from-sum.ensures, ap (λ (n : ℕ). slice_index_or c.args.counts.now n 0) (same c.loop-at.at), c.loop-at.invariant.sum, sum_below-next (λ k. tally_of c.args.counts.now (k + 1)) c.loop-at.at, ap (sum_below (λ k. tally_of c.args.counts.now (k + 1))) (add-one c.loop-at.at));
  few = omega (arith, c.loop-at.invariant.few);
}
