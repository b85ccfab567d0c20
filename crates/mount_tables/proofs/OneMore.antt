-- One count more in the totals.
use Rattle.std.proofs.Common.{◌≡◌, ℕ, ◌+◌, ◌-◌, ◌<◌, ◌≤◌, ◌==◌, not, List, if◌then◌else◌, ◌∙◌, ap, add-one, arith, slice_index, slice_index_or}
use Rattle.array_model.specs.Counting.{counted_of, live_of}
use Rattle.array_model.proofs.CountingLemmas.{count_below-next, sum_below-next}
use Rattle.image_reader.specs.Tallies.{tally_of}
use Rattle.mount_tables.specs.Made.{AreFew}

module _ (counts : List ℕ) (i : ℕ) where
  here : tally_of counts (i + 1) ≡ slice_index counts i
  here = let at : i + 1 - 1 ≡ i = omega arith in ap (λ (n : ℕ). slice_index_or counts n 0) at

  pub live_more : live_of (tally_of counts) (i + 1) ≡ (if not (slice_index counts i == 0) then 1 else 0) + live_of (tally_of counts) i
  live_more = ap (live_of (tally_of counts)) (add-one i) ∙ count_below-next (λ k. not (tally_of counts (k + 1) == 0)) i ∙ ap (λ (n : ℕ). (if not (n == 0) then 1 else 0) + live_of (tally_of counts) i) here

  pub sum_more : counted_of (tally_of counts) (i + 1) ≡ slice_index counts i + counted_of (tally_of counts) i
  sum_more = ap (counted_of (tally_of counts)) (add-one i) ∙ sum_below-next (λ k. tally_of counts (k + 1)) i ∙ ap (λ (n : ℕ). n + counted_of (tally_of counts) i) here

  pub few_here : (n : ℕ) → AreFew n counts → i < n → slice_index counts i ≤ 2147483647
  few_here n few lt = omega (arith, few (i + 1) (omega arith) (omega (arith, lt)), here)
