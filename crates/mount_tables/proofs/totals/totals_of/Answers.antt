use Rattle.std.proofs.Common.{refl, arith, rules, length}
use Rattle.array_model.specs.Counting.{count_below, sum_below}
use Rattle.mount_tables.proofs.OneMore.{live_more, sum_more, few_here}
use Rattle.mount_tables.proofs.totals.totals_of.Goals.{then-count-ne0, else-count-ne0}
use Rattle.mount_tables.proofs.totals.totals_of.Goals as goal

pub loop-i-init : goal.loop-i-init
unfolding count_below sum_below
loop-i-init c = record { live_is = refl; sum_is = refl; few_live = omega arith; few = omega arith }

pub loop-i-preserved : goal.loop-i-preserved
loop-i-preserved c = let small = few_here c.args.counts.now c.loop-i.i (length c.args.counts.now) c.requires.few (omega (arith, c.loop-i-test.true, c.loop-i.auto.i-end)) in elim c.if-count-ne0.branch [
  | then-count-ne0 w ↦ record {
    live_is = rw (live_more c.args.counts.now c.loop-i.i) (search (rules, small));
    sum_is = rw (sum_more c.args.counts.now c.loop-i.i) (search (rules, small));
    few_live = search (rules, small);
    few = search (rules, small);
  }
  | else-count-ne0 w ↦ record {
    live_is = rw (live_more c.args.counts.now c.loop-i.i) (search (rules, small));
    sum_is = rw (sum_more c.args.counts.now c.loop-i.i) (search (rules, small));
    few_live = search (rules, small);
    few = search (rules, small);
  }
]
