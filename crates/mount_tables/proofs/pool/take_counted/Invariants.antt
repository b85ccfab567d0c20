use Rattle.std.proofs.Common.{◌≡◌, ℕ, ◌<◌, ◌≤◌}
use Rattle.page_alloc.specs.Pool.{told_of}
use Rattle.order_model.specs.Pool.{new_pool}
use Rattle.image_reader.specs.Tallies.{tally_of}
use Rattle.mount_tables.specs.Made.{taken_so}
use Rattle.mount_tables.proofs.pool.take_counted.Given as goal

abbrev pub invariant-loop-i : goal.invariant-loop-i
invariant-loop-i l = record {
  shape_is : l.pool.shape ≡ l.fn.shape;
  done : (p : ℕ) → 1 ≤ p → p ≤ l.i → told_of l.pool p ≡ taken_so (tally_of l.fn.counts p);
  rest : (p : ℕ) → l.i < p → p ≤ l.fn.shape.pages → told_of l.pool p ≡ new_pool p;
}
