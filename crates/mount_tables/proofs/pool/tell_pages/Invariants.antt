use Rattle.std.proofs.Common.{◌≡◌, ℕ, ◌<◌, ◌≤◌}
use Rattle.page_layout.specs.Shape.{count_page}
use Rattle.page_alloc.specs.Pool.{told_of}
use Rattle.image_reader.specs.Tallies.{tally_of}
use Rattle.store_core.specs.Opened.{counted_so}
use Rattle.mount_tables.specs.Made.{taken_so}
use Rattle.mount_tables.proofs.pool.tell_pages.Given as goal

abbrev pub invariant-loop-page : goal.invariant-loop-page
invariant-loop-page l = record {
  shape_is : l.pool.shape ≡ l.fn.shape;
  done : (p : ℕ) → 1 ≤ p → p ≤ l.fn.shape.pages → count_page l.fn.shape p < l.page → told_of l.pool p ≡ counted_so (tally_of l.fn.counts p);
  rest : (p : ℕ) → 1 ≤ p → p ≤ l.fn.shape.pages → l.page ≤ count_page l.fn.shape p → told_of l.pool p ≡ taken_so (tally_of l.fn.counts p);
}
