use Rattle.std.proofs.Common.{◌≡◌, ◌*◌, ◌-◌, List, length}
use Rattle.page_device.specs.Block.{Block}
use Rattle.page_layout.specs.Shape.{first_count_page}
use Rattle.page_layout.specs.Tables.{page_of, shape_of}
use Rattle.image_check.specs.Steps.{CountsTo}
use Rattle.image_check.proofs.counts.compare_page.Given as goal

abbrev pub invariant-loop-at : goal.invariant-loop-at
invariant-loop-at l = record {
  length : length l.tallies.items ≡ l.fn.shape.pages;
  counts : (image : List Block) → shape_of image ≡ l.fn.shape → page_of image l.fn.k ≡ l.fn.page → CountsTo l.fn.shape.pages (1024 * (l.fn.k - first_count_page l.fn.shape)) image l.fn.tallies.items l.fn.before
      → CountsTo l.fn.shape.pages l.at image l.tallies.items l.low;
}
