use Rattle.std.proofs.Common.{◌≡◌, ◌≤◌, ◌*◌, ◌-◌, min, length}
use Rattle.page_layout.specs.Shape.{first_count_page}
use Rattle.page_layout.specs.Tables.{shape_of}
use Rattle.image_reader.specs.Looked.{Looked, Holds, Reads}
use Rattle.image_check.specs.Steps.{FormedBelow, NamesAre, CountsTo}
use Rattle.image_check.proofs.counts.compare_counts.Given as goal

abbrev pub invariant-loop-k : goal.invariant-loop-k
invariant-loop-k g l =
    let seen = g.D.Device.seen in
    record {
      looked : Looked (seen l.fn.device) (seen l.device);
      pages : (seen l.device).pages ≡ (seen l.fn.device).pages;
      faults : (seen l.fn.device).faults ≤ (seen l.device).faults;
      reads : Reads (l.k - first_count_page l.fn.shape) (seen l.fn.device) (seen l.device);
      length : length l.tallies.items ≡ l.fn.shape.pages;
      formed : Holds (λ image. FormedBelow (first_count_page l.fn.shape) l.fn.shape image → FormedBelow l.k l.fn.shape image) (seen l.fn.device);
      counts : Holds (λ image. shape_of image ≡ l.fn.shape → NamesAre l.fn.shape.pages image l.fn.tallies.items
          → CountsTo l.fn.shape.pages (min l.fn.shape.pages (1024 * (l.k - first_count_page l.fn.shape))) image l.tallies.items l.low) (seen l.fn.device);
    }
