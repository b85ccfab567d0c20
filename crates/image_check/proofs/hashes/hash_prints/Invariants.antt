use Rattle.std.proofs.Common.{◌≡◌, ◌≤◌}
use Rattle.page_layout.specs.Tables.{shape_of}
use Rattle.image_reader.specs.Looked.{Looked, Holds, Reads}
use Rattle.image_check.specs.Reads.{printed_in}
use Rattle.image_check.specs.Steps.{ArePrints, IsReady, PrintsTo}
use Rattle.image_check.proofs.hashes.hash_prints.Given as goal

abbrev pub invariant-loop-at : goal.invariant-loop-at
invariant-loop-at g l =
    let seen = g.D.Device.seen in
    record {
      looked : Looked (seen l.fn.device) (seen l.device);
      pages : (seen l.device).pages ≡ (seen l.fn.device).pages;
      faults : (seen l.fn.device).faults ≤ (seen l.device).faults;
      reads : Reads (printed_in l.fn.prints.items l.at) (seen l.fn.device) (seen l.device);
      prints : Holds (λ image. shape_of image ≡ l.fn.shape → ArePrints l.fn.shape l.fn.prints.items image → IsReady l.fn.shape l.fn.counts image → PrintsTo l.at image l.zero) (seen l.fn.device);
    }
