use Rattle.std.proofs.Common.{◌≡◌, ◌≤◌, ◌*◌, ◌-◌, min, length}
use Rattle.image_reader.specs.Looked.{Looked, Holds, Reads}
use Rattle.page_layout.specs.Tables.{map_of}
use Rattle.image_reader.specs.Tallies.{NamesTo}
use Rattle.image_check.specs.Steps.{FormedBelow}
use Rattle.image_check.proofs.maps.tally_maps.Given as goal

abbrev pub invariant-loop-k : goal.invariant-loop-k
invariant-loop-k g l =
    let seen = g.D.Device.seen in
    record {
      looked : Looked (seen l.fn.device) (seen l.device);
      pages : (seen l.device).pages ≡ (seen l.fn.device).pages;
      faults : (seen l.fn.device).faults ≤ (seen l.device).faults;
      reads : Reads (l.k - 1) (seen l.fn.device) (seen l.device);
      length : length l.tallies.items ≡ l.fn.shape.pages;
      formed : Holds (λ image. FormedBelow 1 l.fn.shape image → FormedBelow l.k l.fn.shape image) (seen l.fn.device);
      names : Holds (λ image. NamesTo l.fn.shape.pages (min l.fn.shape.blocks (1024 * (l.k - 1))) (map_of image) l.tallies.items l.mapped) (seen l.fn.device);
    }
