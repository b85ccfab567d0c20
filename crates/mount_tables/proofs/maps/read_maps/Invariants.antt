use Rattle.std.proofs.Common.{◌≡◌, ◌≤◌, ◌<◌, ◌-◌, ◌*◌, min, length, ◌^◌, true}
use Rattle.page_device.specs.Counts.{raised}
use Rattle.page_layout.specs.Tables.{map_of}
use Rattle.image_reader.specs.Looked.{Looked, Holds}
use Rattle.image_reader.specs.Tallies.{NamesTo}
use Rattle.mount_tables.specs.Reading.{FitBetween}
use Rattle.mount_tables.proofs.maps.read_maps.Given as goal

abbrev pub invariant-loop-k : goal.invariant-loop-k
invariant-loop-k g l =
    let seen = g.D.Device.seen in
    record {
      looked : Looked (seen l.fn.device) (seen l.device);
      pages : (seen l.device).pages ≡ (seen l.fn.device).pages;
      faults : (seen l.fn.device).faults ≤ (seen l.device).faults;
      reads : (seen l.fn.device).tells_reads ≡ true → (seen l.fn.device).reads < 2 ^ 64 → (seen l.device).reads ≡ raised (seen l.fn.device).reads (l.k - 1);
      fitted : Holds (FitBetween 1 l.k l.fn.shape) (seen l.fn.device);
      counted : length l.tallies.items ≡ l.fn.shape.pages;
      names : Holds (λ image. NamesTo l.fn.shape.pages (min l.fn.shape.blocks (1024 * (l.k - 1))) (map_of image) l.tallies.items l.mapped) (seen l.fn.device);
    }
