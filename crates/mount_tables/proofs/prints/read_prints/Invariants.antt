use Rattle.std.proofs.Common.{◌≡◌, ◌≤◌, ◌<◌, ◌+◌, ◌-◌, ◌*◌, ◌^◌, true, length, None}
use Rattle.page_device.specs.Counts.{raised}
use Rattle.page_layout.specs.Shape.{first_print_page}
use Rattle.finger_table.specs.Order.{print_in}
use Rattle.image_reader.specs.Looked.{Looked, Holds}
use Rattle.mount_tables.specs.Reading.{AreCounts, ArePrintsUpTo, ReadFit}
use Rattle.mount_tables.proofs.prints.read_prints.Given as goal

abbrev pub invariant-loop-k : goal.invariant-loop-k
invariant-loop-k g l =
    let seen = g.D.Device.seen in
    let shape = l.fn.shape in
    record {
      looked : Looked (seen l.fn.device) (seen l.device);
      pages : (seen l.device).pages ≡ (seen l.fn.device).pages;
      faults : (seen l.fn.device).faults ≤ (seen l.device).faults;
      reads : (seen l.fn.device).tells_reads ≡ true → (seen l.fn.device).reads < 2 ^ 64 → (seen l.device).reads ≡ raised (seen l.fn.device).reads (l.k - l.first);
      length_is : length l.table.items ≡ shape.pages + 1;
      none : print_in l.table.items 0 ≡ None;
      fitted : ReadFit (first_print_page shape) l.k shape (AreCounts shape l.fn.counts) (seen l.fn.device);
      read : Holds (ArePrintsUpTo (170 * (l.k - first_print_page shape)) shape l.table.items) (seen l.fn.device);
    }
