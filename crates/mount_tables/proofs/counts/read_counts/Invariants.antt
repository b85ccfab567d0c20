use Rattle.std.proofs.Common.{◌≡◌, ◌≤◌, ◌<◌, ◌-◌, ◌*◌, ℕ, length, ◌^◌, true}
use Rattle.page_device.specs.Counts.{raised}
use Rattle.page_layout.specs.Shape.{first_count_page}
use Rattle.image_reader.specs.Looked.{Looked, Holds}
use Rattle.image_reader.specs.Tallies.{tally_of}
use Rattle.mount_tables.specs.Reading.{AreCountsUpTo, AreTallies, ReadFit}
use Rattle.mount_tables.proofs.counts.read_counts.Given as goal

abbrev pub invariant-loop-k : goal.invariant-loop-k
invariant-loop-k g l =
    let seen = g.D.Device.seen in
    let shape = l.fn.shape in
    record {
      looked : Looked (seen l.fn.device) (seen l.device);
      pages : (seen l.device).pages ≡ (seen l.fn.device).pages;
      faults : (seen l.fn.device).faults ≤ (seen l.device).faults;
      reads : (seen l.fn.device).tells_reads ≡ true → (seen l.fn.device).reads < 2 ^ 64 → (seen l.device).reads ≡ raised (seen l.fn.device).reads (l.k - l.first);
      length_is : length l.tallies.items ≡ shape.pages;
      rest : (p : ℕ) → 1024 * (l.k - first_count_page shape) < p → tally_of l.tallies.items p ≡ tally_of l.fn.tallies.items p;
      few : (p : ℕ) → 1 ≤ p → p ≤ 1024 * (l.k - first_count_page shape) → p ≤ shape.pages → tally_of l.tallies.items p ≤ 2147483647;
      fitted : ReadFit (first_count_page shape) l.k shape (AreTallies shape l.fn.tallies.items) (seen l.fn.device);
      read : Holds (AreCountsUpTo (1024 * (l.k - first_count_page shape)) shape l.tallies.items) (seen l.fn.device);
    }
