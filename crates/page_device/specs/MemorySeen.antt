-- What a device in memory tells: everything, and whether it lies.
use Rattle.std.specs.Prelude.{ℕ, List, true, length}
use Rattle.page_device.specs.declared.device.LogEntry.{LogEntry}
use Rattle.page_device.specs.Disk.{DeviceState, state_after, at_rest}
use Rattle.page_device.specs.Meaning.{Meaning}
use Rattle.page_device.specs.Memory.{MemoryView, tells_truth}

-- all is told
abbrev pub telling : ℕ → ℕ → ℕ → DeviceState → List LogEntry → Meaning
telling pages faults reads state log = record {
  honest = true;
  tells_pages = true;
  tells_log = true;
  tells_reads = true;
  pages = pages;
  faults = faults;
  calls = length log;
  reads = reads;
  state = state;
  log = log;
}

-- it is honest as long as no lie is planned
abbrev pub memory_seen : MemoryView → Meaning
memory_seen m = record (telling (length m.start) m.faults m.reads (state_after (at_rest m.start) m.all) m.all) { honest = tells_truth m.lies }
