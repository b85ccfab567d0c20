use Rattle.std.proofs.Common.{◌≡◌, ◌≤◌}
use Rattle.dedup_writer.proofs.FlushLemmas.{FlushedUpTo}
use Rattle.dedup_writer.proofs.store.Store.flush.Given as goal

abbrev pub invariant-loop-index : goal.invariant-loop-index
invariant-loop-index g l =
    let seen = g.D.Device.seen in
    record {
      so_far : FlushedUpTo l.index l.fn.self l.self (seen l.fn.device) (seen l.device);
      shape : l.self.tables.shape ≡ l.fn.self.tables.shape;
      pages : (seen l.device).pages ≡ (seen l.fn.device).pages;
      faults : (seen l.fn.device).faults ≤ (seen l.device).faults;
    }
