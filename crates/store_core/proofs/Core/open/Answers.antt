use Rattle.std.proofs.Common.{ap}
use Rattle.release_queue.specs.Queued.{QueueLists}
use Rattle.store_core.proofs.OpenedStands.{whole_opened}
use Rattle.store_core.proofs.Core.open.Goals as goal

pub invariant_of-result : goal.invariant_of-result
invariant_of-result c = record {
  whole = whole_opened c.args.shape c.args.size c.in-Ok.cache c.in-Ok-new.engine _ c.in-Ok.ensures c.in-Ok-new.ensures (ap (λ (q : QueueLists). q.releases) c.in-Ok-new-2.ensures) c.requires.pool c.new-births.ensures.recorded;
}
