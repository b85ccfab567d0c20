use Rattle.std.proofs.Common.{◌≡◌, ◌++◌, map, take, drop}
use Rattle.release_queue.specs.Queued.{after_barrier}
use Rattle.release_queue.proofs.queue.fix.Given as goal

abbrev pub invariant-loop-release : goal.invariant-loop-release
invariant-loop-release l = map after_barrier l.initial.releases ≡ take l.release-index l.releases ++ map after_barrier (drop l.release-index l.releases)
