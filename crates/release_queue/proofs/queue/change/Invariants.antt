use Rattle.std.proofs.Common.{◌≡◌, ◌++◌, map, take, drop}
use Rattle.release_queue.specs.Queued.{after_change}
use Rattle.release_queue.proofs.queue.change.Given as goal

abbrev pub invariant-loop-release : goal.invariant-loop-release
invariant-loop-release l = map (after_change l.page) l.initial.releases ≡ take l.release-index l.releases ++ map (after_change l.page) (drop l.release-index l.releases)
