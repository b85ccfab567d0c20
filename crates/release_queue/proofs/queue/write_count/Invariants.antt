use Rattle.std.proofs.Common.{◌≡◌, ◌++◌, map, take, drop}
use Rattle.release_queue.specs.Queued.{after_count_write}
use Rattle.release_queue.proofs.queue.write_count.Given as goal

abbrev pub invariant-loop-release : goal.invariant-loop-release
invariant-loop-release l = map (after_count_write l.count_page) l.initial.releases ≡ take l.release-index l.releases ++ map (after_count_write l.count_page) (drop l.release-index l.releases)
