use Rattle.std.proofs.Common.{◌≡◌, ◌≤◌, true, ℕ}
use Rattle.release_queue.specs.Queued.{is_marked}
use Rattle.release_queue.proofs.queue.Queue.next_look.Given as goal

abbrev pub invariant-loop-i : goal.invariant-loop-i
invariant-loop-i l = (k : ℕ) → is_marked l.self.releases k ≡ true → l.from ≤ k → l.i ≤ k
