use Rattle.std.proofs.Common.{arith}
use Rattle.release_queue.proofs.queue.Queue.len.Goals as goal

pub overflow_cast-result : goal.overflow_cast-result
overflow_cast-result c = omega (arith, c.self.invariant.1.within, c.self.invariant.1.small)
