use Rattle.std.proofs.Common.{◌≡◌, ℕ, length, vec_capacity}
use Rattle.flush_engine.specs.View.{Returned, at}
use Rattle.flush_engine.specs.Idle.{AreOffers, PicksDone}
use Rattle.flush_engine.proofs.FitLemmas.{no_failure}
use Rattle.flush_engine.proofs.writer.Writer.picks.Given as goal

abbrev pub invariant-loop-failed : goal.invariant-loop-failed
invariant-loop-failed g l = record {
  picks : (n : ℕ) × PicksDone g.W.Watch.told n ((goal.MergePolicy-dyn g l.fn.policy.now).seen l.fn.policy.now.1) (at (g.D.Device.seen l.fn.device) l.fn.self l.fn.watch) ((goal.MergePolicy-dyn g l.policy.now).seen l.policy.now.1) (at (g.D.Device.seen l.device) l.self l.watch);
  offers : AreOffers l.self l.offers.items;
  returned : Returned no_failure (at (g.D.Device.seen l.fn.device) l.fn.self l.fn.watch) (at (g.D.Device.seen l.device) l.self l.watch);
  room : vec_capacity l.offers ≡ vec_capacity l.fn.offers;
}

abbrev pub decreases-loop-failed : goal.decreases-loop-failed
decreases-loop-failed g l = length l.self.graph.dirty
