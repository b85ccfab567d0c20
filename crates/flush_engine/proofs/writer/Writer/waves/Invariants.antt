use Rattle.std.proofs.Common.{◌≤◌, ℕ, List, vec_capacity}
use Rattle.flush_engine.specs.View.{Returned, at}
use Rattle.flush_engine.specs.Waves.{WavesDone}
use Rattle.flush_engine.proofs.FitLemmas.{no_failure}
use Rattle.flush_engine.proofs.WaveLemmas.{size}
use Rattle.flush_engine.proofs.writer.Writer.waves.Given as goal

abbrev pub invariant-loop-target : goal.invariant-loop-target
invariant-loop-target g l = record {
  waves : (waves : List (List ℕ)) × WavesDone g.W.Watch.told l.target waves (at (g.D.Device.seen l.fn.device) l.fn.self l.fn.watch) (at (g.D.Device.seen l.device) l.self l.watch);
  returned : Returned no_failure (at (g.D.Device.seen l.fn.device) l.fn.self l.fn.watch) (at (g.D.Device.seen l.device) l.self l.watch);
  room : vec_capacity l.fn.due ≤ vec_capacity l.due;
}

abbrev pub decreases-loop-target : goal.decreases-loop-target
decreases-loop-target g l = size l.self.graph
