use Rattle.std.proofs.Common.{take}
use Rattle.flush_engine.specs.View.{Returned, at}
use Rattle.flush_engine.specs.Steps.{Chain}
use Rattle.flush_engine.specs.Waves.{writes}
use Rattle.flush_engine.proofs.FitLemmas.{no_failure}
use Rattle.flush_engine.proofs.writer.Writer.write_each.Given as goal

abbrev pub invariant-loop-page : goal.invariant-loop-page
invariant-loop-page g l = record {
  chain : Chain g.W.Watch.told (writes (take l.page-index l.pages)) (at (g.D.Device.seen l.fn.device) l.fn.self l.fn.watch) (at (g.D.Device.seen l.device) l.self l.watch);
  returned : Returned no_failure (at (g.D.Device.seen l.fn.device) l.fn.self l.fn.watch) (at (g.D.Device.seen l.device) l.self l.watch);
}
