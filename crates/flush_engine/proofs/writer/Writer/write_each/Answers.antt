use Rattle.std.proofs.Common.{ℕ, List, Err, get_or, subst, arith}
use Rattle.std.proofs.lemmas.List.{take_all}
use Rattle.dep_graph.specs.Schedules.{WritePage}
use Rattle.flush_engine.specs.View.{at}
use Rattle.flush_engine.specs.Steps.{Chain}
use Rattle.flush_engine.specs.Waves.{writes}
use Rattle.flush_engine.proofs.Chains.{chain_none}
use Rattle.flush_engine.proofs.FitLemmas.{no_failure, returned_none, step_returned}
use Rattle.flush_engine.proofs.WaveLemmas.{next_ready, written_next}
use Rattle.flush_engine.proofs.writer.Writer.write_each.Goals as goal

pub loop-page-init : goal.loop-page-init
loop-page-init g c = record { chain = chain_none g.W.Watch.told _; returned = returned_none g.W.Watch.told _ c.requires.fits }

pub write-requires-clause-ready : goal.write-requires-clause-ready
write-requires-clause-ready g c = next_ready g.W.Watch.told c.args.pages.now c.loop-page.page-index _ (at (g.D.Device.seen c.loop-page.device) c.loop-page.self c.loop-page.watch) c.requires.rising c.loop-page-test.true c.requires.ready c.loop-page.invariant.chain

pub loop-page-preserved : goal.loop-page-preserved
loop-page-preserved g c = record {
  chain = written_next g.W.Watch.told c.args.pages.now c.loop-page.page-index _ _ _ c.loop-page-test.true c.loop-page.invariant.chain c.in-Ok.ensures.step;
  returned = step_returned g.W.Watch.told no_failure (WritePage (get_or c.args.pages.now c.loop-page.page-index 0)) no_failure _ _ _ c.loop-page.invariant.returned c.in-Ok.ensures.cause c.in-Ok.ensures.step;
}

pub returns-in-Err-clause-writes : goal.returns-in-Err-clause-writes
returns-in-Err-clause-writes g c = record { done = c.loop-page.page-index; within = c.loop-page-test.true; last = _; chain = c.loop-page.invariant.chain; failed = c.in-Err.ensures.step }

pub returns-in-Err-clause-returned : goal.returns-in-Err-clause-returned
returns-in-Err-clause-returned g c = step_returned g.W.Watch.told no_failure (WritePage (get_or c.args.pages.now c.loop-page.page-index 0)) (Err c.in-Err.failed) _ _ _ c.loop-page.invariant.returned c.in-Err.ensures.cause c.in-Err.ensures.step

pub returns-clause-writes : goal.returns-clause-writes
returns-clause-writes g c = subst (λ (l : List ℕ). Chain g.W.Watch.told (writes l) (at (g.D.Device.seen c.args.device.now) c.args.self.now c.args.watch.now) (at (g.D.Device.seen c.loop-page.device) c.loop-page.self c.loop-page.watch)) (take_all c.loop-page.page-index c.args.pages.now (omega arith)) c.loop-page.invariant.chain

pub returns-clause-returned : goal.returns-clause-returned
returns-clause-returned g c = c.loop-page.invariant.returned
