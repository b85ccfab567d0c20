use Rattle.std.proofs.Common.{◌∙◌, zero, suc, refl, Err}
use Rattle.dep_graph.specs.Schedules.{WritePage}
use Rattle.flush_engine.proofs.FitLemmas.{failed_so, no_failure, returned_none, step_returned, went_on}
use Rattle.flush_engine.proofs.PickLemmas.{picks_none, picks_then, written_fewer}
use Rattle.flush_engine.proofs.writer.Writer.picks.Goals as goal

pub loop-failed-init : goal.loop-failed-init
loop-failed-init g c = record { picks = (zero, picks_none g.W.Watch.told _ _); offers = c.requires.offers; returned = returned_none g.W.Watch.told _ c.requires.fits; room = refl }

pub loop-failed-preserved : goal.loop-failed-preserved
loop-failed-preserved g c =
    let pick = rw c.in-Ok-true.field-0-test at c.in-Ok-true.ensures.pick in
    record {
      picks = (suc c.loop-failed.invariant.picks.0, picks_then g.W.Watch.told c.loop-failed.invariant.picks.0 _ _ _ _ _ _ c.loop-failed.invariant.picks.1 pick);
      offers = c.in-Ok-true.ensures.offers;
      returned = step_returned g.W.Watch.told no_failure (WritePage _) no_failure _ _ _ c.loop-failed.invariant.returned (went_on c.in-Ok-true.field-0 _ _ c.in-Ok-true.ensures.cause) pick.write;
      room = c.in-Ok-true.ensures.room ∙ c.loop-failed.invariant.room;
    }

pub loop-failed-smaller : goal.loop-failed-smaller
loop-failed-smaller g c =
    let pick = rw c.in-Ok-true.field-0-test at c.in-Ok-true.ensures.pick in
    written_fewer g.W.Watch.told _ _ _ pick.write

pub returns-in-Err-clause-returned : goal.returns-in-Err-clause-returned
returns-in-Err-clause-returned g c = step_returned g.W.Watch.told no_failure (WritePage _) (Err c.in-Err.failed) _ _ _ c.loop-failed.invariant.returned (failed_so c.in-Err.failed _ _ c.in-Err.ensures.cause) c.in-Err.ensures.pick.write
