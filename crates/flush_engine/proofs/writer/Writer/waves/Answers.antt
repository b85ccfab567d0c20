use Rattle.std.proofs.Common.{refl, [], ◌∷◌, ◌++◌, Err, arith}
use Rattle.flush_engine.proofs.FitLemmas.{no_failure, returned_none, returned_then}
use Rattle.flush_engine.proofs.WaveLemmas.{wave_falls, waves_none, waves_then}
use Rattle.flush_engine.proofs.writer.Writer.waves.Goals as goal

pub loop-target-init : goal.loop-target-init
loop-target-init g c = record { waves = ([], waves_none g.W.Watch.told c.args.target _); returned = returned_none g.W.Watch.told _ c.requires.fits; room = omega arith }

pub loop-target-preserved : goal.loop-target-preserved
loop-target-preserved g c = record {
  waves = (c.loop-target.invariant.waves.0 ++ c.in-Ok.ensures.wave.0 ∷ [], waves_then g.W.Watch.told c.args.target c.loop-target.invariant.waves.0 c.in-Ok.ensures.wave.0 _ _ _ c.loop-target.invariant.waves.1 c.in-Ok.ensures.wave.1);
  returned = returned_then g.W.Watch.told no_failure no_failure _ _ _ c.loop-target.invariant.returned c.in-Ok.ensures.returned;
  room = omega (arith, c.loop-target.invariant.room, c.in-Ok.ensures.room);
}

pub wave-requires-clause-room : goal.wave-requires-clause-room
wave-requires-clause-room g c = omega (arith, c.requires.room, c.loop-target.invariant.room, c.loop-target.invariant.returned.room)

pub loop-target-smaller : goal.loop-target-smaller
loop-target-smaller g c = wave_falls g.W.Watch.told c.args.target c.in-Ok.ensures.wave.0 _ _ c.in-Ok.ensures.wave.1 c.loop-target.invariant.returned.fits.whole.graph

pub returns-in-Err-clause-waves : goal.returns-in-Err-clause-waves
returns-in-Err-clause-waves g c = record { waves = c.loop-target.invariant.waves.0; last = _; done = c.loop-target.invariant.waves.1; failed = c.in-Err.ensures.wave }

pub returns-in-Err-clause-returned : goal.returns-in-Err-clause-returned
returns-in-Err-clause-returned g c = returned_then g.W.Watch.told no_failure (Err c.in-Err.failed) _ _ _ c.loop-target.invariant.returned c.in-Err.ensures.returned

pub returns-clause-waves : goal.returns-clause-waves
returns-clause-waves g c = record { waves = c.loop-target.invariant.waves.0; done = c.loop-target.invariant.waves.1; over = c.loop-target-test.ensures.over refl }

pub returns-clause-returned : goal.returns-clause-returned
returns-clause-returned g c = c.loop-target.invariant.returned
