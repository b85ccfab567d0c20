use Rattle.std.proofs.Common.{◌≡◌, ◌++◌, map, take, drop}
use Rattle.flush_engine.specs.Tallies.{older}
use Rattle.flush_engine.proofs.tallies.raise_each.Given as goal

abbrev pub invariant-loop-tally : goal.invariant-loop-tally
invariant-loop-tally l = map older l.initial.tallies ≡ take l.tally-index l.tallies ++ map older (drop l.tally-index l.tallies)
