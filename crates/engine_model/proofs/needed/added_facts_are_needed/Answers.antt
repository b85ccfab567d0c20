use Rattle.engine_model.proofs.needed.added_facts_are_needed.Goals as goal
use Rattle.engine_model.proofs.Counterexamples.{overwrite_moves, overwrite_taken, overwritten_contents, overwritten_engine, stale_contents, stale_engine, stale_unfit, torn, torn_unfit}
use Rattle.std.proofs.Common.{false}

pub returns : goal.returns
returns c = record {
  overwritten = (overwritten_engine, overwritten_contents false, overwrite_taken, overwrite_moves, torn, torn_unfit false);
  stale = (stale_engine, stale_contents false, stale_unfit false);
}
