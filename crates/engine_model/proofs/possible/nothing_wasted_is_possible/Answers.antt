use Rattle.engine_model.proofs.possible.nothing_wasted_is_possible.Goals as goal
use Rattle.engine_model.proofs.CommandExamples.{flushed_settled, flushed_tight, mounted_tight, mounted_wants}
use Rattle.std.proofs.Common.{arith}

pub returns : goal.returns
returns c = record { settled = (flushed_tight, flushed_settled, omega arith); wanted = (mounted_tight, mounted_wants) }
