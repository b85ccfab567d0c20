use Rattle.engine_model.proofs.any_device.drain_on_any_device.Goals as goal
use Rattle.engine_model.proofs.Ordering.{any_drained, run_order}

pub returns : goal.returns
returns c = record { kept = run_order; drained = any_drained }
