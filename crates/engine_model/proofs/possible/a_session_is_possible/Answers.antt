use Rattle.engine_model.proofs.possible.a_session_is_possible.Goals as goal
use Rattle.engine_model.proofs.Session.{mounted_kept, printed_apart, sample_pass, sample_run}
use Rattle.std.proofs.Common.{refl}

pub returns : goal.returns
returns c = record {
  start = (printed_apart, mounted_kept);
  run = sample_run;
  pass = sample_pass;
  free = refl;
}
