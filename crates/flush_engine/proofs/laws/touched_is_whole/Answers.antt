use Rattle.flush_engine.proofs.EditLemmas.{touched_fits, touched_whole}
use Rattle.flush_engine.proofs.laws.touched_is_whole.Goals as goal

pub returns : goal.returns
returns c = record { whole = touched_whole; fits = touched_fits }
