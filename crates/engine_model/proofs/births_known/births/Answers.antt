use Rattle.engine_model.proofs.births_known.births.Goals as goal
use Rattle.engine_model.proofs.BirthWords.{unborn_from, unborn_to}
use Rattle.engine_model.proofs.Births.{unborn_births}
use Rattle.engine_model.proofs.Corollaries.{dirty_no_name, dirty_no_print}
use Rattle.engine_model.proofs.Flushes.{none_recorded}
use Rattle.engine_model.proofs.Schedule.{tells}

pub returns : goal.returns
returns c = record {
  unborn = unborn_births;
  words = λ slot x page v calls g. (unborn_to slot x page v calls g, unborn_from slot x page v calls g);
  known = tells;
  nothing = none_recorded;
  dirty_name = dirty_no_name;
  dirty_print = dirty_no_print;
}
