use Rattle.engine_model.proofs.scanning.corrected.Goals as goal
use Rattle.engine_model.proofs.Corrected.{correct_keeps, sure}
use Rattle.engine_model.proofs.ReleasedContents.{correct_contents}

pub returns : goal.returns
returns c = record {
  counts = λ lay top w v p apart old x. correct_keeps lay top w v p apart old x;
  contents = correct_contents;
  named = sure;
}
