use Rattle.engine_model.proofs.scanning.a_correction.Goals as goal
use Rattle.engine_model.proofs.Correction.{fixed_corrects}
use Rattle.engine_model.proofs.SmallScan.{fixes_drained, fixes_frame, fixes_keep}

pub returns : goal.returns
returns c = record {
  composed = λ lay top sound apart m n p k ready x. fixed_corrects lay top sound apart m k ready p x.is_data n x.printed x.print x.count;
  kept = fixes_keep;
  frame = fixes_frame;
  drained = fixes_drained;
}
