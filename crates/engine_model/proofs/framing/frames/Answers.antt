use Rattle.engine_model.proofs.framing.frames.Goals as goal
use Rattle.engine_model.proofs.Frames.{frame_after, frame_exact, frame_rest, frame_same, frame_then, step_frame}

pub returns : goal.returns
returns c = record {
  none = frame_same;
  then_more = frame_then;
  step = λ lay top apart m n s g. step_frame lay apart m top n s g;
  edge = λ lay apart m before after dirty. frame_after lay apart m before after dirty;
  exact = frame_exact;
  edits = λ lay x m n f. frame_rest lay x m.world n.world f.marks;
}
