use Rattle.engine_model.proofs.version.version_switch.Goals as goal
use Rattle.engine_model.proofs.SwitchRuns.{placed_edited, switch_ends, switch_images}

pub returns : goal.returns
returns c = record {
  images = λ lay top sound next was apart s finger differ ns r. switch_images lay top sound next was apart s finger differ ns r;
  ends = λ lay top sound next was apart s finger differ ns r done stamped. switch_ends lay top sound next was apart s finger differ ns r done stamped;
  made = placed_edited;
}
