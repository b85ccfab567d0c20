use Rattle.engine_model.proofs.small_commands.fill_page.Goals as goal
use Rattle.engine_model.proofs.PageFilled.{filled_frame, filled_keeps, fills_page}

pub returns : goal.returns
returns c = record { composed = fills_page; frame = filled_frame; kept = filled_keeps }
