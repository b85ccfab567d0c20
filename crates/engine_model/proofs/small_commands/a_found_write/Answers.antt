use Rattle.engine_model.proofs.small_commands.a_found_write.Goals as goal
use Rattle.engine_model.proofs.FoundWrite.{found_frame, found_keeps, found_writes}

pub returns : goal.returns
returns c = record { composed = found_writes; frame = found_frame; kept = found_keeps }
