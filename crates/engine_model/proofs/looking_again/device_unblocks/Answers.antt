use Rattle.engine_model.proofs.looking_again.device_unblocks.Goals as goal
use Rattle.engine_model.proofs.LooksAgain.{barrier_blocked, count_written_open, refused_blocked, taken_blocked, written_blocked}

pub returns : goal.returns
returns c = record {
  written = λ lay apart m page r lt is none ne b. written_blocked lay m r apart lt is page none ne b;
  count_written = λ lay apart m r lt is b. count_written_open lay m r apart lt is b;
  taken = λ lay m page r b. taken_blocked lay m r page b;
  refused = λ lay m page r b. refused_blocked lay m r page b;
  barrier = λ lay m r b. barrier_blocked lay m r b;
}
