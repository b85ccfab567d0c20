use Rattle.engine_model.proofs.schedules.sessions_chain.Goals as goal
use Rattle.engine_model.proofs.Later.{next_session, reads_later}

pub returns : goal.returns
returns c = record {
  next = λ lay top sound format m n counted tables k rest is array calls all every pool. next_session lay top sound format m n counted tables k rest is array calls all every pool;
  later = λ lay top sound apart format m ns image k r is l lt. reads_later lay top sound apart format m ns image k r is l lt;
}
