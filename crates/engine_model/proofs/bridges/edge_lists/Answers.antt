use Rattle.engine_model.proofs.bridges.edge_lists.Goals as goal
use Rattle.engine_model.proofs.Graphs.{acyclic_fewer, acyclic_more, barred_added, barred_barrier, barred_dropped, barred_wrote, live_added, live_barrier, live_dropped, live_wrote}
use Rattle.std.proofs.Common.{true, ◌≡◌}

pub returns : goal.returns
returns c = record {
  live_wrote = live_wrote;
  barred_wrote = barred_wrote;
  live_barrier = live_barrier;
  barred_barrier = barred_barrier;
  live_added = live_added;
  barred_added = barred_added;
  live_dropped = live_dropped;
  barred_dropped = barred_dropped;
  fewer = acyclic_fewer;
  more = λ live more extra only. acyclic_more live more (λ a b. extra a b ≡ true) only;
}
