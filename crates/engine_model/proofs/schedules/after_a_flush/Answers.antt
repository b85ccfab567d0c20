use Rattle.engine_model.proofs.schedules.after_a_flush.Goals as goal
use Rattle.engine_model.proofs.AtRest.{flush_contents}
use Rattle.engine_model.proofs.Flushes.{reads_last}
use Rattle.engine_model.proofs.Later.{after_flush_reads}

pub returns : goal.returns
returns c = record {
  last = reads_last;
  cut = flush_contents;
  later = λ lay top sound apart format m n ns image l c k clean w calls pool alone r is lt last. after_flush_reads lay top sound apart format m n ns image l c k clean w calls pool alone r is lt last;
}
