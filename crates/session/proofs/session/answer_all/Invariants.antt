use Rattle.std.proofs.Common.{◌≤◌}
use Rattle.session.specs.Answers.{at, Fits}
use Rattle.session.specs.Reading.{ReadsOn}
use Rattle.session.proofs.session.answer_all.Given as goal

abbrev pub invariant-loop-left : goal.invariant-loop-left
invariant-loop-left g l =
    let seen = g.D.Device.seen in
    record {
      reads : ReadsOn l.fn.line l.line (at l.fn.store (seen l.fn.device)) (at l.store (seen l.device)) (g.S.Source.seen l.fn.source) (g.S.Source.seen l.source) (g.K.Sink.seen l.fn.sink) (g.K.Sink.seen l.sink) l.left;
      fits : Fits l.store (seen l.device);
      faults : (seen l.fn.device).faults ≤ (seen l.device).faults;
      source_faults : (g.S.Source.seen l.fn.source).faults ≤ (g.S.Source.seen l.source).faults;
      sink_faults : (g.K.Sink.seen l.fn.sink).faults ≤ (g.K.Sink.seen l.sink).faults;
    }

abbrev pub decreases-loop-left : goal.decreases-loop-left
decreases-loop-left g l = l.left
