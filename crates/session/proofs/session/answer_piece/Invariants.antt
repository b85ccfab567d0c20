use Rattle.std.proofs.Common.{◌≤◌, ℕ, List, take, Ok}
use Rattle.page_device.specs.declared.error.Failed.{Failed}
use Rattle.session.specs.Answers.{at, Fits}
use Rattle.session.specs.Session.{Begin, Goes}
use Rattle.session.proofs.session.answer_piece.Given as goal

abbrev pub invariant-loop-byte : goal.invariant-loop-byte
invariant-loop-byte g l =
    let seen = g.D.Device.seen in
    record {
      goes : (b : Begin) (bytes : List ℕ) → Goes {E = Failed} b bytes (take l.byte-index l.piece) (Ok tt) l.fn.line l.line (at l.fn.store (seen l.fn.device)) (at l.store (seen l.device)) (g.K.Sink.seen l.fn.sink) (g.K.Sink.seen l.sink);
      fits : Fits l.store (seen l.device);
      faults : (seen l.fn.device).faults ≤ (seen l.device).faults;
      sink_faults : (g.K.Sink.seen l.fn.sink).faults ≤ (g.K.Sink.seen l.sink).faults;
    }
