use Rattle.std.proofs.Common.{◌≤◌, ◌-◌, length, take}
use Rattle.byte_ports.specs.Sink.{Takes}
use Rattle.byte_ports.proofs.sink.put_all.Given as goal

abbrev pub invariant-loop-at : goal.invariant-loop-at
invariant-loop-at g l = record {
  in_range : l.at ≤ length l.from;
  put : Takes (take l.at l.from) (g.K.Sink.seen l.fn.sink) (g.K.Sink.seen l.sink);
  faults : (g.K.Sink.seen l.fn.sink).faults ≤ (g.K.Sink.seen l.sink).faults;
}

abbrev pub decreases-loop-at : goal.decreases-loop-at
decreases-loop-at g l = length l.from - l.at
