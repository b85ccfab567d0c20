use Rattle.session.specs.Answers.{at}
use Rattle.session.proofs.Ends.{closed_well, closed_by_fault, closed_by_cut}
use Rattle.session.proofs.session.close.Goals as goal

pub returns-in-Ok-flush-clause-closed : goal.returns-in-Ok-flush-clause-closed
returns-in-Ok-flush-clause-closed g c = λ b bytes w.
    closed_well b bytes (at c.answer_rest.new.store (g.D.Device.seen c.answer_rest.new.device)) (at c.flush.new.self (g.D.Device.seen c.flush.new.device)) (g.K.Sink.seen c.answer_rest.new.sink) (c.in-Ok.ensures.rest b bytes w) c.in-Ok-flush.ensures.call

pub returns-in-Err-flush-clause-closed : goal.returns-in-Err-flush-clause-closed
returns-in-Err-flush-clause-closed g c = λ b bytes w.
    closed_by_fault b bytes (at c.answer_rest.new.store (g.D.Device.seen c.answer_rest.new.device)) (at c.flush.new.self (g.D.Device.seen c.flush.new.device)) (g.K.Sink.seen c.answer_rest.new.sink) (c.in-Ok.ensures.rest b bytes w)
    c.in-Err-flush.field-0 c.end_with.result (g.K.Sink.seen c.end_with.new.sink) c.in-Err-flush.ensures.call c.end_with.ensures.put

pub returns-in-Err-clause-closed : goal.returns-in-Err-clause-closed
returns-in-Err-clause-closed g c = λ b bytes w.
    closed_by_cut b bytes (at c.answer_rest.new.store (g.D.Device.seen c.answer_rest.new.device)) (g.K.Sink.seen c.answer_rest.new.sink) (c.in-Err.ensures.rest b bytes w)
