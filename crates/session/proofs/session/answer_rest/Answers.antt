use Rattle.std.proofs.Common.{ℕ, List, refl, subst}
use Rattle.session.specs.Answers.{at, TurnDone}
use Rattle.session.proofs.Rests.{rest_turn, all_ended_lines}
use Rattle.session.proofs.session.answer_rest.Goals as goal

pub returns-clause-rest : goal.returns-clause-rest
returns-clause-rest g c = λ b bytes w.
    let from = at c.args.store.now (g.D.Device.seen c.args.device.now) in
    let to = at c.turn.new.store (g.D.Device.seen c.turn.new.device) in
    let sink = g.K.Sink.seen c.args.sink.now in
    let put = g.K.Sink.seen c.turn.new.sink in
    rest_turn b bytes c.args.line.now from sink w c.turn.result to put (λ is. cc (c.if-is_empty.ensures.1 is)) (subst (λ (l : List ℕ). TurnDone l c.turn.result from to sink put) c.bytes.ensures c.turn.ensures.done)

pub returns-then-is_empty-clause-rest : goal.returns-then-is_empty-clause-rest
returns-then-is_empty-clause-rest g c = λ b bytes w. all_ended_lines b bytes c.args.line.now (at c.args.store.now (g.D.Device.seen c.args.device.now)) (g.K.Sink.seen c.args.sink.now) w (c.if-is_empty.ensures.0 refl)
