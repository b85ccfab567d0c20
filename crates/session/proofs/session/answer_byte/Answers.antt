use Rattle.std.proofs.Common.{◌≡◌, ℕ, List, [], ◌∷◌, ◌++◌, sym, subst}
use Rattle.session.specs.Answers.{at}
use Rattle.session.specs.Session.{SoFarWith, CutShort}
use Rattle.session.proofs.Bytes.{byte_more, line_answered, line_cut}
use Rattle.session.proofs.session.answer_byte.Goals as goal

pub returns-then-byte-ne-LINE_END-clause-goes : goal.returns-then-byte-ne-LINE_END-clause-goes
returns-then-byte-ne-LINE_END-clause-goes g c = λ b bytes w.
    let now = at c.args.store.now (g.D.Device.seen c.args.device.now) in
    let sink = g.K.Sink.seen c.args.sink.now in
    subst (λ (l : List ℕ). SoFarWith b (bytes ++ c.args.byte ∷ []) l now sink) (sym c.push.ensures) (byte_more b bytes c.args.line.now c.args.byte now sink c.if-byte-ne-LINE_END.true w)

pub returns-in-Ok-clause-goes : goal.returns-in-Ok-clause-goes
returns-in-Ok-clause-goes g c = λ b bytes w.
    let done = c.in-Ok.ensures.done in
    let byte : c.args.byte ≡ 10 = c.if-byte-ne-LINE_END.false in
    let from = at c.args.store.now (g.D.Device.seen c.args.device.now) in
    let to = at c.turn.new.store (g.D.Device.seen c.turn.new.device) in
    let sink = g.K.Sink.seen c.args.sink.now in
    let put = g.K.Sink.seen c.turn.new.sink in
    subst (λ (l : List ℕ). SoFarWith b (bytes ++ c.args.byte ∷ []) l to put) (sym c.clear.ensures)
    (subst (λ (n : ℕ). SoFarWith b (bytes ++ n ∷ []) [] to put) (sym byte)
    (line_answered b bytes c.bytes.result.now from to sink put (subst (λ (l : List ℕ). SoFarWith b bytes l from sink) (sym c.bytes.ensures) w) done.answer done.command done.put))

pub returns-in-Err-clause-goes : goal.returns-in-Err-clause-goes
returns-in-Err-clause-goes g c = λ b bytes w.
    let done = c.in-Err.ensures.done in
    let byte : c.args.byte ≡ 10 = c.if-byte-ne-LINE_END.false in
    let from = at c.args.store.now (g.D.Device.seen c.args.device.now) in
    let to = at c.turn.new.store (g.D.Device.seen c.turn.new.device) in
    let sink = g.K.Sink.seen c.args.sink.now in
    let put = g.K.Sink.seen c.turn.new.sink in
    subst (λ (n : ℕ). CutShort b (bytes ++ n ∷ []) to put) (sym byte)
    (line_cut b bytes c.bytes.result.now from to sink put (subst (λ (l : List ℕ). SoFarWith b bytes l from sink) (sym c.bytes.ensures) w) done.answer done.command done.put)
