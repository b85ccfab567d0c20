use Rattle.std.proofs.Common.{ℕ, ◌+◌, List, ◌++◌, take, drop, sym, ◌∙◌, ap, subst, append_assoc}
use Rattle.std.proofs.lemmas.List.{take_more, take-append-drop}
use Rattle.session.specs.Answers.{at}
use Rattle.session.specs.Session.{CutShort}
use Rattle.session.proofs.Bytes.{cut_longer}
use Rattle.session.proofs.session.answer_piece.Goals as goal

pub returns-in-Err-clause-goes : goal.returns-in-Err-clause-goes
returns-in-Err-clause-goes g c = λ b bytes w.
    let piece = c.args.piece.now in
    let i = c.loop-byte.byte-index in
    let now = at c.answer_byte.new.store (g.D.Device.seen c.answer_byte.new.device) in
    let sink = g.K.Sink.seen c.answer_byte.new.sink in
    let seen = take (i + 1) piece in
    let cut : CutShort b (bytes ++ seen) now sink =
    subst (λ (l : List ℕ). CutShort b l now sink) (append_assoc bytes (take i piece) _ ∙ ap (λ (l : List ℕ). bytes ++ l) (sym (take_more piece i 0 c.loop-byte-test.true)))
    (c.in-Err.ensures.goes b (bytes ++ take i piece) (c.loop-byte.invariant.goes b bytes w)) in
    subst (λ (l : List ℕ). CutShort b l now sink) (append_assoc bytes seen (drop (i + 1) piece) ∙ ap (λ (l : List ℕ). bytes ++ l) (take-append-drop (i + 1) piece))
    (cut_longer b (bytes ++ seen) (drop (i + 1) piece) now sink cut)
