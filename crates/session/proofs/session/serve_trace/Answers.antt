use Rattle.std.proofs.Common.{ℕ, List, [], refl, sym, subst, arith, ⊎_elim, inl, inr}
use Rattle.std.proofs.lemmas.Bool.{cases_lt}
use Rattle.session.specs.Answers.{at}
use Rattle.session.specs.Session.{Begin, SoFarWith}
use Rattle.session.specs.Endings.{ClosesAs, source_failed, limit_reached}
use Rattle.session.proofs.Bytes.{so_far_none}
use Rattle.session.proofs.Ends.{served_closed, served_so_far, served_by_cut}
use Rattle.session.proofs.session.serve_trace.Goals as goal

pub returns-in-End-clause-source_cause : goal.returns-in-End-clause-source_cause
returns-in-End-clause-source_cause g c = λ is. absurd (subst ClosesAs is c.close.ensures.one_of)

pub returns-in-End-clause-device_cause : goal.returns-in-End-clause-device_cause
returns-in-End-clause-device_cause g c = λ is few. ⊎_elim
    (λ risen. omega (arith, risen, c.close.ensures.device_rises))
    (λ still. omega (arith, still, c.in-End.ensures.never_falls, c.close.ensures.device_cause is (omega (arith, still, few, c.in-End.ensures.never_falls))))
    (cases_lt (g.D.Device.seen c.args.device.now).faults (g.D.Device.seen c.answer_all.new.device).faults)

pub returns-in-End-clause-served : goal.returns-in-End-clause-served
returns-in-End-clause-served g c =
    let first = at c.args.store.now (g.D.Device.seen c.args.device.now) in
    let sink = g.K.Sink.seen c.args.sink.now in
    let b : Begin = record { moment = first; sink = sink } in
    let r = c.in-End.ensures.reads in
    let begin = subst (λ (l : List ℕ). SoFarWith b [] l first sink) (sym c.new-line.ensures) (so_far_none b) in
    served_closed b c.close.result (at c.close.new.store (g.D.Device.seen c.close.new.device)) (g.S.Source.seen c.args.source.now) (g.S.Source.seen c.answer_all.new.source) (g.K.Sink.seen c.close.new.sink) r.bytes r.gives (r.ended refl) (r.few (inl refl))
    (c.close.ensures.closed b r.bytes (r.goes b [] begin))

pub returns-in-Source-clause-served : goal.returns-in-Source-clause-served
returns-in-Source-clause-served g c =
    let first = at c.args.store.now (g.D.Device.seen c.args.device.now) in
    let now = at c.answer_all.new.store (g.D.Device.seen c.answer_all.new.device) in
    let sink = g.K.Sink.seen c.args.sink.now in
    let read = g.K.Sink.seen c.answer_all.new.sink in
    let b : Begin = record { moment = first; sink = sink } in
    let r = c.in-Source.ensures.reads in
    let begin = subst (λ (l : List ℕ). SoFarWith b [] l first sink) (sym c.new-line.ensures) (so_far_none b) in
    let w = r.goes b [] begin in
    served_so_far b now (g.S.Source.seen c.args.source.now) (g.S.Source.seen c.answer_all.new.source) c.end_with.result read (g.K.Sink.seen c.end_with.new.sink) r.bytes c.answer_all.new.line r.gives (r.not_ended (λ is. cc is)) w
    (λ some. source_failed tt some (r.few (inr refl)) (c.in-Source.ensures.source_cause refl) (record { after_texts = read; put = w.so_far.put; last_line = c.end_with.ensures.put }))

pub returns-in-Sink-clause-served : goal.returns-in-Sink-clause-served
returns-in-Sink-clause-served g c =
    let first = at c.args.store.now (g.D.Device.seen c.args.device.now) in
    let now = at c.answer_all.new.store (g.D.Device.seen c.answer_all.new.device) in
    let sink = g.K.Sink.seen c.args.sink.now in
    let b : Begin = record { moment = first; sink = sink } in
    let r = c.in-Sink.ensures.reads in
    let begin = subst (λ (l : List ℕ). SoFarWith b [] l first sink) (sym c.new-line.ensures) (so_far_none b) in
    served_by_cut b now (g.S.Source.seen c.args.source.now) (g.S.Source.seen c.answer_all.new.source) (g.K.Sink.seen c.answer_all.new.sink) r.bytes r.gives (r.not_ended (λ is. cc is)) (r.goes b [] begin)

pub returns-in-Limit-clause-served : goal.returns-in-Limit-clause-served
returns-in-Limit-clause-served g c =
    let first = at c.args.store.now (g.D.Device.seen c.args.device.now) in
    let now = at c.answer_all.new.store (g.D.Device.seen c.answer_all.new.device) in
    let sink = g.K.Sink.seen c.args.sink.now in
    let read = g.K.Sink.seen c.answer_all.new.sink in
    let b : Begin = record { moment = first; sink = sink } in
    let r = c.in-Limit.ensures.reads in
    let begin = subst (λ (l : List ℕ). SoFarWith b [] l first sink) (sym c.new-line.ensures) (so_far_none b) in
    let w = r.goes b [] begin in
    served_so_far b now (g.S.Source.seen c.args.source.now) (g.S.Source.seen c.answer_all.new.source) c.end_with-in-Limit.result read (g.K.Sink.seen c.end_with-in-Limit.new.sink) r.bytes c.answer_all.new.line r.gives (r.not_ended (λ is. cc is)) w
    (λ some. limit_reached tt some (r.limit refl) (record { after_texts = read; put = w.so_far.put; last_line = c.end_with-in-Limit.ensures.put }))
