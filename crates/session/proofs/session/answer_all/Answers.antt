use Rattle.std.proofs.lemmas.List.{take-append-le}
use Rattle.std.proofs.Common.{◌≡◌, inl, ℕ, zero, suc, ◌<◌, List, [], ◌++◌, length, take, drop, refl, sym, ◌∙◌, subst, ap, arith, length-take}
use Rattle.byte_ports.specs.Source.{Gives, gives_nothing}
use Rattle.session.specs.declared.session.Stop.TheVariants as stop
use Rattle.session.specs.Answers.{at}
use Rattle.session.proofs.Readings.{reads_none, reads_stop, reads_more, reads_cut}
use Rattle.session.proofs.session.answer_all.Goals as goal

above_zero : (n : ℕ) → (n ≡ 0 → ⊥) → 0 < n
above_zero zero h = absurd (h refl)
above_zero (suc n) h = omega arith

pub loop-left-init : goal.loop-left-init
loop-left-init g c = record {
  reads = reads_none c.args.line.now (at c.args.store.now (g.D.Device.seen c.args.device.now)) (g.S.Source.seen c.args.source.now) (g.K.Sink.seen c.args.sink.now);
  fits = c.requires;
  faults = omega arith;
  source_faults = omega arith;
  sink_faults = omega arith;
}

pub returns-in-Ok-eq0-clause-reads : goal.returns-in-Ok-eq0-clause-reads
returns-in-Ok-eq0-clause-reads g c =
    let l = c.loop-left in
    let r = c.in-Ok-eq0.ensures in
    let source = g.S.Source.seen l.source in
    let later = g.S.Source.seen c.take.new.self in
    let gave : Gives [] source later = subst (λ (n : ℕ). Gives (take n c.take.new.into) source later) c.in-Ok-eq0.field-0-test r.given in
    let some : 0 < length c.take.new.into = omega (arith, c.take.auto.into, length-take c.room-room.result l.piece, c.room-room.ensures.some c.loop-left-test.true, c.room-room.ensures.few) in
    reads_stop c.args.line.now l.line (at c.args.store.now (g.D.Device.seen c.args.device.now)) (at l.store (g.D.Device.seen l.device)) (g.S.Source.seen c.args.source.now) source (g.K.Sink.seen c.args.sink.now) (g.K.Sink.seen l.sink) l.left l.invariant.reads stop.End later
    gave (λ _ _ w. w) (λ _. let h = r.end c.in-Ok-eq0.field-0-test some in
    record { nothing_left = λ tells. let told = sym gave.tells ∙ tells in sym (gave.left told) ∙ h.nothing_left told; never_fewer = h.never_fewer; ends = h.ends })
    (λ other. absurd (other refl)) (λ _. c.loop-left-test.true) (λ is. absurd (cc is))

pub loop-left-preserved : goal.loop-left-preserved
loop-left-preserved g c =
    let l = c.loop-left in
    let source = g.S.Source.seen l.source in
    let later = g.S.Source.seen c.take.new.self in
    let whole = c.take.new.into ++ drop c.room-room.result l.piece in
    let same : take c.in-Ok.taken whole ≡ take c.in-Ok.taken c.take.new.into = take-append-le c.in-Ok.taken c.take.new.into (drop c.room-room.result l.piece) c.in-Ok.ensures.bound in
    record {
      reads = reads_more c.args.line.now l.line (at c.args.store.now (g.D.Device.seen c.args.device.now)) (at l.store (g.D.Device.seen l.device)) (g.S.Source.seen c.args.source.now) source (g.K.Sink.seen c.args.sink.now) (g.K.Sink.seen l.sink) l.left l.invariant.reads
          (take c.in-Ok.taken whole) c.answer_piece.new.line (at c.answer_piece.new.store (g.D.Device.seen c.answer_piece.new.device)) later (g.K.Sink.seen c.answer_piece.new.sink)
          (subst (λ (p : List ℕ). Gives p source later) (sym same) c.in-Ok.ensures.given) (c.in-Ok.ensures.no_end (inl (above_zero c.in-Ok.taken c.in-Ok.taken-test.1))) c.in-Ok.taken (omega (arith, ap length same, length-take c.in-Ok.taken c.take.new.into, c.in-Ok.ensures.bound)) (omega (arith, c.in-Ok.ensures.bound, c.take.auto.into, length-take c.room-room.result l.piece, c.room-room.ensures.within)) c.in-Ok-answer_piece.ensures.goes;
      fits = c.in-Ok-answer_piece.ensures.fits;
      faults = omega (arith, l.invariant.faults, c.in-Ok-answer_piece.ensures.never_falls);
      source_faults = omega (arith, l.invariant.source_faults, c.in-Ok.ensures.cause.never_falls);
      sink_faults = omega (arith, l.invariant.sink_faults, c.in-Ok-answer_piece.ensures.cause.never_falls);
    }

pub returns-in-Err-answer_piece-clause-reads : goal.returns-in-Err-answer_piece-clause-reads
returns-in-Err-answer_piece-clause-reads g c =
    let l = c.loop-left in
    let source = g.S.Source.seen l.source in
    let later = g.S.Source.seen c.take.new.self in
    let rest = drop c.room-room.result l.piece in
    let whole = c.take.new.into ++ rest in
    let same : take c.in-Ok.taken whole ≡ take c.in-Ok.taken c.take.new.into = take-append-le c.in-Ok.taken c.take.new.into rest c.in-Ok.ensures.bound in
    reads_cut c.args.line.now l.line (at c.args.store.now (g.D.Device.seen c.args.device.now)) (at l.store (g.D.Device.seen l.device)) (g.S.Source.seen c.args.source.now) source (g.K.Sink.seen c.args.sink.now) (g.K.Sink.seen l.sink) l.left l.invariant.reads
    (take c.in-Ok.taken whole) c.answer_piece.new.line (at c.answer_piece.new.store (g.D.Device.seen c.answer_piece.new.device)) later (g.K.Sink.seen c.answer_piece.new.sink)
    (subst (λ (p : List ℕ). Gives p source later) (sym same) c.in-Ok.ensures.given) (c.in-Ok.ensures.no_end (inl (above_zero c.in-Ok.taken c.in-Ok.taken-test.1))) c.in-Err-answer_piece.field-0 c.in-Err-answer_piece.ensures.goes

pub returns-in-Err-clause-reads : goal.returns-in-Err-clause-reads
returns-in-Err-clause-reads g c =
    let l = c.loop-left in
    let source = g.S.Source.seen l.source in
    let later = g.S.Source.seen c.take.new.self in
    reads_stop c.args.line.now l.line (at c.args.store.now (g.D.Device.seen c.args.device.now)) (at l.store (g.D.Device.seen l.device)) (g.S.Source.seen c.args.source.now) source (g.K.Sink.seen c.args.sink.now) (g.K.Sink.seen l.sink) l.left l.invariant.reads stop.Source later
    (gives_nothing source later c.in-Err.ensures.failed) (λ _ _ w. w) (λ is. absurd (cc is)) (λ _. c.in-Err.ensures.failed.ends) (λ _. c.loop-left-test.true) (λ is. absurd (cc is))
