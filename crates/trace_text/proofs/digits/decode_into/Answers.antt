use Rattle.std.proofs.Common.{◌*◌, ◌+◌, refl, ◌∙◌, arith}
use Rattle.std.specs.Prelude.{slice_index}
use Rattle.hex.proofs.HexLemmas.{decode_of-even}
use Rattle.hex.proofs.Pairs.{decode_done, decode_err, decode_step}
use Rattle.trace_text.proofs.Pairs.{digit_some, either_none, pair_err, pair_ok}
use Rattle.trace_text.proofs.digits.decode_into.Goals as goal

pub returns-then-high-gt15-clause-none : goal.returns-then-high-gt15-clause-none
returns-then-high-gt15-clause-none c =
    λ is.
    let digits = c.args.digits.now in
    let i = c.loop-i.i in
    let high = slice_index digits (2 * i) in
    let low = slice_index digits (2 * i + 1) in
    let inside = c.loop-i-test.true in
    let twice = c.requires in
    let bad = pair_err high low (2 * i) (either_none high low c.digit_value-high.result c.digit_value-low.result c.digit_value-high.ensures c.digit_value-low.ensures c.then-high-gt15.either) in
    rw (decode_of-even digits (omega arith) ∙ decode_err digits c.loop-i.bytes i bad.0 (omega arith) bad.1 c.loop-i.invariant) refl

pub loop-i-preserved : goal.loop-i-preserved
loop-i-preserved c =
    let digits = c.args.digits.now in
    let i = c.loop-i.i in
    let high = slice_index digits (2 * i) in
    let low = slice_index digits (2 * i + 1) in
    let inside = c.loop-i-test.true in
    let twice = c.requires in
    let same = c.loop-i.auto.bytes in
    let first = digit_some high c.digit_value-high.result c.digit_value-high.ensures c.if-high-gt15.false in
    let second = digit_some low c.digit_value-low.result c.digit_value-low.ensures c.if-low-gt15.false in
    decode_step digits c.loop-i.bytes i (c.digit_value-high.result * 16 + c.digit_value-low.result) (omega arith) (omega arith)
    (pair_ok high low (2 * i) c.digit_value-high.result c.digit_value-low.result first second) c.loop-i.invariant

pub returns-clause-some : goal.returns-clause-some
returns-clause-some c =
    λ is.
    let digits = c.args.digits.now in
    let end = c.loop-i-test.false in
    let twice = c.requires in
    let same = c.loop-i.auto.bytes in
    decode_of-even digits (omega arith) ∙ decode_done digits c.loop-i.bytes c.loop-i.i (omega arith) (omega arith) c.loop-i.invariant
