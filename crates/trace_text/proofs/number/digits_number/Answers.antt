use Rattle.std.proofs.Common.{arith}
use Rattle.trace_text.proofs.Numbers.{digit_at, read_more, read_too_large}
use Rattle.trace_text.proofs.number.digits_number.Goals as goal

pub returns-in_default : goal.returns-in_default
returns-in_default c =
    λ both. c.in_default.ensures.value (digit_at c.args.text.now c.loop-byte.byte-index both.0 c.loop-byte-test.true)

pub returns-in_default-with_digit : goal.returns-in_default-with_digit
returns-in_default-with_digit c =
    read_too_large c.args.text.now c.loop-byte.byte-index c.loop-byte.number c.in-Some.digit c.loop-byte.invariant
    c.loop-byte-test.true (omega (arith, c.in-Some.ensures.value.1)) c.in_default-with_digit.ensures

pub loop-byte-preserved : goal.loop-byte-preserved
loop-byte-preserved c =
    rw c.in-Some-with_digit.ensures.1
    (read_more c.args.text.now c.loop-byte.byte-index c.loop-byte.number c.in-Some.digit c.loop-byte.invariant
    c.loop-byte-test.true (omega (arith, c.in-Some.ensures.value.1)) (omega (arith, c.in-Some.ensures.value)) c.in-Some-with_digit.ensures.0)
