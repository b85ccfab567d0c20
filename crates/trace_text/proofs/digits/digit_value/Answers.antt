use Rattle.std.proofs.Common.{◌+◌, ◌%◌, arith}
use Rattle.trace_text.proofs.Pairs.{value_of}
use Rattle.trace_text.proofs.digits.digit_value.Goals as goal

pub returns-then-place-lt55 : goal.returns-then-place-lt55
returns-then-place-lt55 c =
    let byte = c.args.byte in
    let fits = c.ranges.byte in
    let inside = c.if-place-lt55.true in
    value_of byte ((byte + 208) % 256) (omega arith) inside
