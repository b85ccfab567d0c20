use Rattle.trace_text.proofs.Numbers.{decimal_begins, plain_only, plain_read}
use Rattle.trace_text.proofs.number.plain_number.Goals as goal

pub returns-then-begins_plain-clause-read : goal.returns-then-begins_plain-clause-read
returns-then-begins_plain-clause-read c =
    plain_read c.args.text.now c.digits_number.result (c.begins_plain.ensures.0 c.if-begins_plain.true) c.digits_number.ensures

pub returns-then-begins_plain-clause-only : goal.returns-then-begins_plain-clause-only
returns-then-begins_plain-clause-only c = plain_only c.args.text.now c.digits_number.result c.digits_number.ensures

pub returns-else-begins_plain-clause-only : goal.returns-else-begins_plain-clause-only
returns-else-begins_plain-clause-only c =
    λ number small e.
    let begins = c.begins_plain.ensures.1 (decimal_begins c.args.text.now number small e) in
    let not = c.if-begins_plain.false in
    cc
