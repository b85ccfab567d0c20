use Rattle.std.proofs.Common.{refl, sym}
use Rattle.cli_words.proofs.NumberLemmas.{if_none, no_end, same_next}
use Rattle.cli_words.proofs.number.value_of.Goals as goal

pub returns-in_err-value-clause-none : goal.returns-in_err-value-clause-none
returns-in_err-value-clause-none c =
    if_none c.from_residual.result _
    (no_end c.args.limit c.loop-digit.value c.loop-digit.digit-index _ c.args.digits.now c.loop-digit-test.true refl c.in_err-value.ensures c.loop-digit.invariant)

pub loop-digit-preserved : goal.loop-digit-preserved
loop-digit-preserved c =
    same_next c.args.limit c.loop-digit.value c.in_ok-value.value c.loop-digit.digit-index _ c.args.digits.now c.loop-digit-test.true refl
    c.in_ok-value.ensures.0 (sym c.in_ok-value.ensures.1) c.loop-digit.invariant
