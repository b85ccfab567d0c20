use Rattle.cli_words.proofs.NumberLemmas.{SameFrom}
use Rattle.cli_words.proofs.number.value_of.Given as goal

abbrev pub invariant-loop-digit : goal.invariant-loop-digit
invariant-loop-digit l = SameFrom l.limit l.value l.digit-index l.digits
