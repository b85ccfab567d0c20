use Rattle.trace_text.proofs.Numbers.{ReadSoFar}
use Rattle.trace_text.proofs.number.digits_number.Given as goal

abbrev pub invariant-loop-byte : goal.invariant-loop-byte
invariant-loop-byte l = ReadSoFar l.text l.byte-index l.number
