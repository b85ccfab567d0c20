use Rattle.array_model.specs.Turns.{parts_of}
use Rattle.array_model.proofs.RunLemmas.{parts_whole, parts_have_none, all_lines}
use Rattle.array_model.proofs.laws.lines_are_cut.Goals as goal

pub returns-clause-whole : goal.returns-clause-whole
returns-clause-whole c = λ bytes. parts_whole bytes

pub returns-clause-ended : goal.returns-clause-ended
returns-clause-ended c = λ bytes. (parts_have_none bytes).ended

pub returns-clause-all : goal.returns-clause-all
returns-clause-all c = λ bytes. let h = parts_have_none bytes in all_lines (parts_of bytes).ended (parts_of bytes).rest h.ended h.rest
