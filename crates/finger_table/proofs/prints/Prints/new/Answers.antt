use Rattle.finger_table.proofs.ListFunctions.{none_indexed}
use Rattle.finger_table.proofs.prints.Prints.new.Goals as goal

pub invariant_of-result : goal.invariant_of-result
invariant_of-result c = none_indexed c.new.result.items c.new-2.result.items c.new.ensures.items c.new-2.ensures.items
