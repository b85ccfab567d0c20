use Rattle.std.proofs.Common.{◌∙◌, ap, arith, length}
use Rattle.finger_table.proofs.ListFunctions.{list_at_past}
use Rattle.finger_table.proofs.prints.Prints.from_table.Goals as goal

pub fill_lists-requires-clause-empty : goal.fill_lists-requires-clause-empty
fill_lists-requires-clause-empty c = λ k. c.make_lists.ensures.same k ∙ list_at_past c.new-lists.result.items k (omega (arith, ap length c.new-lists.ensures.items))
