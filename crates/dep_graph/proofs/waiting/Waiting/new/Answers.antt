use Rattle.dep_graph.proofs.WaitLemmas.{nothing_waits}
use Rattle.dep_graph.proofs.waiting.Waiting.new.Goals as goal

pub invariant_of-result : goal.invariant_of-result
invariant_of-result c = nothing_waits _ _ _ c.new.ensures.items c.new-2.ensures.items c.new-3.ensures.items
