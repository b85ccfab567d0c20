use Rattle.std.proofs.Common.{refl, arith}
use Rattle.dep_graph.proofs.SearchLemmas.{nothing_marked}
use Rattle.dep_graph.proofs.search.Search.new.Goals as goal

pub invariant_of-result : goal.invariant_of-result
invariant_of-result c = rw c.new.ensures.items (nothing_marked _ _ c.new-2.ensures.items (λ k. refl), omega arith, omega arith)
