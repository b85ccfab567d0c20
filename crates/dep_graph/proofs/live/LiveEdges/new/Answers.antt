use Rattle.std.proofs.Common.{refl}
use Rattle.dep_graph.specs.Rising.{Rises}
use Rattle.dep_graph.proofs.live.LiveEdges.new.Goals as goal

pub invariant_of-result : goal.invariant_of-result
unfolding Rises
invariant_of-result c = rw (c.new.ensures.items, c.new-2.ensures.items) (record { rising = tt; back_rising = tt; turned = λ a b. refl; each = refl })
