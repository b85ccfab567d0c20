use Rattle.std.proofs.Common.{arith, below_more}
use Rattle.page_layout.proofs.faults.number_fault.Goals as goal
use Rattle.page_layout.proofs.faults.number_fault.Goals.{then-i-used, else-i-used}

pub loop-i-preserved : goal.loop-i-preserved
loop-i-preserved c = below_more _ _ c.loop-i.invariant (record {
  within = λ used. elim c.if-i-used.branch [ then-i-used w ↦ omega (arith, c.number.ensures) | else-i-used w ↦ absurd (omega arith) ];
  behind = λ rest. elim c.if-i-used.branch [ then-i-used w ↦ absurd (omega arith) | else-i-used w ↦ omega (arith, c.number.ensures) ];
})
