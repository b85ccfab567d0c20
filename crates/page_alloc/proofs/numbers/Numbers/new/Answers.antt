use Rattle.std.proofs.Common.{arith}
use Rattle.page_alloc.proofs.NumberLemmas.{summary_new, zeros_hold_none}
use Rattle.page_alloc.proofs.numbers.Numbers.new.Goals as goal

pub invariant_of-result : goal.invariant_of-result
invariant_of-result c =
    rw (c.in-Ok.ensures.items_if_clones_equal (λ _ is. is), c.in-Ok-vec.ensures.items_if_clones_equal (λ _ is. is))
    (summary_new c.div_ceil.result c.div_ceil-2.result (omega (arith, c.div_ceil.ensures, c.div_ceil-2.ensures)) (omega (arith, c.div_ceil.ensures)) (omega (arith, c.div_ceil-2.ensures)))

pub returns-clause-none : goal.returns-clause-none
returns-clause-none c k = rw (c.in-Ok.ensures.items_if_clones_equal (λ _ is. is)) (zeros_hold_none c.div_ceil.result k)
