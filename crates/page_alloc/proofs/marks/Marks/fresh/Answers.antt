use Rattle.page_alloc.proofs.MarkLemmas.{fresh_bit, behind_bit}
use Rattle.page_alloc.proofs.marks.Marks.fresh.Goals as goal

pub returns-clause-inside : goal.returns-clause-inside
returns-clause-inside c i lt = fresh_bit c.low_bits.result i (c.low_bits.ensures.inside i lt)

pub returns-clause-behind : goal.returns-clause-behind
returns-clause-behind c i le = behind_bit c.low_bits.result i (c.low_bits.ensures.behind i le)
