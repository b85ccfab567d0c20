use Rattle.std.proofs.Common.{◌*◌, inl, inr, arith, length}
use Rattle.std.proofs.lemmas.Bool.{cases_lt}
use Rattle.page_alloc.proofs.NumberLemmas.{least_here, none_more, none_past}
use Rattle.page_alloc.proofs.numbers.least_of.Goals as goal

pub returns-in-Some-clause-least : goal.returns-in-Some-clause-least
returns-in-Some-clause-least c = least_here c.args.words.now c.loop-i.i c.in-Some.bit (omega arith) c.loop-i.invariant c.in-Some.ensures.lowest

pub loop-i-preserved : goal.loop-i-preserved
loop-i-preserved c = none_more c.args.words.now c.loop-i.i c.loop-i.invariant (c.in_default.ensures.none)

pub returns-clause-none : goal.returns-clause-none
returns-clause-none c k =
    elim (cases_lt k (64 * length c.args.words.now)) [
      | inl within ↦ c.loop-i.invariant k (omega arith)
      | inr past ↦ none_past c.args.words.now k past
    ]
