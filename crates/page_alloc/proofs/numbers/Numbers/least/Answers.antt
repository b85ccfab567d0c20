use Rattle.std.proofs.Common.{◌≡◌, ℕ, ◌*◌, ◌+◌, ◌<◌, List, length, get_or, subst}
use Rattle.std.proofs.lemmas.List.{get_or_read}
use Rattle.page_alloc.specs.Numbers.{IsLeast, HoldsNone}
use Rattle.page_alloc.specs.Bits.{IsLowestBit}
use Rattle.page_alloc.proofs.NumberLemmas.{least_in, none_in, word_within}
use Rattle.page_alloc.proofs.numbers.Numbers.least.Goals as goal

pub returns-in-Some-lowest_bit-clause-least : goal.returns-in-Some-lowest_bit-clause-least
returns-in-Some-lowest_bit-clause-least c =
    let words = c.self.inside.words.items in
    let first = subst (λ (l : List ℕ). IsLeast l c.in-Some.word) c.deref.ensures.value c.in-Some.ensures.least in
    let within : c.in-Some.word < length words = word_within words c.self.inside.tops.items c.self.invariant c.in-Some.word first.here in
    let read : c.index.result.now ≡ get_or words c.in-Some.word 0 = get_or_read words c.in-Some.word _ within c.index.ensures 0 in
    subst (λ (l : List ℕ). IsLeast l (64 * c.in-Some.word + c.in-Some-lowest_bit.bit)) c.self.view_is
    (least_in c.self.inside.words.items c.self.inside.tops.items c.self.invariant c.in-Some.word c.in-Some-lowest_bit.bit first
    (subst (λ (word : ℕ). IsLowestBit word c.in-Some-lowest_bit.bit) read c.in-Some-lowest_bit.ensures.lowest))

pub returns-in-None-clause-none : goal.returns-in-None-clause-none
returns-in-None-clause-none c =
    subst HoldsNone c.self.view_is (none_in c.self.inside.words.items c.self.inside.tops.items c.self.invariant (subst HoldsNone c.deref.ensures.value c.in-None.ensures.none))
