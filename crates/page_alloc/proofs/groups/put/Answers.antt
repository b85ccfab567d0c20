use Rattle.std.proofs.Common.{◌∙◌, ap, sym}
use Rattle.page_alloc.specs.Bits.{is_one}
use Rattle.page_alloc.proofs.BitLemmas.{none_is}
use Rattle.page_alloc.proofs.GroupLemmas.{indexed_removed}
use Rattle.page_alloc.proofs.groups.put.Goals as goal

pub returns-then-free-eq0-clause-indexed : goal.returns-then-free-eq0-clause-indexed
returns-then-free-eq0-clause-indexed c =
    indexed_removed c.args.groups.now c.args.free.now c.remove.new.self c.args.group c.args.marks c.remove.ensures.held c.requires.indexed c.requires.within c.remove.ensures.room
    (λ i lt. sym (c.free.ensures.bits i lt) ∙ ap (λ word. is_one word i) c.if-free-eq0.true ∙ none_is i)
