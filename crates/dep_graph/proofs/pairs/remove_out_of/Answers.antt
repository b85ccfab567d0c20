use Rattle.std.proofs.Common.{List, subst, sym, ◌∙◌, not, eqb}
use Rattle.dep_graph.specs.declared.pairs.Pair.{Pair}
use Rattle.dep_graph.specs.Pairs.{AreRising, IsRange, Precedes}
use Rattle.dep_graph.proofs.PairLemmas.{range_filter}
use Rattle.dep_graph.proofs.RisingLemmas.{rises_filter}
use Rattle.dep_graph.proofs.pairs.remove_out_of.Goals as goal

pub returns-clause-items : goal.returns-clause-items
returns-clause-items c =
    let range = subst (λ (l : List Pair). IsRange l c.args.page c.range_of-first.result.0 c.range_of-first.result.1) c.deref.ensures.value c.range_of-first.ensures in
    c.cut_out.ensures.items ∙ sym (range_filter c.args.pairs.now.items c.args.page c.range_of-first.result.0 c.range_of-first.result.1 range).1

pub returns-clause-rising : goal.returns-clause-rising
returns-clause-rising c =
    let range = subst (λ (l : List Pair). IsRange l c.args.page c.range_of-first.result.0 c.range_of-first.result.1) c.deref.ensures.value c.range_of-first.ensures in
    let is = c.cut_out.ensures.items ∙ sym (range_filter c.args.pairs.now.items c.args.page c.range_of-first.result.0 c.range_of-first.result.1 range).1 in
    subst AreRising (sym is) (rises_filter Precedes (λ p. not (eqb p.before c.args.page)) c.args.pairs.now.items c.requires)
