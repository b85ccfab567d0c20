use Rattle.std.proofs.Common.{sym, ap, ◌∙◌, ℕ, arith, List}
use Rattle.dep_graph.specs.declared.pairs.Pair.{Pair}
use Rattle.dep_graph.specs.Pairs.{has_pair, ends_at}
use Rattle.dep_graph.specs.Waits.{waits_for}
use Rattle.dep_graph.proofs.MoveLemmas.{is_there, barred_before}
use Rattle.dep_graph.proofs.moves.bar.Goals as goal

pub returns-then-contains-clause-pairs : goal.returns-then-contains-clause-pairs
returns-then-contains-clause-pairs c = λ a b. is_there (has_pair c.args.barred.now.items) c.args.pair.before c.args.pair.after a b
    (ap (λ (l : List Pair). has_pair l c.args.pair.before c.args.pair.after) (sym c.deref.ensures.value) ∙ sym c.contains.ensures ∙ c.if-contains.true)

pub returns-then-contains-clause-counts : goal.returns-then-contains-clause-counts
returns-then-contains-clause-counts c = λ b. barred_before c.args.pair b (waits_for c.args.dirty.now b) (waits_for c.args.dirty.now c.args.pair.after) (waits_for c.lower.new.self b) (ends_at c.args.barred.now.items b)
    (ap (λ (x : ℕ). waits_for c.args.dirty.now x)) c.requires.some (c.lower.ensures.counts b)

pub returns-else-contains-clause-counts : goal.returns-else-contains-clause-counts
returns-else-contains-clause-counts c = λ b. let e = c.insert.ensures.ends b in omega arith
