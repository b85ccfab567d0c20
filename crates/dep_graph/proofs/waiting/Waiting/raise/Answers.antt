use Rattle.std.proofs.Common.{ap, ℕ, ◌+◌, List, subst, arith}
use Rattle.dep_graph.specs.Pages.{IsAt}
use Rattle.dep_graph.specs.Waits.{Waits, waits_for}
use Rattle.dep_graph.proofs.WaitLemmas.{read_is, changed_count, was_ready, first_raised, raised_again}
use Rattle.dep_graph.proofs.waiting.Waiting.raise.Goals as goal

pub overflow_add-count : goal.overflow_add-count
overflow_add-count c =
    let at = subst (λ (l : List ℕ). IsAt l c.args.page c.position_of-at.result) c.deref.ensures.value c.position_of-at.ensures in
    let is = read_is c.self.inside.pages.items c.self.inside.counts.items c.self.inside.ready.items c.position_of-at.result c.args.page c.index-count.result.now c.self.invariant at c.index-count.ensures in
    let same = ap (λ (w : Waits). waits_for w c.args.page) c.self.view_is in
    omega (arith, c.requires.few)

pub remove-requires-clause-present : goal.remove-requires-clause-present
remove-requires-clause-present c =
    let at = subst (λ (l : List ℕ). IsAt l c.args.page c.position_of-at.result) c.deref.ensures.value c.position_of-at.ensures in
    was_ready c.self.inside.pages.items c.self.inside.counts.items c.self.inside.ready.items c.position_of-at.result c.args.page c.index-count.result.now c.self.invariant at c.index-count.ensures c.if-count-eq0.true

pub invariant_of-self : goal.invariant_of-self
invariant_of-self c =
    let at = subst (λ (l : List ℕ). IsAt l c.args.page c.position_of-at.result) c.deref.ensures.value c.position_of-at.ensures in
    first_raised c.self.inside.pages.items c.self.inside.counts.items c.self.inside.ready.items c.position_of-at.result c.args.page c.index-count.result.now c.self.invariant at c.index-count.ensures c.if-count-eq0.true
    _ c.remove.ensures.rising c.remove.ensures.pages

pub invariant_of-self-else-count-eq0 : goal.invariant_of-self-else-count-eq0
invariant_of-self-else-count-eq0 c =
    let at = subst (λ (l : List ℕ). IsAt l c.args.page c.position_of-at.result) c.deref.ensures.value c.position_of-at.ensures in
    raised_again c.self.inside.pages.items c.self.inside.counts.items c.self.inside.ready.items c.position_of-at.result c.args.page c.index-count.result.now c.self.invariant at c.index-count.ensures c.if-count-eq0.false

pub returns-then-count-eq0-clause-counts : goal.returns-then-count-eq0-clause-counts
returns-then-count-eq0-clause-counts c =
    let at = subst (λ (l : List ℕ). IsAt l c.args.page c.position_of-at.result) c.deref.ensures.value c.position_of-at.ensures in
    λ a. rw (← c.self.view_is) (changed_count c.self.inside.pages.items c.self.inside.counts.items c.self.inside.ready.items c.position_of-at.result c.args.page c.index-count.result.now c.self.invariant at c.index-count.ensures (λ n. n + 1) a)

pub returns-else-count-eq0-clause-counts : goal.returns-else-count-eq0-clause-counts
returns-else-count-eq0-clause-counts c =
    let at = subst (λ (l : List ℕ). IsAt l c.args.page c.position_of-at.result) c.deref.ensures.value c.position_of-at.ensures in
    λ a. rw (← c.self.view_is) (changed_count c.self.inside.pages.items c.self.inside.counts.items c.self.inside.ready.items c.position_of-at.result c.args.page c.index-count.result.now c.self.invariant at c.index-count.ensures (λ n. n + 1) a)
