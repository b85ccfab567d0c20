use Rattle.std.proofs.Common.{ap, ℕ, ◌-◌, List, length, subst, arith}
use Rattle.dep_graph.specs.Pages.{IsAt}
use Rattle.dep_graph.specs.Waits.{Waits, waits_for}
use Rattle.dep_graph.proofs.PageLemmas.{found}
use Rattle.dep_graph.proofs.WaitLemmas.{read_is, changed_count, not_ready, ready_room, waits_present, last_lowered, lowered_more}
use Rattle.dep_graph.proofs.waiting.Waiting.lower.Goals as goal

pub position_of-at-requires-clause-present : goal.position_of-at-requires-clause-present
position_of-at-requires-clause-present c =
    let same = ap (λ (w : Waits). waits_for w c.args.page) c.self.view_is in
    rw c.deref.ensures.value (waits_present c.self.inside.pages.items c.self.inside.counts.items c.args.page (omega (arith, c.requires.some)))

pub overflow_sub-count : goal.overflow_sub-count
overflow_sub-count c =
    let at = subst (λ (l : List ℕ). IsAt l c.args.page c.position_of-at.result) c.deref.ensures.value c.position_of-at.ensures in
    let is = read_is c.self.inside.pages.items c.self.inside.counts.items c.self.inside.ready.items c.position_of-at.result c.args.page c.index-count.result.now c.self.invariant at c.index-count.ensures in
    let same = ap (λ (w : Waits). waits_for w c.args.page) c.self.view_is in
    omega (arith, c.requires.some)

pub insert-requires-clause-room : goal.insert-requires-clause-room
insert-requires-clause-room c =
    let at = subst (λ (l : List ℕ). IsAt l c.args.page c.position_of-at.result) c.deref.ensures.value c.position_of-at.ensures in
    let off = not_ready c.self.inside.pages.items c.self.inside.counts.items c.self.inside.ready.items c.position_of-at.result c.args.page c.index-count.result.now c.self.invariant at c.index-count.ensures (λ e. omega arith) in
    let lt = ready_room c.self.inside.pages.items c.self.inside.counts.items c.self.inside.ready.items c.args.page c.self.invariant (found c.self.inside.pages.items c.position_of-at.result c.args.page at.within at.is) off in
    omega (arith, ap (λ (w : Waits). w.room) c.self.view_is, ap (λ (w : Waits). length w.pages) c.self.view_is)

pub insert-requires-clause-absent : goal.insert-requires-clause-absent
insert-requires-clause-absent c =
    let at = subst (λ (l : List ℕ). IsAt l c.args.page c.position_of-at.result) c.deref.ensures.value c.position_of-at.ensures in
    not_ready c.self.inside.pages.items c.self.inside.counts.items c.self.inside.ready.items c.position_of-at.result c.args.page c.index-count.result.now c.self.invariant at c.index-count.ensures (λ e. omega arith)

pub invariant_of-self : goal.invariant_of-self
invariant_of-self c =
    let at = subst (λ (l : List ℕ). IsAt l c.args.page c.position_of-at.result) c.deref.ensures.value c.position_of-at.ensures in
    last_lowered c.self.inside.pages.items c.self.inside.counts.items c.self.inside.ready.items c.position_of-at.result c.args.page c.index-count.result.now c.self.invariant at c.index-count.ensures c.if-count-eq1.true
    _ c.insert.ensures.rising c.insert.ensures.pages

pub invariant_of-self-else-count-eq1 : goal.invariant_of-self-else-count-eq1
invariant_of-self-else-count-eq1 c =
    let at = subst (λ (l : List ℕ). IsAt l c.args.page c.position_of-at.result) c.deref.ensures.value c.position_of-at.ensures in
    let is = read_is c.self.inside.pages.items c.self.inside.counts.items c.self.inside.ready.items c.position_of-at.result c.args.page c.index-count.result.now c.self.invariant at c.index-count.ensures in
    let same = ap (λ (w : Waits). waits_for w c.args.page) c.self.view_is in
    lowered_more c.self.inside.pages.items c.self.inside.counts.items c.self.inside.ready.items c.position_of-at.result c.args.page c.index-count.result.now c.self.invariant at c.index-count.ensures
    (omega (arith, c.requires.some)) c.if-count-eq1.false

pub returns-then-count-eq1-clause-counts : goal.returns-then-count-eq1-clause-counts
returns-then-count-eq1-clause-counts c =
    let at = subst (λ (l : List ℕ). IsAt l c.args.page c.position_of-at.result) c.deref.ensures.value c.position_of-at.ensures in
    λ a. rw (← c.self.view_is) (changed_count c.self.inside.pages.items c.self.inside.counts.items c.self.inside.ready.items c.position_of-at.result c.args.page c.index-count.result.now c.self.invariant at c.index-count.ensures (λ n. n - 1) a)

pub returns-else-count-eq1-clause-counts : goal.returns-else-count-eq1-clause-counts
returns-else-count-eq1-clause-counts c =
    let at = subst (λ (l : List ℕ). IsAt l c.args.page c.position_of-at.result) c.deref.ensures.value c.position_of-at.ensures in
    λ a. rw (← c.self.view_is) (changed_count c.self.inside.pages.items c.self.inside.counts.items c.self.inside.ready.items c.position_of-at.result c.args.page c.index-count.result.now c.self.invariant at c.index-count.ensures (λ n. n - 1) a)
