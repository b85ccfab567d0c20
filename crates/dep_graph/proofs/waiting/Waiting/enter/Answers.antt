use Rattle.std.proofs.Common.{◌≡◌, ◌∙◌, ap, false, length, arith}
use Rattle.dep_graph.specs.Pages.{holds}
use Rattle.dep_graph.specs.Waits.{Waits, waits_for}
use Rattle.dep_graph.proofs.WaitLemmas.{entered, entered_count, ready_within}
use Rattle.dep_graph.proofs.waiting.Waiting.enter.Goals as goal

pub insert-requires-clause-room : goal.insert-requires-clause-room
insert-requires-clause-room c =
    let le = ready_within c.self.inside.pages.items c.self.inside.counts.items c.self.inside.ready.items c.self.invariant in
    omega (arith, ap (λ (w : Waits). w.room) c.self.view_is, ap (λ (w : Waits). length w.pages) c.self.view_is)

absent : (c : goal.After-insert) → holds c.self.inside.pages.items c.args.page ≡ false
absent c = ap (λ (w : Waits). holds w.pages c.args.page) c.self.view_is ∙ c.requires.absent

pub invariant_of-self : goal.invariant_of-self
invariant_of-self c =
    entered c.self.inside.pages.items c.self.inside.counts.items _ _ c.insert-at.result c.args.page c.self.invariant.each c.insert-at.ensures.place (absent c) c.insert-at.ensures.items c.insert_at.ensures.items
    c.self.inside.ready.items _ c.self.invariant c.insert-at.ensures.rising c.insert.ensures.rising c.insert-at.ensures.pages c.insert.ensures.pages

pub returns-clause-counts : goal.returns-clause-counts
returns-clause-counts c = λ a.
    entered_count c.self.inside.pages.items c.self.inside.counts.items _ _ c.insert-at.result c.args.page c.self.invariant.each c.insert-at.ensures.place (absent c) c.insert-at.ensures.items c.insert_at.ensures.items a
    ∙ ap (λ (w : Waits). waits_for w a) c.self.view_is
