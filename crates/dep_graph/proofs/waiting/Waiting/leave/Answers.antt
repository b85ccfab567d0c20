use Rattle.std.proofs.Common.{◌≡◌, ◌∙◌, ap}
use Rattle.dep_graph.specs.Waits.{Waits, waits_for, count_at}
use Rattle.dep_graph.proofs.WaitLemmas.{left, left_count}
use Rattle.dep_graph.proofs.waiting.Waiting.leave.Goals as goal

none : (c : goal.After-remove-2) → count_at c.self.inside.pages.items c.self.inside.counts.items c.args.page ≡ 0
none c = ap (λ (w : Waits). waits_for w c.args.page) c.self.view_is ∙ c.requires.ready

pub invariant_of-self : goal.invariant_of-self
invariant_of-self c =
    left c.self.inside.pages.items c.self.inside.counts.items _ _ c.remove-at.result c.args.page c.self.invariant.rising c.self.invariant.each c.remove-at.ensures.place (none c) c.remove-at.ensures.items c.remove.ensures.items
    c.self.inside.ready.items _ c.self.invariant c.remove-at.ensures.rising c.remove-2.ensures.rising c.remove-at.ensures.pages c.remove-2.ensures.pages

pub returns-clause-counts : goal.returns-clause-counts
returns-clause-counts c = λ a.
    left_count c.self.inside.pages.items c.self.inside.counts.items _ _ c.remove-at.result c.args.page c.self.invariant.rising c.self.invariant.each c.remove-at.ensures.place (none c) c.remove-at.ensures.items c.remove.ensures.items a
    ∙ ap (λ (w : Waits). waits_for w a) c.self.view_is
