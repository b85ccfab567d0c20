use Rattle.std.proofs.Common.{◌≡◌, ◌∙◌, inl, inr, sym, ap, ℕ, List, length, arith}
use Rattle.std.proofs.lemmas.Bool.{true≢false}
use Rattle.dep_graph.specs.declared.pairs.Pair.{Pair}
use Rattle.dep_graph.specs.Pairs.{has_pair}
use Rattle.dep_graph.specs.Lists.{GraphLists, live_in}
use Rattle.dep_graph.proofs.GraphLemmas.{live_is, no_way_from, no_way_to}
use Rattle.dep_graph.proofs.PathLemmas.{closes_more, way_more}
use Rattle.dep_graph.proofs.graph.Graph.closes.Goals as goal

pub returns-then-not-contains-clause-closes : goal.returns-then-not-contains-clause-closes
returns-then-not-contains-clause-closes c =
    let off = sym c.contains.ensures ∙ c.if-not-contains.true in (
      λ h. absurd (true≢false (sym h)),
      λ closes. absurd (elim closes [
        | inl same ↦ c.if-before-after.false same
        | inr way ↦ no_way_to c.self.inside.dirty c.self.inside.hung.items c.self.inside.hung_only c.self.inside.live.pairs c.self.inside.barred.items c.args.after c.args.before c.self.invariant.0 off
            (way_more (λ a b h. sym (live_is c.self.inside.live.pairs c.self.inside.barred.items a b) ∙ ap (λ (g : GraphLists). live_in g a b) c.self.view_is ∙ h) way)
      ]),
    )

pub returns-then-not-contains-2-clause-closes : goal.returns-then-not-contains-2-clause-closes
returns-then-not-contains-2-clause-closes c =
    let off = sym c.contains-2.ensures ∙ c.if-not-contains-2.true in (
      λ h. absurd (true≢false (sym h)),
      λ closes. absurd (elim closes [
        | inl same ↦ c.if-before-after.false same
        | inr way ↦ no_way_from c.self.inside.dirty c.self.inside.hung.items c.self.inside.hung_only c.self.inside.live.pairs c.self.inside.barred.items c.args.after c.args.before c.self.invariant.0 off
            (way_more (λ a b h. sym (live_is c.self.inside.live.pairs c.self.inside.barred.items a b) ∙ ap (λ (g : GraphLists). live_in g a b) c.self.view_is ∙ h) way)
      ]),
    )

pub reaches-requires-clause-room : goal.reaches-requires-clause-room
reaches-requires-clause-room c = omega (arith, c.self.invariant.1.search_fits, ap length c.pages.ensures.pages)

-- the look-up in the lists is the look-up in the vector
same : (c : goal.After-reaches) (a b : ℕ) → has_pair c.pairs.result.now a b ≡ live_in c.args.self.now a b
same c a b = ap (λ (l : List Pair). has_pair l a b) c.pairs.ensures.pairs ∙ sym (live_is c.self.inside.live.pairs c.self.inside.barred.items a b) ∙ ap (λ (g : GraphLists). live_in g a b) c.self.view_is

pub returns-clause-closes : goal.returns-clause-closes
returns-clause-closes c = (
  λ h. closes_more (has_pair c.pairs.result.now) (live_in c.args.self.now) c.args.before c.args.after (λ a b e. sym (same c a b) ∙ e) (c.reaches.ensures.way.0 h),
  λ closes. c.reaches.ensures.way.1 (closes_more (live_in c.args.self.now) (has_pair c.pairs.result.now) c.args.before c.args.after (λ a b e. same c a b ∙ e) closes),
)
