use Rattle.std.proofs.Common.{◌≡◌, ◌∙◌, ap, sym, subst, true, ℕ, List, length, arith, eqb-true, eq-eqb, vec_len}
use Rattle.std.proofs.lemmas.Bool.{true≢false}
use Rattle.dep_graph.specs.declared.pairs.Pair.{Pair}
use Rattle.dep_graph.specs.Pages.{holds}
use Rattle.dep_graph.specs.Pairs.{has_pair}
use Rattle.dep_graph.specs.Lists.{GraphLists, barred_in, dirty_in, hung_in, live_in, marks_of}
use Rattle.order_model.specs.Levels.{IsGreatestLevel}
use Rattle.dep_graph.proofs.GraphLemmas.{barred_is, live_is}
use Rattle.dep_graph.proofs.LevelLemmas.{greatest_alone, greatest_with_hung, holds_none, holds_some}
use Rattle.dep_graph.proofs.graph.Graph.levels.Goals as goal

pub greatest_level-greatest-requires-clause-room : goal.greatest_level-greatest-requires-clause-room
greatest_level-greatest-requires-clause-room c = omega (arith, c.self.invariant.1.search_fits, ap length c.pages.ensures.pages)

pub greatest_level-greatest-requires-clause-left_room : goal.greatest_level-greatest-requires-clause-left_room
greatest_level-greatest-requires-clause-left_room c = omega (arith, c.self.invariant.1.left_fits, ap length c.pages.ensures.pages)

pub greatest_level-greatest-requires-clause-level_room : goal.greatest_level-greatest-requires-clause-level_room
greatest_level-greatest-requires-clause-level_room c = omega (arith, c.self.invariant.1.level_fits, ap length c.pages.ensures.pages)

pub returns-then-is_empty-clause-level : goal.returns-then-is_empty-clause-level
returns-then-is_empty-clause-level c =
    let pages = c.pages.ensures.pages in
    greatest_alone (marks_of c.args.self.now) c.pages.result.now (has_pair c.pairs.result.now) (has_pair c.deref.result.now) c.greatest_level-greatest.result
    (λ p. sym (ap (λ (g : GraphLists). dirty_in g p) c.self.view_is) ∙ ap (λ (l : List ℕ). holds l p) (sym pages))
    (λ a b. sym (ap (λ (g : GraphLists). live_in g a b) c.self.view_is) ∙ live_is c.self.inside.live.pairs c.self.inside.barred.items a b ∙ ap (λ (l : List Pair). has_pair l a b) (sym c.pairs.ensures.pairs))
    (λ a b. sym (ap (λ (g : GraphLists). barred_in g a b) c.self.view_is) ∙ barred_is c.self.inside.live.pairs c.self.inside.barred.items a b ∙ ap (λ (l : List Pair). has_pair l a b) (sym c.deref.ensures.value))
    (subst (λ (l : List Pair). (a b : ℕ) → has_pair l a b ≡ true → (holds c.pages.result.now a ≡ true) × (holds c.pages.result.now b ≡ true)) (sym c.pairs.ensures.pairs)
    (subst (λ (ps : List ℕ). (a b : ℕ) → has_pair c.self.inside.live.pairs a b ≡ true → (holds ps a ≡ true) × (holds ps b ≡ true)) (sym pages) c.self.invariant.0.live_ends))
    (subst (λ (l : List Pair). (a b : ℕ) → has_pair l a b ≡ true → holds c.pages.result.now b ≡ true) (sym c.deref.ensures.value)
    (subst (λ (ps : List ℕ). (a b : ℕ) → has_pair c.self.inside.barred.items a b ≡ true → holds ps b ≡ true) (sym pages) (λ a b h. (c.self.invariant.0.barred_ends a b h).1)))
    c.greatest_level-greatest.ensures.levels
    (λ p. sym (ap (λ (g : GraphLists). hung_in g p) c.self.view_is) ∙ holds_none c.self.inside.hung.items (let none : vec_len c.self.inside.hung ≡ 0 = eqb-true _ _ (sym c.is_empty.ensures ∙ c.if-is_empty.true) in omega arith) p)

pub returns-clause-level : goal.returns-clause-level
returns-clause-level c =
    let pages = c.pages.ensures.pages in
    let some = holds_some c.self.inside.hung.items (λ z. let none : vec_len c.self.inside.hung ≡ 0 = omega arith in true≢false (sym (eq-eqb _ _ none) ∙ sym c.is_empty.ensures ∙ c.if-is_empty.false)) in
    subst (IsGreatestLevel (marks_of c.args.self.now)) (sym c.max.ensures) (greatest_with_hung (marks_of c.args.self.now) c.pages.result.now (has_pair c.pairs.result.now) (has_pair c.deref.result.now) c.greatest_level-greatest.result
    (λ p. sym (ap (λ (g : GraphLists). dirty_in g p) c.self.view_is) ∙ ap (λ (l : List ℕ). holds l p) (sym pages))
    (λ a b. sym (ap (λ (g : GraphLists). live_in g a b) c.self.view_is) ∙ live_is c.self.inside.live.pairs c.self.inside.barred.items a b ∙ ap (λ (l : List Pair). has_pair l a b) (sym c.pairs.ensures.pairs))
    (λ a b. sym (ap (λ (g : GraphLists). barred_in g a b) c.self.view_is) ∙ barred_is c.self.inside.live.pairs c.self.inside.barred.items a b ∙ ap (λ (l : List Pair). has_pair l a b) (sym c.deref.ensures.value))
    (subst (λ (l : List Pair). (a b : ℕ) → has_pair l a b ≡ true → (holds c.pages.result.now a ≡ true) × (holds c.pages.result.now b ≡ true)) (sym c.pairs.ensures.pairs)
    (subst (λ (ps : List ℕ). (a b : ℕ) → has_pair c.self.inside.live.pairs a b ≡ true → (holds ps a ≡ true) × (holds ps b ≡ true)) (sym pages) c.self.invariant.0.live_ends))
    (subst (λ (l : List Pair). (a b : ℕ) → has_pair l a b ≡ true → holds c.pages.result.now b ≡ true) (sym c.deref.ensures.value)
    (subst (λ (ps : List ℕ). (a b : ℕ) → has_pair c.self.inside.barred.items a b ≡ true → holds ps b ≡ true) (sym pages) (λ a b h. (c.self.invariant.0.barred_ends a b h).1)))
    c.greatest_level-greatest.ensures.levels some.0 (sym (ap (λ (g : GraphLists). hung_in g some.0) c.self.view_is) ∙ some.1))
