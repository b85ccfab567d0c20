use Rattle.std.proofs.Common.{◌≡◌, ◌∙◌, inl, inr, ℕ, List, true, sym, ap, subst}
use Rattle.std.proofs.lemmas.Bool.{and_from, and_parts, true≢false}
use Rattle.dep_graph.specs.Pages.{holds, IsRising}
use Rattle.dep_graph.specs.Rising.{Rises}
use Rattle.dep_graph.specs.Trails.{seen}
use Rattle.dep_graph.proofs.PathLemmas.{way_begins}
use Rattle.dep_graph.proofs.SearchLemmas.{seen_held}
use Rattle.dep_graph.proofs.search.list_reaching.Goals as goal

pub returns-then-not-contains-clause-listed : goal.returns-then-not-contains-clause-listed
returns-then-not-contains-clause-listed c =
    let off = sym c.contains.ensures ∙ c.if-not-contains.true in
    λ a. (
      λ h. absurd (true≢false (sym h ∙ ap (λ (l : List ℕ). holds l a) c.clear.ensures.items)),
      λ h. absurd (elim h.1 [
        | inl same ↦ true≢false (sym (and_parts _ _ h.0).0 ∙ ap (holds c.args.dirty.now.pages) same ∙ off)
        | inr way ↦ let q = way_begins way in true≢false (sym (c.requires.ends c.args.to q.0 q.1).0 ∙ off)
      ]),
    )

pub returns-then-not-contains-clause-rising : goal.returns-then-not-contains-clause-rising
unfolding Rises
returns-then-not-contains-clause-rising c = subst IsRising (sym c.clear.ensures.items) tt

pub returns-clause-listed : goal.returns-clause-listed
returns-clause-listed c = λ a. (
  λ h.
      let p = and_parts _ _ (sym (c.collect.ensures.listed a) ∙ h) in
      let saw = subst (λ (l : List ℕ). seen c.pages.result.now l a ≡ true) c.places.ensures (ap (λ (l : List ℕ). seen l c.places.result.now a) c.pages.ensures.pages ∙ p.0) in (
        and_from _ _ (subst (λ (l : List ℕ). holds l a ≡ true) c.pages.ensures.pages (seen_held c.pages.result.now c.explore.new.search.reached a c.explore.ensures.within saw)) p.1,
        elim (c.explore.ensures.sound a saw) [
          | inl old ↦ absurd (true≢false (sym old ∙ ap (λ (l : List ℕ). seen c.pages.result.now l a) c.requires.none))
          | inr way ↦ way
        ],
      ),
  λ h.
      c.collect.ensures.listed a
      ∙ and_from _ _ (ap (λ (l : List ℕ). seen l c.places.result.now a) (sym c.pages.ensures.pages) ∙ ap (λ (l : List ℕ). seen c.pages.result.now l a) c.places.ensures ∙ c.explore.ensures.complete a h.1) (and_parts _ _ h.0).1,
)
