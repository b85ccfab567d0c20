use Rattle.std.proofs.Common.{◌∙◌, inl, inr, sym, ap, ℕ, List}
use Rattle.std.proofs.lemmas.Bool.{true≢false}
use Rattle.dep_graph.specs.Trails.{seen}
use Rattle.dep_graph.proofs.SearchLemmas.{is_seen}
use Rattle.dep_graph.proofs.search.reaches.Goals as goal

pub returns-clause-way : goal.returns-clause-way
returns-clause-way c =
    let is = is_seen c.args.pages.now c.explore.new.search.reached c.position_of.result c.args.to c.requires.rising c.position_of.ensures c.explore.ensures.within in (
      λ h. elim (c.explore.ensures.sound c.args.to (sym is ∙ sym c.is_reached-found.ensures ∙ h)) [
        | inl old ↦ absurd (true≢false (sym old ∙ ap (λ (l : List ℕ). seen c.args.pages.now l c.args.to) c.requires.none))
        | inr way ↦ way
      ],
      λ way. c.is_reached-found.ensures ∙ is ∙ c.explore.ensures.complete c.args.to way,
    )
