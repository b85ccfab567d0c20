use Rattle.std.proofs.Common.{◌≡◌, ◌<◌, false, ap, ◌∙◌, subst, sym, refl, ℕ, List}
use Rattle.dep_graph.specs.Lists.{GraphLists, is_node, node_count}
use Rattle.dep_graph.specs.Pages.{holds}
use Rattle.flush_engine.specs.declared.tallies.Tally.{Tally}
use Rattle.flush_engine.specs.View.{EngineView, IsWhole}
use Rattle.flush_engine.specs.Edits.{marked}
use Rattle.flush_engine.proofs.EditLemmas.{place_left}
use Rattle.flush_engine.proofs.writer.Writer.mark.Goals as goal

pub count-requires-clause-room : goal.count-requires-clause-room
count-requires-clause-room c = λ off.
    let whole = subst IsWhole (sym c.self.view_is) c.requires.whole in
    let room = subst (λ (e : EngineView). is_node e.graph c.args.page ≡ false → node_count e.graph < e.room) (sym c.self.view_is) c.requires.room in
    place_left _ c.args.page room whole (ap (λ (l : List ℕ). holds l c.args.page) (sym whole.tallies) ∙ off)

pub returns : goal.returns
returns c = build c.enter.ensures.lists c.count.ensures.items c.count.ensures.room ∙ ap (marked c.args.page) c.self.view_is
  where
    engine : GraphLists → List Tally → ℕ → EngineView
    engine g t r = record { cache = c.self.inside.cache; graph = g; tallies = t; room = r }

    build : {g g' : GraphLists} {t t' : List Tally} {r r' : ℕ} → g ≡ g' → t ≡ t' → r ≡ r' → engine g t r ≡ engine g' t' r'
    build g t r = rw (g, t, r) refl
