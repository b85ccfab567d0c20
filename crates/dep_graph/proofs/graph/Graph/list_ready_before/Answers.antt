use Rattle.std.proofs.Common.{◌≡◌, ◌∙◌, ◌&&◌, ℕ, List, true, length, eqb, sym, ap, subst, arith}
use Rattle.dep_graph.specs.declared.pairs.Pair.{Pair}
use Rattle.dep_graph.specs.Pages.{holds}
use Rattle.dep_graph.specs.Pairs.{AreRising, has_pair}
use Rattle.order_model.specs.Paths.{Closes}
use Rattle.dep_graph.specs.Waits.{waits_for}
use Rattle.dep_graph.specs.Lists.{GraphLists, is_ready, live_in}
use Rattle.dep_graph.proofs.GraphLemmas.{live_is, ready_is}
use Rattle.dep_graph.proofs.PathLemmas.{closes_turned}
use Rattle.dep_graph.proofs.graph.Graph.list_ready_before.Goals as goal

pub list_reaching-requires-clause-back_rising : goal.list_reaching-requires-clause-back_rising
list_reaching-requires-clause-back_rising c = subst AreRising (sym c.back.ensures.pairs) c.back.ensures.turned.back_rising

pub list_reaching-requires-clause-ends : goal.list_reaching-requires-clause-ends
list_reaching-requires-clause-ends c = λ a b h.
    let e = c.self.invariant.0.live_ends b a (sym (c.back.ensures.turned.turned b a) ∙ ap (λ (l : List Pair). has_pair l a b) (sym c.back.ensures.pairs) ∙ h) in
    (e.1, e.0)

pub list_reaching-requires-clause-room : goal.list_reaching-requires-clause-room
list_reaching-requires-clause-room c = omega (arith, c.self.invariant.1.search_fits)

pub list_reaching-requires-clause-listed_room : goal.list_reaching-requires-clause-listed_room
list_reaching-requires-clause-listed_room c = let same = ap (λ (g : GraphLists). length g.dirty) c.self.view_is in omega (arith, c.requires)

-- the look-up in the lists is the look-up in the vector
edge : (c : goal.After-list_reaching) (a b : ℕ) → has_pair c.back.result.now b a ≡ live_in c.args.self.now a b
edge c a b =
    ap (λ (l : List Pair). has_pair l b a) c.back.ensures.pairs ∙ c.back.ensures.turned.turned a b ∙ sym (live_is c.self.inside.live.pairs c.self.inside.barred.items a b)
    ∙ ap (λ (g : GraphLists). live_in g a b) c.self.view_is

ready : (c : goal.After-list_reaching) (a : ℕ) → (holds c.self.inside.dirty.pages a && eqb (waits_for c.self.inside.dirty a) 0) ≡ is_ready c.args.self.now a
ready c a = ready_is c.self.inside.dirty c.self.inside.hung.items c.self.inside.hung_only c.self.inside.live.pairs c.self.inside.barred.items a c.self.invariant.0 ∙ ap (λ (g : GraphLists). is_ready g a) c.self.view_is

to_lists : (c : goal.After-list_reaching) (a : ℕ) → holds c.list_reaching.new.listed.items a ≡ true → (is_ready c.args.self.now a ≡ true) × Closes (live_in c.args.self.now) c.args.target a
to_lists c a h =
    let p = (c.list_reaching.ensures.listed a).0 h in
    (sym (ready c a) ∙ p.0, closes_turned (has_pair c.back.result.now) (live_in c.args.self.now) a c.args.target (λ x y e. sym (edge c y x) ∙ e) p.1)

from_lists : (c : goal.After-list_reaching) (a : ℕ) → (is_ready c.args.self.now a ≡ true) × Closes (live_in c.args.self.now) c.args.target a → holds c.list_reaching.new.listed.items a ≡ true
from_lists c a h = (c.list_reaching.ensures.listed a).1 (ready c a ∙ h.0, closes_turned (live_in c.args.self.now) (has_pair c.back.result.now) c.args.target a (λ x y e. edge c x y ∙ e) h.1)

pub returns-clause-pages : goal.returns-clause-pages
returns-clause-pages c = λ a. (to_lists c a, from_lists c a)
