-- Marks, edges and room, as edits take of them.
use Rattle.std.proofs.Common.{arith, ◌≡◌, inl, inr, ◌≤◌, ◌+◌, ◌-◌, ℕ, Bool, true, false, cond, ◌&&◌, ◌||◌, not, refl, sym, ap, ◌∙◌, subst, List, eqb, eqb-true, eq-eqb}
use Rattle.std.proofs.lemmas.Bool.{and_parts, or_cases, or_left}
use Rattle.dep_graph.specs.Lists.{GraphLists, barred_in, dirty_in, entered, hung_in, live_in, node_count}
use Rattle.dep_graph.specs.Pages.{holds}
use Rattle.dep_graph.proofs.CountLemmas.{holds_placed}
use Rattle.flush_engine.specs.Edits.{Ordered, is_ordered}
use Rattle.flush_engine.specs.View.{EngineView}
use Rattle.release_queue.specs.declared.Release.{Release}
use Rattle.store_core.specs.Applied.{GrowsInto, MapOrdered, Takes}
use Rattle.store_core.specs.Edits.{Barred}

pub grows_none : (page : ℕ) (g : GraphLists) → GrowsInto page g g
grows_none page g = record { dirty = λ a h. h; hung = λ a. refl; live = λ a b h. h; barred = λ a b h. h; into = λ a b h. inl h; barred_into = λ a b h. inl h }

pub grows_then : (page : ℕ) (f g h : GraphLists) → GrowsInto page f g → GrowsInto page g h → GrowsInto page f h
grows_then page f g h x y = record {
  dirty = λ a d. y.dirty a (x.dirty a d);
  hung = λ a. y.hung a ∙ x.hung a;
  live = λ a b e. y.live a b (x.live a b e);
  barred = λ a b e. y.barred a b (x.barred a b e);
  into = λ a b e. elim (y.into a b e) [ inl was ↦ x.into a b was | inr is ↦ inr is ];
  barred_into = λ a b e. elim (y.barred_into a b e) [ inl was ↦ x.barred_into a b was | inr is ↦ inr is ];
}

pub grows_touched : (page at : ℕ) (g h : GraphLists) → h ≡ entered at g → GrowsInto page g h
grows_touched page at g h is = subst (λ (x : GraphLists). GrowsInto page g x) (sym is) (record {
  dirty = λ a d. holds_placed at g.dirty a ∙ or_left _ _ d;
  hung = λ a. refl;
  live = λ a b e. e;
  barred = λ a b e. e;
  into = λ a b e. inl e;
  barred_into = λ a b e. inl e;
})

pub grows_ordered : (before after : ℕ) (g h : GraphLists) → Ordered before after g h → GrowsInto after g h
grows_ordered before after g h o = record {
  dirty = λ a d. ap (λ (l : List ℕ). holds l a) o.dirty ∙ d;
  hung = λ a. ap (λ (l : List ℕ). holds l a) o.hung;
  live = λ a b e. o.live a b ∙ or_left _ _ e;
  barred = λ a b e. o.barred a b ∙ or_left _ _ e;
  into = λ a b e. elim (or_cases (live_in g a b) (dirty_in g before && (eqb a before && eqb b after)) (sym (o.live a b) ∙ e)) [
    | inl was ↦ inl was
    | inr new ↦ inr (eqb-true b after (and_parts _ _ (and_parts _ _ new).1).1)
  ];
  barred_into = λ a b e. elim (or_cases (barred_in g a b) ((not (dirty_in g before) && hung_in g before) && (eqb a before && eqb b after)) (sym (o.barred a b) ∙ e)) [
    | inl was ↦ inl was
    | inr new ↦ inr (eqb-true b after (and_parts _ _ (and_parts _ _ new).1).1)
  ];
}

pub grows_barred : (before after : ℕ) (g h : GraphLists) → Barred before after g h → GrowsInto after g h
grows_barred before after g h o = record {
  dirty = λ a d. ap (λ (l : List ℕ). holds l a) o.dirty ∙ d;
  hung = λ a. ap (λ (l : List ℕ). holds l a) o.hung;
  live = λ a b e. o.live a b ∙ e;
  barred = λ a b e. o.barred a b ∙ or_left _ _ e;
  into = λ a b e. inl (sym (o.live a b) ∙ e);
  barred_into = λ a b e. elim (or_cases (barred_in g a b) (hung_in g before && (eqb a before && eqb b after)) (sym (o.barred a b) ∙ e)) [
    | inl was ↦ inl was
    | inr new ↦ inr (eqb-true b after (and_parts _ _ (and_parts _ _ new).1).1)
  ];
}

-- room
pub takes_none : (e : EngineView) → Takes 0 0 e e
takes_none e = record { spare_nodes = omega arith; spare_edges = omega arith; count = omega arith; room = refl }

pub takes_more : (n m k l : ℕ) (e f : EngineView) → Takes n m e f → n ≤ k → m ≤ l → Takes k l e f
takes_more n m k l e f t nk ml = let a = t.spare_nodes in let b = t.spare_edges in let c = t.count in
    record { spare_nodes = omega (arith, a, nk); spare_edges = omega (arith, b, ml); count = omega (arith, c, nk); room = t.room }

pub takes_then : (n m k l : ℕ) (e f g : EngineView) → Takes n m e f → Takes k l f g → Takes (n + k) (m + l) e g
takes_then n m k l e f g t u =
    let a = t.spare_nodes in let b = t.spare_edges in let c = t.count in let x = u.spare_nodes in let y = u.spare_edges in let z = u.count in
    record { spare_nodes = omega (arith, a, x); spare_edges = omega (arith, b, y); count = omega (arith, c, z); room = u.room ∙ t.room }

less_one : (b : Bool) (n k : ℕ) → n ≡ cond b k (k - 1) → k ≤ n + 1
less_one true n k e = omega (arith, e)
less_one false n k e = omega (arith, e)

pub takes_ordered : (before after : ℕ) (e f : EngineView) → Ordered before after e.graph f.graph → node_count f.graph ≡ node_count e.graph → f.room ≡ e.room → Takes 0 1 e f
takes_ordered before after e f o nodes room =
    let spare = o.spare_nodes in
    record {
      spare_nodes = omega (arith, spare);
      spare_edges = less_one (is_ordered e.graph before after) f.graph.spare_edges e.graph.spare_edges o.spare_edges;
      count = omega (arith, nodes);
      room = room;
    }

maybe_less : (b c : Bool) (n k : ℕ) → n ≡ cond b (cond c k (k - 1)) k → k ≤ n + 1
maybe_less true true n k e = omega (arith, e)
maybe_less true false n k e = omega (arith, e)
maybe_less false c n k e = omega (arith, e)

pub takes_barred : (before after : ℕ) (e f : EngineView) → Barred before after e.graph f.graph → node_count f.graph ≡ node_count e.graph → f.room ≡ e.room → Takes 0 1 e f
takes_barred before after e f o nodes room =
    let spare = o.spare_nodes in
    record {
      spare_nodes = omega (arith, spare);
      spare_edges = maybe_less (hung_in e.graph before) (barred_in e.graph before after) f.graph.spare_edges e.graph.spare_edges o.spare_edges;
      count = omega (arith, nodes);
      room = room;
    }

-- the edge from the map page of a release
all_on : (x d e f : Bool) → d ≡ true → e ≡ true → f ≡ true → (x || (d && (e && f))) ≡ true
all_on true d e f a b c = refl
all_on false d e f a b c = rw (a, b, c) refl

pub now_ordered : (before after : ℕ) (g h : GraphLists) → Ordered before after g h → dirty_in g before ≡ true → live_in h before after ≡ true
now_ordered before after g h o dirty = o.live before after ∙ all_on (live_in g before after) (dirty_in g before) (eqb before before) (eqb after after) dirty (eq-eqb before before refl) (eq-eqb after after refl)

pub map_ordered : (r : Release) (g h : GraphLists) → r.stage ≡ 0 → Ordered r.map_at r.count_at g h → MapOrdered r g h
map_ordered r g h is o = record {
  live = λ z dirty. now_ordered r.map_at r.count_at g h o dirty;
  barred = λ z hung. absurd (omega (arith, is, z));
}

pub map_barred : (r : Release) (g h : GraphLists) → r.stage ≡ 1 → Barred r.map_at r.count_at g h → MapOrdered r g h
map_barred r g h is o = record {
  live = λ z dirty. absurd (omega (arith, is, z));
  barred = λ z hung. o.barred r.map_at r.count_at ∙ all_on (barred_in g r.map_at r.count_at) (hung_in g r.map_at) (eqb r.map_at r.map_at) (eqb r.count_at r.count_at) hung (eq-eqb r.map_at r.map_at refl) (eq-eqb r.count_at r.count_at refl);
}

pub map_none : (r : Release) (g : GraphLists) → (r.stage ≡ 0 → ⊥) → (r.stage ≡ 1 → ⊥) → MapOrdered r g g
map_none r g first second = record { live = λ z dirty. absurd (first z); barred = λ z hung. absurd (second z) }
