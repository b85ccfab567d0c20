-- Edits of pages keep an engine whole.
use Rattle.std.proofs.Common.{◌≡◌, inl, inr, ◌+◌, ◌-◌, ◌<◌, ◌≤◌, ℕ, false, not, ◌&&◌, ◌||◌, length, map, eqb, eqb-true, refl, sym, ◌∙◌, ap, subst, arith, List}
use Rattle.std.proofs.lemmas.Bool.{cases_Bool, or_cases, or_left}
use Rattle.page_device.specs.Block.{Block}
use Rattle.page_device.specs.Meaning.{Meaning}
use Rattle.page_cache.specs.View.{CacheView, holds_in}
use Rattle.page_cache.specs.View.{dirty_in as cached_dirty}
use Rattle.page_cache.proofs.EditLemmas.{edited_is}
use Rattle.order_model.specs.Edges.{Edge}
use Rattle.dep_graph.specs.Lists.{GraphLists, IsGraph, dirty_in, entered, hung_in, is_node, node_count}
use Rattle.dep_graph.specs.Pages.{holds, placed}
use Rattle.dep_graph.proofs.CountLemmas.{entered_nodes, holds_placed, rising_placed}
use Rattle.dep_graph.proofs.NodeLemmas.{hung_counts}
use Rattle.flush_engine.specs.Tallies.{older, page_of}
use Rattle.flush_engine.specs.View.{EngineView, Fits, IsWhole}
use Rattle.flush_engine.specs.Edits.{GivenUp, touched}
use Rattle.flush_engine.proofs.FitLemmas.{tallies_left}
use Rattle.flush_engine.proofs.TallyLemmas.{len_pages, pages_counted, pages_older}

entered_graph : (page : ℕ) (g : GraphLists) → IsGraph g → IsGraph (entered page g)
entered_graph page g graph = record {
  dirty_once = rising_placed page g.dirty graph.dirty_once;
  hung_once = graph.hung_once;
  edges_once = graph.edges_once;
  live_ends = λ a b e. let q = graph.live_ends a b e in (holds_placed page g.dirty a ∙ or_left _ _ q.0, holds_placed page g.dirty b ∙ or_left _ _ q.1);
  barred_ends = λ a b e. let q = graph.barred_ends a b e in (q.0, holds_placed page g.dirty b ∙ or_left _ _ q.1);
  acyclic = graph.acyclic;
}

entered_fits : (page : ℕ) (e : EngineView) → (is_node e.graph page ≡ false → node_count e.graph < e.room) → IsWhole e → node_count (entered page e.graph) ≤ e.room
entered_fits page e room w =
    let is = entered_nodes page e.graph (entered page e.graph) w.graph (entered_graph page e.graph w.graph) (λ a. holds_placed page e.graph.dirty a) refl in
    elim (cases_Bool (is_node e.graph page)) [
      | inl on ↦ let n : node_count (entered page e.graph) ≡ node_count e.graph = is ∙ rw on refl in let le = w.room in omega (arith, n, le)
      | inr off ↦ let n : node_count (entered page e.graph) ≡ node_count e.graph + 1 = is ∙ rw off refl in let lt = room off in omega (arith, n, lt)
    ]

pub touched_whole : (e : EngineView) (page : ℕ) (block : Block) → 0 < holds_in e.cache page → (is_node e.graph page ≡ false → node_count e.graph < e.room) → IsWhole e → IsWhole (touched page block e)
touched_whole e page block held room w =
    let edited = edited_is e.cache page block held in
    record {
      dirty = λ q. edited.dirty q ∙ ap (λ x. x || eqb q page) (w.dirty q) ∙ sym (holds_placed page e.graph.dirty q);
      graph = entered_graph page e.graph w.graph;
      tallies = pages_counted e.tallies page ∙ ap (placed page) w.tallies;
      room = entered_fits page e room w;
    }

pub touched_fits : (e : EngineView) (d : Meaning) (page : ℕ) (block : Block) → 0 < holds_in e.cache page → (is_node e.graph page ≡ false → node_count e.graph < e.room) → page < d.pages → Fits e d → Fits (touched page block e) d
touched_fits e d page block held room lt fits = record {
  whole = touched_whole e page block held room fits.whole;
  within = λ q h. elim (or_cases (dirty_in e.graph q) (eqb q page) (sym (holds_placed page e.graph.dirty q) ∙ h)) [
    | inl was ↦ fits.within q was
    | inr is ↦ subst (λ n. n < d.pages) (sym (eqb-true q page is)) lt
  ];
}

-- there is a place among the tallies for a page that is not dirty
pub place_left : (e : EngineView) (page : ℕ) → (is_node e.graph page ≡ false → node_count e.graph < e.room) → IsWhole e → dirty_in e.graph page ≡ false → length e.tallies < e.room
place_left e page room w clean =
    let n : length e.tallies ≡ length e.graph.dirty = sym (len_pages e.tallies) ∙ ap length w.tallies in
    elim (cases_Bool (hung_in e.graph page)) [
      | inl hung ↦ let lt = hung_counts e.graph page clean hung in let le = w.room in omega (arith, n, lt, le)
      | inr off ↦ let lt = room (rw (clean, off) refl) in omega (arith, n, lt)
    ]

-- a turn keeps an engine whole
pub older_whole : (e : EngineView) → IsWhole e → IsWhole (record e { tallies = map older e.tallies })
older_whole e w = record { dirty = w.dirty; graph = w.graph; tallies = pages_older e.tallies ∙ w.tallies; room = w.room }

-- and so does a page that is given up
pub given_up_whole : (page : ℕ) (e f : EngineView) → GivenUp page e f → IsWhole e → IsWhole f
given_up_whole page e f g w = record {
  dirty = λ q. g.cache.dirty q ∙ ap (λ x. x && not (eqb q page)) (w.dirty q) ∙ sym (g.graph.dirty q);
  graph = g.graph.graph;
  tallies = ap (map page_of) g.tallies ∙ tallies_left page e.graph f.graph e.tallies w.graph g.graph.graph g.graph.dirty w.tallies;
  room = elim (cases_Bool (dirty_in e.graph page && not (hung_in e.graph page))) [
    | inl less ↦ let n : node_count f.graph ≡ node_count e.graph - 1 = g.graph.nodes ∙ rw less refl in let le = w.room in let r = g.room in omega (arith, n, le, r)
    | inr same ↦ let n : node_count f.graph ≡ node_count e.graph = g.graph.nodes ∙ rw same refl in let le = w.room in let r = g.room in omega (arith, n, le, r)
  ];
}

-- what is lent is changed in what does not matter
abbrev with_lists : EngineView → List ℕ → List ℕ → List Edge → ℕ → ℕ → EngineView
with_lists e dirty hung edges nodes spare = record e { graph = record { dirty = dirty; hung = hung; edges = edges; spare_nodes = nodes; spare_edges = spare } }

spare_lent : (e : EngineView) (nodes spare : ℕ) → IsWhole e → IsWhole (with_lists e e.graph.dirty e.graph.hung e.graph.edges nodes spare)
spare_lent e nodes spare w = record {
  dirty = w.dirty;
  graph = record {
    dirty_once = w.graph.dirty_once;
    hung_once = w.graph.hung_once;
    edges_once = w.graph.edges_once;
    live_ends = w.graph.live_ends;
    barred_ends = w.graph.barred_ends;
    acyclic = w.graph.acyclic;
  };
  tallies = w.tallies;
  room = w.room;
}

graph_whole : (e : EngineView) (g : GraphLists) → g.dirty ≡ e.graph.dirty → g.hung ≡ e.graph.hung → g.edges ≡ e.graph.edges → IsWhole e → IsWhole (record e { graph = g })
graph_whole e g dirty hung edges w =
    subst (λ (l : List Edge). IsWhole (with_lists e g.dirty g.hung l g.spare_nodes g.spare_edges)) (sym edges)
    (subst (λ (l : List ℕ). IsWhole (with_lists e g.dirty l e.graph.edges g.spare_nodes g.spare_edges)) (sym hung)
    (subst (λ (l : List ℕ). IsWhole (with_lists e l e.graph.hung e.graph.edges g.spare_nodes g.spare_edges)) (sym dirty) (spare_lent e g.spare_nodes g.spare_edges w)))

cache_whole : (e : EngineView) (cache : CacheView) → ((q : ℕ) → cached_dirty cache q ≡ cached_dirty e.cache q) → IsWhole e → IsWhole (record e { cache = cache })
cache_whole e cache same w = record { dirty = λ q. same q ∙ w.dirty q; graph = w.graph; tallies = w.tallies; room = w.room }

pub graph_lent : (e : EngineView) (d : Meaning) (g : GraphLists) → g.dirty ≡ e.graph.dirty → g.hung ≡ e.graph.hung → g.edges ≡ e.graph.edges → Fits e d → Fits (record e { graph = g }) d
graph_lent e d g dirty hung edges fits = record { whole = graph_whole e g dirty hung edges fits.whole; within = λ q h. fits.within q (sym (ap (λ (l : List ℕ). holds l q) dirty) ∙ h) }

pub cache_lent : (e : EngineView) (d : Meaning) (cache : CacheView) → ((q : ℕ) → cached_dirty cache q ≡ cached_dirty e.cache q) → Fits e d → Fits (record e { cache = cache }) d
cache_lent e d cache same fits = record { whole = cache_whole e cache same fits.whole; within = fits.within }
