-- A release that is applied, in its steps.
use Rattle.std.proofs.Common.{arith, ◌≡◌, ◌≢◌, ◌⊎◌, inl, inr, ◌<◌, ◌≤◌, ◌+◌, ◌-◌, ℕ, Bool, true, false, cond, refl, sym, ap, ◌∙◌, subst, List, Option, Some, None, is_some, not, ◌&&◌, ◌||◌, eqb, eq-eqb}
use Rattle.std.specs.List.{remove}
use Rattle.page_device.specs.Block.{Block, zero_block}
use Rattle.page_device.specs.Meaning.{Meaning}
use Rattle.page_layout.specs.Shape.{ShapeView, count_page, print_page, print_place}
use Rattle.page_layout.specs.Tables.{print_entry_of}
use Rattle.page_cache.specs.View.{CacheView, content_in, holds_in, is_there}
use Rattle.std.proofs.lemmas.Bool.{and_from, and_parts, not-true, or_right, true≢false}
use Rattle.order_model.specs.Paths.{Closes}
use Rattle.dep_graph.proofs.CountLemmas.{holds_placed}
use Rattle.dep_graph.proofs.PathLemmas.{closes_before}
use Rattle.order_model.specs.Pool.{after_zeroed}
use Rattle.page_alloc.specs.Pool.{IsTold, PoolView, told_of}
use Rattle.dep_graph.specs.Pages.{holds}
use Rattle.dep_graph.specs.Lists.{GraphLists, barred_in, dirty_in, entered, hung_in, live_in, node_count}
use Rattle.birth_marks.specs.Births.{SameBut, is_unborn_in}
use Rattle.ref_counts.specs.Counts.{count_in}
use Rattle.release_queue.specs.declared.Release.{Release}
use Rattle.release_queue.specs.Queued.{QueueLists}
use Rattle.order_model.specs.declared.Slot.TheVariants.{Print}
use Rattle.order_model.specs.World.{Queued}
use Rattle.flush_engine.specs.declared.tallies.Tally.{Tally}
use Rattle.flush_engine.specs.Tallies.{counted}
use Rattle.flush_engine.specs.View.{EngineView}
use Rattle.engine_model.specs.Entries.{EdgeKind, IsTable}
use Rattle.store_core.specs.declared.Core.{Core}
use Rattle.store_core.specs.declared.ledger.Ledger.{Ledger}
use Rattle.store_core.specs.Layout.{lay_of}
use Rattle.store_core.specs.Views.{held_or, page_in, world_of}
use Rattle.store_core.specs.Whole.{IsPlaced}
use Rattle.store_core.specs.Edits.{LowersCount}
use Rattle.store_core.specs.Frames.{KeepsStands, OnlyEngine, SameHolds}
use Rattle.store_core.specs.Counted.{LowerStands}
use Rattle.store_core.specs.Printed.{PrintStands, PrintsPage}
use Rattle.store_core.specs.Applied.{CanApply, ClearsPrint, GrowsInto, LowersRelease, MapOrdered, Takes, count_of_release, has_print_of, is_last_print, is_print_unborn, loses_print}
use Rattle.store_core.proofs.Edited.{cached_there, held_there, page_is}
use Rattle.store_core.proofs.Grown.{grows_none, grows_then, grows_touched, takes_more, takes_none, takes_then}
use Rattle.store_core.proofs.Clean.{apart_pages}
use Rattle.store_core.proofs.Queued.{queued_at}

-- the kinds of its edges and of its pages
pub release_kind : (shape : ShapeView) (r : Release) → IsPlaced shape r → EdgeKind (lay_of shape) r.map_at r.count_at
release_kind shape r placed = inr (inl (r.block, placed.block, placed.map_at), (r.page, (placed.first, placed.last), placed.count_at))

pub print_kind : (shape : ShapeView) (r : Release) → IsPlaced shape r → EdgeKind (lay_of shape) r.print_at r.count_at
print_kind shape r placed = inr (inr (r.page, (placed.first, placed.last), placed.print_at), (r.page, (placed.first, placed.last), placed.count_at))

pub count_table : (shape : ShapeView) (r : Release) → IsPlaced shape r → IsTable (lay_of shape) r.count_at
count_table shape r placed = inr (r.page, (placed.first, placed.last), inl placed.count_at)

pub print_table : (shape : ShapeView) (r : Release) → IsPlaced shape r → IsTable (lay_of shape) r.print_at
print_table shape r placed = inr (r.page, (placed.first, placed.last), inr placed.print_at)

apart_at : (shape : ShapeView) (r : Release) → IsPlaced shape r → r.count_at ≢ r.print_at
apart_at shape r placed e = (apart_pages shape).count_print r.page r.page (placed.first, placed.last) (placed.first, placed.last) (sym placed.count_at ∙ e ∙ placed.print_at)

pub some_print : (o : Option (List ℕ)) → is_some o ≡ true → (x : List ℕ) × (o ≡ Some x)
some_print None h = cc
some_print (Some x) h = (x, refl)

-- what is cached of a page that is held
pub cached_held : (core : Core) (at page : ℕ) → at ≡ page → 0 < holds_in core.engine.cache at → (d : Meaning) → (world_of d core).cached page ≡ page_in core at
cached_held core at page is held d = ap (world_of d core).cached (sym is) ∙ cached_there d core at (held_there core.engine.cache at held)

pub clear_stands : (old c n : Core) (r : Release) → IsPlaced old.shape r → 0 < holds_in c.engine.cache r.print_at → page_in c r.print_at ≡ page_in old r.print_at → c.shape ≡ old.shape → has_print_of old r ≡ true
    → (live_in c.engine.graph r.print_at r.count_at ≡ true) ⊎ (is_print_unborn c r ≡ true) → KeepsStands old c → PrintStands r.page None c n → KeepsStands old n
clear_stands old c n r placed held same shape has ordered keeps clears = λ sound d array s.
    let there : IsPlaced c.shape r = subst (λ (x : ShapeView). IsPlaced x r) (sym shape) placed in
    let x = some_print (print_entry_of (page_in old r.print_at) (print_place r.page)) has in
    let cached : (world_of d c).cached (print_page c.shape r.page) ≡ page_in old r.print_at = cached_held c r.print_at (print_page c.shape r.page) there.print_at held d ∙ same in
    clears sound d array (keeps sound d array s) (record {
      print = x.0;
      had = ap (λ (b : Block). print_entry_of b (print_place r.page)) cached ∙ x.1;
      ordered_or_unborn = elim ordered [
        | inl edge ↦ inl (subst (λ (k : ℕ). live_in c.engine.graph (print_page c.shape r.page) k ≡ true) there.count_at (subst (λ (k : ℕ). live_in c.engine.graph k r.count_at ≡ true) there.print_at edge))
        | inr unborn ↦ inr unborn
      ];
    })

-- what a print that goes leaves
pub clears_print : (a b c n : Core) (r : Release) → IsPlaced a.shape r → count_of_release a r ≡ 1 → has_print_of a r ≡ true
    → b.engine.graph ≡ entered r.print_at a.engine.graph → SameHolds a b → ((q : ℕ) → page_in b q ≡ page_in a q) → OnlyEngine a b → node_count b.engine.graph ≤ node_count a.engine.graph + 1 → a.engine.graph.spare_nodes ≤ b.engine.graph.spare_nodes + 1
    → b.engine.tallies ≡ counted r.print_at a.engine.tallies → c.engine.graph.dirty ≡ b.engine.graph.dirty → c.engine.tallies ≡ b.engine.tallies
    → (live_in c.engine.graph r.print_at r.count_at ≡ true) ⊎ (is_print_unborn b r ≡ true)
    → GrowsInto r.count_at b.engine.graph c.engine.graph → Takes 0 1 b.engine c.engine → c.engine.cache ≡ b.engine.cache → OnlyEngine b c → PrintsPage r.page None c n → ClearsPrint r a n
clears_print a b c n r placed one had graph same pages rest nodes spare edited same_dirty same_tallies ordered grows takes cache only printed =
    let shape : c.shape ≡ a.shape = only.shape ∙ rest.shape in
    let there : IsPlaced c.shape r = subst (λ (x : ShapeView). IsPlaced x r) (sym shape) placed in
    let ledger : c.ledger ≡ a.ledger = only.ledger ∙ rest.ledger in
    let edges : a.engine.graph.spare_edges ≡ b.engine.graph.spare_edges = sym (ap (λ (g : GraphLists). g.spare_edges) graph) in
    let last : n.engine.graph ≡ c.engine.graph = ap (λ (e : EngineView). e.graph) printed.only.engine in
    let first : Takes 1 0 a.engine b.engine = record { spare_nodes = spare; spare_edges = omega (arith, edges); count = nodes; room = rest.room } in
    let both : Takes 1 1 a.engine c.engine = takes_then 1 0 0 1 a.engine b.engine c.engine first takes in
    let fewer = printed.spare in
    let changes : c.ledger.births.spare ≡ a.ledger.births.spare = ap (λ (l : Ledger). l.births.spare) ledger in
    let loses : loses_print a r ≡ true = and_from _ _ (eq-eqb (count_of_release a r) 1 one) had in
    let first = placed.first in
    let page_n : page_in n r.print_at ≡ printed.page = ap (page_in n) there.print_at ∙ sym (page_is n (print_page c.shape r.page) printed.page printed.only.here) in
    let page_c : page_in c (print_page c.shape r.page) ≡ page_in a r.print_at = ap (page_in c) (sym there.print_at) ∙ ap (λ (k : CacheView). held_or (content_in k r.print_at) zero_block) cache ∙ pages r.print_at in
    record {
      shape = printed.only.shape ∙ shape;
      queue = ap (λ (l : Ledger). l.queue) printed.ledger ∙ ap (λ (l : Ledger). l.queue) ledger;
      pool = ap (λ (l : Ledger). l.pool) printed.ledger ∙ ap (λ (l : Ledger). l.pool) ledger;
      same = record {
        holds = λ q. printed.only.same.holds q ∙ ap (λ (k : CacheView). holds_in k q) cache ∙ same.holds q;
        there = λ q. printed.only.same.there q ∙ ap (λ (k : CacheView). is_there k q) cache ∙ same.there q;
        calls = printed.only.same.calls ∙ ap (λ (k : CacheView). k.calls) cache ∙ same.calls;
      };
      others = λ q ne. printed.only.others q (λ e. ne (e ∙ sym there.print_at)) ∙ ap (λ (k : CacheView). held_or (content_in k q) zero_block) cache ∙ pages q;
      none = λ h. ap (λ (k : ℕ). print_entry_of (page_in n k) (print_place r.page)) there.print_at ∙ ap (λ (p : Block). print_entry_of p (print_place r.page)) (sym (page_is n (print_page c.shape r.page) printed.page printed.only.here)) ∙ printed.sets.entry;
      kept = λ more. absurd (omega (arith, more, one));
      prints = λ p from ne on. let at : print_page a.shape p ≡ print_page a.shape r.page = on ∙ placed.print_at in
          ap (λ (x : Block). print_entry_of x (print_place p)) page_n ∙ printed.sets.others (print_place p) (λ e. ne (omega (arith, e, at, from, first))) ∙ ap (λ (x : Block). print_entry_of x (print_place p)) page_c;
      dirty = λ x. ap (λ (g : GraphLists). dirty_in g x) last ∙ ap (λ (l : List ℕ). holds l x) same_dirty ∙ ap (λ (g : GraphLists). dirty_in g x) graph ∙ holds_placed r.print_at a.engine.graph.dirty x
          ∙ sym (ap (λ (y : Bool). dirty_in a.engine.graph x || (y && eqb x r.print_at)) loses);
      ordered = λ is. elim ordered [
        | inl edge ↦ ap (λ (g : GraphLists). live_in g r.print_at r.count_at) last ∙ edge
        | inr unborn ↦ absurd (true≢false (sym (sym (ap (λ (l : Ledger). is_unborn_in l.births (Print r.page) 1) rest.ledger) ∙ unborn) ∙ not-true _ (and_parts _ _ (and_parts _ _ is).1).1))
      ];
      same_births = λ stays. absurd (true≢false (sym loses ∙ stays));
      births = subst (λ (l : Ledger). SameBut (Print r.page) l.births n.ledger.births) ledger printed.other_slots;
      tallies = ap (λ (e : EngineView). e.tallies) printed.only.engine ∙ same_tallies ∙ edited ∙ sym (ap (λ (y : Bool). cond y (counted r.print_at a.engine.tallies) a.engine.tallies) loses);
      grows = subst (λ (g : GraphLists). GrowsInto r.count_at a.engine.graph g) (sym last) (grows_then r.count_at a.engine.graph b.engine.graph c.engine.graph (grows_touched r.count_at r.print_at a.engine.graph b.engine.graph graph) grows);
      takes = record {
        spare_nodes = subst (λ (g : GraphLists). a.engine.graph.spare_nodes ≤ g.spare_nodes + 1) (sym last) both.spare_nodes;
        spare_edges = subst (λ (g : GraphLists). a.engine.graph.spare_edges ≤ g.spare_edges + 1) (sym last) both.spare_edges;
        count = subst (λ (g : GraphLists). node_count g ≤ node_count a.engine.graph + 1) (sym last) both.count;
        room = ap (λ (e : EngineView). e.room) printed.only.engine ∙ both.room;
      };
      changes = omega (arith, fewer, changes);
    }

or_none : (x : Bool) → x ≡ (x || false)
or_none true = refl
or_none false = refl

first_two : (x y z : Bool) → (x && (y && z)) ≡ true → (x && y) ≡ true
first_two x y z h = and_from x y (and_parts x (y && z) h).0 (and_parts y z (and_parts x (y && z) h).1).0

pub never_both : (x y : Bool) → y ≡ false → (x && y) ≡ false
never_both true y e = e
never_both false y e = refl

-- nothing had to go
pub clears_none : (core : Core) (r : Release) → (count_of_release core r ≡ 1 → print_entry_of (page_in core r.print_at) (print_place r.page) ≡ None) → loses_print core r ≡ false → ClearsPrint r core core
clears_none core r none stays = record {
  shape = refl;
  queue = refl;
  pool = refl;
  same = record { holds = λ q. refl; there = λ q. refl; calls = refl };
  others = λ q ne. refl;
  none = none;
  kept = λ more. refl;
  prints = λ p first ne on. refl;
  dirty = λ x. or_none (dirty_in core.engine.graph x) ∙ sym (ap (λ (y : Bool). dirty_in core.engine.graph x || (y && eqb x r.print_at)) stays);
  ordered = λ is. absurd (true≢false (sym (first_two (eqb (count_of_release core r) 1) (has_print_of core r) (not (is_print_unborn core r)) is) ∙ stays));
  same_births = λ h. refl;
  births = record { recorded = λ s ne. refl; place = λ s ne. refl; value = λ s ne. refl; met = λ s v ne. refl };
  tallies = sym (ap (λ (y : Bool). cond y (counted r.print_at core.engine.tallies) core.engine.tallies) stays);
  grows = grows_none r.count_at core.engine.graph;
  takes = takes_more 0 0 1 1 core.engine core.engine (takes_none core.engine) (omega arith) (omega arith);
  changes = omega arith;
}

-- a last print is one where pages and ledger are the same
last_same : (a c : Core) (r : Release) → ((q : ℕ) → page_in c q ≡ page_in a q) → c.ledger ≡ a.ledger → is_last_print c r ≡ is_last_print a r
last_same a c r pages ledger = ap (λ (p : Block). eqb (count_in p r.page) 1 && (has_print_of c r && not (is_print_unborn c r))) (pages r.count_at)
    ∙ ap (λ (p : Block). eqb (count_of_release a r) 1 && (is_some (print_entry_of p (print_place r.page)) && not (is_print_unborn c r))) (pages r.print_at)
    ∙ ap (λ (l : Ledger). eqb (count_of_release a r) 1 && (has_print_of a r && not (is_unborn_in l.births (Print r.page) 1))) ledger

-- what the steps ask
module _ (a b : Core) (i : ℕ) (r : Release) (can : CanApply i r a) (graph : b.engine.graph ≡ entered r.count_at a.engine.graph) where
  edges_same : (x y : ℕ) → live_in b.engine.graph x y ≡ live_in a.engine.graph x y
  edges_same x y = ap (λ (g : GraphLists). live_in g x y) graph

  pub opens_map : r.stage ≡ 0 → Closes (live_in b.engine.graph) r.map_at r.count_at → ⊥
  opens_map z closes = can.opens (inl (z, subst (λ (g : GraphLists). Closes (live_in g) r.map_at r.count_at) graph closes))

  pub some_edges : 0 < b.engine.graph.spare_edges
  some_edges = let e = ap (λ (g : GraphLists). g.spare_edges) graph in let le = can.edges in omega (arith, e, le)

  pub count_dirty : dirty_in b.engine.graph r.count_at ≡ true
  count_dirty = ap (λ (g : GraphLists). dirty_in g r.count_at) graph ∙ holds_placed r.count_at a.engine.graph.dirty r.count_at ∙ or_right _ _ (eq-eqb r.count_at r.count_at refl)

  module _ (c : Core) (pages : (q : ℕ) → page_in b q ≡ page_in a q) (same : SameHolds a b) (rest : OnlyEngine a b) (nodes : node_count b.engine.graph ≤ node_count a.engine.graph + 1) (spare : a.engine.graph.spare_nodes ≤ b.engine.graph.spare_nodes + 1)
      (grows : GrowsInto r.count_at b.engine.graph c.engine.graph) (takes : Takes 0 1 b.engine c.engine) (cache : c.engine.cache ≡ b.engine.cache) (only : OnlyEngine b c) where
    pub shape_same : c.shape ≡ a.shape
    shape_same = only.shape ∙ rest.shape

    page_same : (q : ℕ) → page_in c q ≡ page_in a q
    page_same q = ap (λ (k : CacheView). held_or (content_in k q) zero_block) cache ∙ pages q

    ledger_same : c.ledger ≡ a.ledger
    ledger_same = only.ledger ∙ rest.ledger

    pub still_held : (q : ℕ) → 0 < holds_in a.engine.cache q → 0 < holds_in c.engine.cache q
    still_held q h = let is = ap (λ (k : CacheView). holds_in k q) cache ∙ same.holds q in omega (arith, h, is)

    pub still_dirty : dirty_in c.engine.graph r.count_at ≡ true
    still_dirty = grows.dirty r.count_at count_dirty

    pub one_node : 0 < c.engine.graph.spare_nodes
    one_node = let le = can.nodes in let less = takes.spare_nodes in omega (arith, le, spare, less)

    pub one_room : node_count c.engine.graph < c.engine.room
    one_room = let le = can.room in let more = takes.count in let x = takes.room in let y = rest.room in omega (arith, le, nodes, more, x, y)

    pub one_edge : 0 < c.engine.graph.spare_edges
    one_edge = let le = can.edges in let e = ap (λ (g : GraphLists). g.spare_edges) graph in let less = takes.spare_edges in omega (arith, le, e, less)

    pub one_change : 0 < c.ledger.births.spare
    one_change = let le = can.changes in let e = ap (λ (l : Ledger). l.births.spare) ledger_same in omega (arith, le, e)

    pub opens_print : is_last_print c r ≡ true → Closes (live_in c.engine.graph) r.print_at r.count_at → ⊥
    opens_print is closes = can.opens (inr (
      sym (last_same a c r page_same ledger_same) ∙ is,
      closes_before (live_in a.engine.graph) (live_in c.engine.graph) r.count_at
          (λ x y e. grows.live x y (edges_same x y ∙ e)) (λ x y e. elim (grows.into x y e) [ inl was ↦ inl (sym (edges_same x y) ∙ was) | inr at ↦ inr at ]) r.print_at closes,
    ))

module _ (a b c e n : Core) (i : ℕ) (r : Release) (can : CanApply i r a) (placed : IsPlaced a.shape r) (graph : b.engine.graph ≡ entered r.count_at a.engine.graph) (same : SameHolds a b) (pages : (q : ℕ) → page_in b q ≡ page_in a q) (rest : OnlyEngine a b)
    (ordered : MapOrdered r b.engine.graph c.engine.graph) (grows : GrowsInto r.count_at b.engine.graph c.engine.graph) (cache : c.engine.cache ≡ b.engine.cache) (only : OnlyEngine b c) (cleared : ClearsPrint r c e) where
  shape_c : c.shape ≡ a.shape
  shape_c = only.shape ∙ rest.shape

  shape_e : e.shape ≡ a.shape
  shape_e = cleared.shape ∙ shape_c

  page_c : (q : ℕ) → page_in c q ≡ page_in a q
  page_c q = ap (λ (k : CacheView). held_or (content_in k q) zero_block) cache ∙ pages q

  placed_e : IsPlaced e.shape r
  placed_e = subst (λ (x : ShapeView). IsPlaced x r) (sym shape_e) placed

  held_e : (q : ℕ) → holds_in e.engine.cache q ≡ holds_in a.engine.cache q
  held_e q = cleared.same.holds q ∙ ap (λ (k : CacheView). holds_in k q) cache ∙ same.holds q

  pub some_held : (q : ℕ) → 0 < holds_in a.engine.cache q → 0 < holds_in e.engine.cache q
  some_held q h = let is = held_e q in omega (arith, h, is)

  pub count_page_same : page_in e r.count_at ≡ page_in a r.count_at
  count_page_same = cleared.others r.count_at (apart_at a.shape r placed) ∙ page_c r.count_at

  touched_grows : GrowsInto r.count_at a.engine.graph b.engine.graph
  touched_grows = grows_touched r.count_at r.count_at a.engine.graph b.engine.graph graph

  pub apply_stands : KeepsStands a b → KeepsStands b c → KeepsStands c e → LowerStands r e n → KeepsStands a n
  apply_stands touch order clear lower = λ sound d array s.
      let owes = s.kept.counts.lost_name_owes_release in
      let queued : (stage : ℕ) → r.stage ≡ stage → Queued (world_of d a).queue r.block r.page stage = λ stage is. queued_at a.ledger.queue.releases i r stage can.queued is in
      let dirty_a : r.stage ≡ 0 → dirty_in a.engine.graph r.map_at ≡ true = λ z. subst (λ x. dirty_in a.engine.graph x ≡ true) (sym placed.map_at) (owes.dirty r.block r.page placed.block (queued 0 z)) in
      let hung_a : r.stage ≡ 1 → hung_in a.engine.graph r.map_at ≡ true = λ z. subst (λ x. hung_in a.engine.graph x ≡ true) (sym placed.map_at) (owes.hung r.block r.page placed.block (queued 1 z)) in
      let count_cached : (world_of d e).cached (count_page e.shape r.page) ≡ page_in c r.count_at = cached_held e r.count_at (count_page e.shape r.page) placed_e.count_at (some_held r.count_at can.count_held) d ∙ cleared.others r.count_at (apart_at a.shape r placed) in
      let print_cached : (world_of d e).cached (print_page e.shape r.page) ≡ page_in e r.print_at = cached_held e r.print_at (print_page e.shape r.page) placed_e.print_at (some_held r.print_at can.print_held) d in
      lower sound d array (clear sound d array (order sound d array (touch sound d array s))) (record {
        no_print = λ z. ap (λ (p : Block). print_entry_of p (print_place r.page)) print_cached ∙ cleared.none (sym (ap (λ (p : Block). count_in p r.page) count_cached) ∙ z);
        from_map = λ z. cleared.grows.live r.map_at r.count_at (ordered.live z (touched_grows.dirty r.map_at (dirty_a z)));
        from_hung_map = λ z. cleared.grows.barred r.map_at r.count_at (ordered.barred z (touched_grows.hung r.map_at ∙ hung_a z));
      })

  or_then : (x y z : Bool) → ((x || y) || z) ≡ (x || (y || z))
  or_then true y z = refl
  or_then false y z = refl

  loses_same : loses_print c r ≡ loses_print a r
  loses_same = ap (λ (p : Block). eqb (count_in p r.page) 1 && has_print_of c r) (page_c r.count_at) ∙ ap (λ (p : Block). eqb (count_of_release a r) 1 && is_some (print_entry_of p (print_place r.page))) (page_c r.print_at)

  pub lowers_release : node_count b.engine.graph ≤ node_count a.engine.graph + 1 → a.engine.graph.spare_nodes ≤ b.engine.graph.spare_nodes + 1 → b.engine.tallies ≡ counted r.count_at a.engine.tallies → c.engine.graph.dirty ≡ b.engine.graph.dirty → c.engine.tallies ≡ b.engine.tallies
      → Takes 0 1 b.engine c.engine → LowersCount i r e n → LowersRelease i r a n
  lowers_release nodes spare edited same_dirty same_tallies takes low =
      let edges : a.engine.graph.spare_edges ≡ b.engine.graph.spare_edges = sym (ap (λ (g : GraphLists). g.spare_edges) graph) in
      let first : Takes 1 0 a.engine b.engine = record { spare_nodes = spare; spare_edges = omega (arith, edges); count = nodes; room = rest.room } in
      let three : Takes 2 2 a.engine e.engine = takes_then 1 1 1 1 a.engine c.engine e.engine (takes_then 1 0 0 1 a.engine b.engine c.engine first takes) cleared.takes in
      let last : n.engine.graph ≡ e.engine.graph = ap (λ (x : EngineView). x.graph) low.only.engine in
      let ledger : c.ledger ≡ a.ledger = only.ledger ∙ rest.ledger in
      let count_c : count_of_release c r ≡ count_of_release a r = ap (λ (p : Block). count_in p r.page) (page_c r.count_at) in
      let away : r.print_at ≢ r.count_at = λ same_page. apart_at a.shape r placed (sym same_page) in
      let fewer = cleared.changes in
      let changes_c : c.ledger.births.spare ≡ a.ledger.births.spare = ap (λ (l : Ledger). l.births.spare) ledger in
      let changes_n : n.ledger.births.spare ≡ e.ledger.births.spare = ap (λ (l : Ledger). l.births.spare) low.ledger in
      let first = placed.first in
      let some = can.counted in
      let births_n : n.ledger.births ≡ e.ledger.births = ap (λ (l : Ledger). l.births) low.ledger in
      let births_c : c.ledger.births ≡ a.ledger.births = ap (λ (l : Ledger). l.births) ledger in
      let pool_e : e.ledger.pool ≡ a.ledger.pool = cleared.pool ∙ ap (λ (l : Ledger). l.pool) ledger in
      let left : count_in low.page r.page ≡ count_of_release a r - 1 = low.sets.here ∙ ap (λ (p : Block). count_in p r.page - 1) count_page_same in
      let now : c.engine.tallies ≡ counted r.count_at a.engine.tallies = same_tallies ∙ edited in
      record {
        shape = low.only.shape ∙ shape_e;
        queue = ap (λ (l : Ledger). l.queue) low.ledger ∙ ap (λ (q : QueueLists). record q { releases = remove q.releases i }) (cleared.queue ∙ ap (λ (l : Ledger). l.queue) ledger);
        count = ap (λ (p : Block). count_in p r.page) (sym (page_is n r.count_at low.page low.only.here)) ∙ low.sets.here ∙ ap (λ (p : Block). count_in p r.page - 1) count_page_same;
        none = λ one. ap (λ (p : Block). print_entry_of p (print_place r.page)) (low.only.others r.print_at away) ∙ cleared.none (count_c ∙ one);
        kept = λ more. low.only.others r.print_at away ∙ cleared.kept (omega (arith, more, count_c)) ∙ page_c r.print_at;
        counts = λ p from ne on. ap (λ (x : Block). count_in x p) (sym (page_is n r.count_at low.page low.only.here)) ∙ low.sets.others p from ne (subst (λ (x : ShapeView). count_page x p ≡ count_page x r.page) (sym shape_e) (on ∙ placed.count_at)) ∙ ap (λ (x : Block). count_in x p) count_page_same;
        prints = λ p from ne on. ap (λ (x : Block). print_entry_of x (print_place p)) (low.only.others r.print_at away) ∙ cleared.prints p from ne (subst (λ (x : ShapeView). print_page x p ≡ r.print_at) (sym shape_c) on) ∙ ap (λ (x : Block). print_entry_of x (print_place p)) (page_c r.print_at);
        others = λ q ne ne_print. low.only.others q ne ∙ cleared.others q ne_print ∙ page_c q;
        same = record {
          holds = λ q. low.only.same.holds q ∙ held_e q;
          there = λ q. low.only.same.there q ∙ cleared.same.there q ∙ ap (λ (k : CacheView). is_there k q) cache ∙ same.there q;
          calls = low.only.same.calls ∙ cleared.same.calls ∙ ap (λ (k : CacheView). k.calls) cache ∙ same.calls;
        };
        dirty = λ x. ap (λ (g : GraphLists). dirty_in g x) last ∙ cleared.dirty x
            ∙ ap (λ (y : Bool). y || (loses_print c r && eqb x r.print_at)) (ap (λ (l : List ℕ). holds l x) same_dirty ∙ ap (λ (g : GraphLists). dirty_in g x) graph ∙ holds_placed r.count_at a.engine.graph.dirty x)
            ∙ ap (λ (y : Bool). (dirty_in a.engine.graph x || eqb x r.count_at) || (y && eqb x r.print_at)) loses_same ∙ or_then (dirty_in a.engine.graph x) (eqb x r.count_at) (loses_print a r && eqb x r.print_at);
        map_ordered = record {
          live = λ z is. ap (λ (g : GraphLists). live_in g r.map_at r.count_at) last ∙ cleared.grows.live r.map_at r.count_at (ordered.live z (touched_grows.dirty r.map_at is));
          barred = λ z is. ap (λ (g : GraphLists). barred_in g r.map_at r.count_at) last ∙ cleared.grows.barred r.map_at r.count_at (ordered.barred z (touched_grows.hung r.map_at ∙ is));
        };
        print_ordered = λ is. ap (λ (g : GraphLists). live_in g r.print_at r.count_at) last ∙ cleared.ordered (last_same a c r page_c (only.ledger ∙ rest.ledger) ∙ is);
        same_births = λ stays. births_n ∙ cleared.same_births (loses_same ∙ stays) ∙ births_c;
        births = subst (λ y. SameBut (Print r.page) y n.ledger.births) births_c (subst (λ y. SameBut (Print r.page) c.ledger.births y) (sym births_n) cleared.births);
        zeroed = λ one. subst (λ (y : PoolView). IsTold a.shape (after_zeroed r.page (told_of y)) n.ledger.pool) pool_e (subst (λ (x : ShapeView). IsTold x (after_zeroed r.page (told_of e.ledger.pool)) n.ledger.pool) shape_e (low.zero (omega (arith, left, one))));
        more = λ many. low.more (omega (arith, left, many)) ∙ pool_e;
        tallies = ap (λ (x : EngineView). x.tallies) low.only.engine ∙ cleared.tallies ∙ ap (λ (y : Bool). cond y (counted r.print_at c.engine.tallies) c.engine.tallies) loses_same
            ∙ ap (λ (t : List Tally). cond (loses_print a r) (counted r.print_at t) t) now;
        grows = subst (λ (g : GraphLists). GrowsInto r.count_at a.engine.graph g) (sym last) (grows_then r.count_at a.engine.graph c.engine.graph e.engine.graph (grows_then r.count_at a.engine.graph b.engine.graph c.engine.graph touched_grows grows) cleared.grows);
        takes = record {
          spare_nodes = subst (λ (g : GraphLists). a.engine.graph.spare_nodes ≤ g.spare_nodes + 2) (sym last) three.spare_nodes;
          spare_edges = subst (λ (g : GraphLists). a.engine.graph.spare_edges ≤ g.spare_edges + 2) (sym last) three.spare_edges;
          count = subst (λ (g : GraphLists). node_count g ≤ node_count a.engine.graph + 2) (sym last) three.count;
          room = ap (λ (x : EngineView). x.room) low.only.engine ∙ three.room;
        };
        changes = omega (arith, fewer, changes_c, changes_n);
      }
