-- Marks, edges, queue and tables after an edit of one page.
use Rattle.std.proofs.Common.{arith, ◌≡◌, ◌≢◌, inl, inr, ◌<◌, ◌≤◌, ◌+◌, ℕ, Bool, true, false, cond, refl, sym, ap, ◌∙◌, subst, List, [], ◌∷◌, ◌++◌, map, Option, None, eqb, ne_eqb, is_some}
use Rattle.std.specs.List.{All}
use Rattle.std.proofs.lemmas.Bool.{cases_eq, true≢false}
use Rattle.std.proofs.lemmas.List.Elements.{All-append, All-cons, All-nil}
use Rattle.page_device.specs.Block.{Block, zero_block}
use Rattle.page_layout.specs.Formed.{is_formed, is_formed_as}
use Rattle.page_layout.specs.Shape.{ShapeView, count_page, data_page, map_page, print_page, print_place}
use Rattle.page_layout.specs.Tables.{print_entry_of}
use Rattle.page_layout.proofs.Laws.{data_page_table, print_place_once}
use Rattle.page_cache.specs.View.{content_in, holds_in, is_there}
use Rattle.order_model.specs.declared.Slot.{Slot}
use Rattle.order_model.specs.declared.Slot.TheVariants.{Name, Print}
use Rattle.order_model.specs.Calls.{same_slot}
use Rattle.order_model.specs.Paths.{Closes}
use Rattle.order_model.specs.World.{IsData}
use Rattle.birth_marks.specs.Births.{BirthsView, SameBut, is_unborn_in}
use Rattle.dep_graph.specs.Lists.{GraphLists, barred_in, dirty_in, entered, hung_in, live_in}
use Rattle.dep_graph.proofs.CountLemmas.{holds_placed}
use Rattle.ref_counts.specs.Counts.{count_in}
use Rattle.release_queue.specs.declared.Release.{Release}
use Rattle.flush_engine.specs.Edits.{GivenUp}
use Rattle.flush_engine.specs.View.{EngineView}
use Rattle.engine_model.specs.AnyDevice.{IsOrdered}
use Rattle.engine_model.specs.SmallSteps.{given_up, touched}
use Rattle.engine_model.proofs.Graphs.{way_longer}
use Rattle.engine_model.proofs.Ordering.{data_open, give_up_order, name_order, put_order, touch_order}
use Rattle.engine_model.proofs.Ways.{way_avoids}
use Rattle.store_core.specs.declared.Core.{Core}
use Rattle.store_core.specs.declared.ledger.Ledger.{Ledger}
use Rattle.store_core.specs.Applied.{count_of_release, has_print_of, is_print_unborn}
use Rattle.store_core.specs.Edits.{Makes, NamesBlock, RaisesCount, is_name_unborn, named_in, release_of}
use Rattle.store_core.specs.Frames.{OnlyEngine, OnlyPage}
use Rattle.store_core.specs.Layout.{lay_of}
use Rattle.store_core.specs.Orderly.{AreFormed, HasToWait, IsLookedBut, IsOrderlyBut, OnlyCame}
use Rattle.store_core.specs.Owed.{IsProvided}
use Rattle.store_core.specs.Printed.{PrintsPage}
use Rattle.store_core.specs.Views.{held_or, page_in, plain_release, world_of}
use Rattle.store_core.specs.Whole.{IsPlaced}
use Rattle.store_core.proofs.Clean.{apart_pages}
use Rattle.store_core.proofs.CountedStands.{sets_count}
use Rattle.store_core.proofs.NamedStands.{sets_name}
use Rattle.store_core.proofs.PlacedStands.{some_kept}
use Rattle.store_core.proofs.PrintedStands.{sets_print}
use Rattle.store_core.proofs.Edited.{held_there, page_is}
use Rattle.store_core.proofs.Looks.{all_both, closes_more, count_same, last_still, print_same, waits_on}
use Rattle.store_core.proofs.OrderMarks.{ordered_as, ordered_in, some_device}
use Rattle.store_core.proofs.OrderlySteps.{formed_fewer, looked_on}
use Rattle.store_core.proofs.Owing.{HasPages, pages_held}

-- one page has another content
module _ (at : ℕ) (block : Block) (old new : Core) (only : OnlyPage at block old new) where
  pub graph_kept : new.engine.graph ≡ old.engine.graph
  graph_kept = ap (λ (e : EngineView). e.graph) only.engine

  pub page_now : page_in new at ≡ block
  page_now = sym (page_is new at block only.here)

  -- an entry of a page
  pub entry_kept : {A : Type 0} (read : Block → A) (q : ℕ) → (q ≡ at → read block ≡ read (page_in old at)) → read (page_in new q) ≡ read (page_in old q)
  entry_kept read q here = elim (cases_eq q at) [
    | inl is ↦ ap (λ x. read (page_in new x)) is ∙ ap read page_now ∙ here is ∙ ap (λ x. read (page_in old x)) (sym is)
    | inr ne ↦ ap read (only.others q ne)
  ]

  pub formed_but : is_formed old.shape at block ≡ true → AreFormed old → AreFormed new
  formed_but here f q there = subst (λ (s : ShapeView). is_formed s q (page_in new q) ≡ true) (sym only.shape) (elim (cases_eq q at) [
    | inl is ↦ ap (λ x. is_formed old.shape x (page_in new x)) is ∙ ap (is_formed old.shape at) page_now ∙ here
    | inr ne ↦ ap (is_formed old.shape q) (only.others q ne) ∙ f q (sym (only.same.there q) ∙ there)
  ])

  -- a release of which count and print stay
  pub edit_on : (r : Release) → count_of_release new r ≡ count_of_release old r → has_print_of new r ≡ has_print_of old r → is_print_unborn new r ≡ is_print_unborn old r → HasToWait old r → HasToWait new r
  edit_on r count print unborn = waits_on old new r
      (λ a. closes_more (live_in old.engine.graph) (live_in new.engine.graph) (λ x y l. ap (λ (g : GraphLists). live_in g x y) graph_kept ∙ l) a r.count_at)
      (last_still old new r count print (λ u. unborn ∙ u))

-- another slot is born or not as before
pub other_born : (old new : BirthsView) (slot s : Slot) (v : ℕ) → SameBut slot old new → same_slot slot s ≡ false → is_unborn_in new s v ≡ is_unborn_in old s v
other_born old new slot s v same off = rw (same.met s v off, same.recorded s off) refl

module _ (p : ℕ) (old new : Core) (first : 1 ≤ p) (last : p ≤ old.shape.pages) where
  abbrev K : ℕ
  K = count_page old.shape p

  abbrev F : ℕ
  F = print_page old.shape p

  data_of : (r : Release) → IsPlaced old.shape r → IsData (lay_of old.shape) r.page
  data_of r placed = (placed.first, placed.last)

  -- the count of p, seen from the releases of other pages
  pub raise_orderly : 0 < holds_in old.engine.cache K → count_in (page_in old K) p < 2147483647 → RaisesCount p old new → IsOrderlyBut p old → IsOrderlyBut p new
  raise_orderly held below k o =
      let few : count_in (page_in old K) p + 1 ≤ 2147483647 = omega (arith, below) in
      record {
        ordered = λ d. ordered_in d new old.shape k.only.shape (subst (IsOrdered (lay_of old.shape)) (sym (k.world d)) (put_order (lay_of old.shape) (world_of d old) (o.ordered d) K k.page));
        looked = looked_on p old new (IsPlaced old.shape) old.whole.placed (ap (λ (l : Ledger). l.queue) k.ledger) (λ r placed ne. edit_on K k.page old new k.only r
            (entry_kept K k.page old new k.only (λ c. count_in c r.page) r.count_at (λ is. k.sets.others r.page placed.first ne (sym placed.count_at ∙ is)))
            (entry_kept K k.page old new k.only (λ c. is_some (print_entry_of c (print_place r.page))) r.print_at
            (λ is. absurd ((apart_pages old.shape).count_print p r.page (first, last) (data_of r placed) (sym is ∙ placed.print_at))))
            (ap (λ (l : Ledger). is_unborn_in l.births (Print r.page) 1) k.ledger)) o.looked;
        formed = formed_but K k.page old new k.only
            (sets_count old.shape (page_in old K) k.page p (count_in (page_in old K) p + 1) first last few (o.formed K (held_there old.engine.cache K held)) k.sets).formed o.formed;
      }

  -- and its print
  pub print_orderly : (print : Option (List ℕ)) → 0 < holds_in old.engine.cache F → PrintsPage p print old new → IsOrderlyBut p old → IsOrderlyBut p new
  print_orderly print held k o = record {
    ordered = λ d. ordered_in d new old.shape k.only.shape (subst (IsOrdered (lay_of old.shape)) (sym (k.world d)) (put_order (lay_of old.shape) (world_of d old) (o.ordered d) F k.page));
    looked = looked_on p old new (IsPlaced old.shape) old.whole.placed (ap (λ (l : Ledger). l.queue) k.ledger) (λ r placed ne. edit_on F k.page old new k.only r
        (entry_kept F k.page old new k.only (λ c. count_in c r.page) r.count_at
        (λ is. absurd ((apart_pages old.shape).count_print r.page p (data_of r placed) (first, last) (sym placed.count_at ∙ is))))
        (entry_kept F k.page old new k.only (λ c. is_some (print_entry_of c (print_place r.page))) r.print_at
        (λ is. ap is_some (k.sets.others (print_place r.page) (λ e. ne (print_place_once old.shape r.page p placed.first first (sym placed.print_at ∙ is) e)))))
        (other_born old.ledger.births new.ledger.births (Print p) (Print r.page) 1 k.other_slots (ne_eqb p r.page (λ e. ne (sym e))))) o.looked;
    formed = formed_but F k.page old new k.only (sets_print old.shape (page_in old F) k.page p print first last (o.formed F (held_there old.engine.cache F held)) k.sets).formed o.formed;
  }

-- A block takes another name, and a release of the old one is pushed. It is to be looked at.
module _ (b block p : ℕ) (old new : Core) (lt : block < old.shape.blocks) (held : 0 < holds_in old.engine.cache (map_page block)) (dirty : dirty_in old.engine.graph (map_page block) ≡ true)
    (few : named_in old block ≤ old.shape.pages) (fits : p ≤ old.shape.pages) (k : NamesBlock block p old new) where
  abbrev M : ℕ
  M = map_page block

  abbrev u : Bool
  u = is_name_unborn old block

  name_on : (r : Release) → IsPlaced old.shape r → HasToWait old r → HasToWait new r
  name_on r placed = edit_on M k.page old new k.only r
      (entry_kept M k.page old new k.only (λ c. count_in c r.page) r.count_at
      (λ is. absurd ((apart_pages old.shape).map_count block r.page lt (placed.first, placed.last) (sym is ∙ placed.count_at))))
      (entry_kept M k.page old new k.only (λ c. is_some (print_entry_of c (print_place r.page))) r.print_at
      (λ is. absurd ((apart_pages old.shape).map_print block r.page lt (placed.first, placed.last) (sym is ∙ placed.print_at))))
      (other_born old.ledger.births new.ledger.births (Name block) (Print r.page) 1 k.other_slots refl)

  still_looked : All (IsLookedBut b old) old.ledger.queue.releases → All (IsLookedBut b new) old.ledger.queue.releases
  still_looked looked = all_both (IsPlaced old.shape) (IsLookedBut b old) (IsLookedBut b new) (λ r placed was ne off. name_on r placed (was ne off)) old.ledger.queue.releases old.whole.placed looked

  owed_looked : (z : Bool) → All (IsLookedBut b new) old.ledger.queue.releases → All (IsLookedBut b new) (cond z old.ledger.queue.releases (old.ledger.queue.releases ++ release_of old.shape block (named_in old block) u ∷ []))
  owed_looked true all = all
  owed_looked false all = All-append (IsLookedBut b new) old.ledger.queue.releases (release_of old.shape block (named_in old block) u ∷ []) all
      (All-cons (IsLookedBut b new) (release_of old.shape block (named_in old block) u) [] (λ ne off. absurd (true≢false off)) (All-nil (IsLookedBut b new)))

  pub name_orderly : IsOrderlyBut b old → IsOrderlyBut b new
  name_orderly o = record {
    ordered = λ d. ordered_in d new old.shape k.only.shape (subst (IsOrdered (lay_of old.shape)) (sym (k.world d))
        (name_order (lay_of old.shape) (world_of d old) (o.ordered d) (record { unborn_name = λ l q. u; unborn_print = λ q. false; free = λ q. false }) block (named_in old block) k.page lt
        (elim (cases_eq (named_in old block) 0) [ inl z ↦ inl z | inr some ↦ inr (omega (arith, some), few) ]) dirty));
    looked = subst (λ (l : Ledger). All (IsLookedBut b new) l.queue.releases) (sym k.ledger) (owed_looked (eqb (named_in old block) 0) (still_looked o.looked));
    formed = formed_but M k.page old new k.only (sets_name old.shape (page_in old M) k.page block p lt fits (o.formed M (held_there old.engine.cache M held)) k.sets).formed o.formed;
  }

-- a data page gets its content, or loses it
data_formed : (shape : ShapeView) (p : ℕ) (c : Block) → is_formed shape (data_page shape p) c ≡ true
unfolding is_formed
data_formed shape p c = ap (λ t. is_formed_as t shape (data_page shape p) c) (data_page_table shape p)

-- only this page came in
pub formed_came : (page : ℕ) (old new : Core) → new.shape ≡ old.shape → is_formed old.shape page (page_in new page) ≡ true
    → ((q : ℕ) → q ≢ page → is_there new.engine.cache q ≡ true → content_in new.engine.cache q ≡ content_in old.engine.cache q) → AreFormed old → AreFormed new
formed_came page old new shape here came f q there = subst (λ (s : ShapeView). is_formed s q (page_in new q) ≡ true) (sym shape) (elim (cases_eq q page) [
  | inl is ↦ ap (λ x. is_formed old.shape x (page_in new x)) is ∙ here
  | inr ne ↦ let e = came q ne there in ap (λ (o : Option Block). is_formed old.shape q (held_or o zero_block)) e ∙ f q (ap is_some (sym e) ∙ there)
])

module _ (b p : ℕ) (old new : Core) (first : 1 ≤ p) (last : p ≤ old.shape.pages) (only : OnlyEngine old new) where
  abbrev D : ℕ
  D = data_page old.shape p

  not_count : (r : Release) → IsPlaced old.shape r → r.count_at ≢ D
  not_count r placed = (apart_pages old.shape).table_data r.count_at p (inr (r.page, (placed.first, placed.last), inl placed.count_at)) (first, last)

  not_print : (r : Release) → IsPlaced old.shape r → r.print_at ≢ D
  not_print r placed = (apart_pages old.shape).table_data r.print_at p (inr (r.page, (placed.first, placed.last), inr placed.print_at)) (first, last)

  same_born : (r : Release) → is_print_unborn old r ≡ false → is_print_unborn new r ≡ false
  same_born r v = ap (λ (l : Ledger). is_unborn_in l.births (Print r.page) 1) only.ledger ∙ v

  pub place_orderly : IsProvided old → new.engine.graph ≡ entered D old.engine.graph → ((q : ℕ) → 0 < holds_in old.engine.cache q → content_in new.engine.cache q ≡ content_in old.engine.cache q) → OnlyCame D old new
      → IsOrderlyBut b old → IsOrderlyBut b new
  place_orderly provided graph held came o = record {
    ordered = λ d. ordered_in d new old.shape only.shape (ordered_as (lay_of old.shape) (touched D (world_of d old)) (world_of d new) (record {
      dirty = λ a. ap (λ (g : GraphLists). dirty_in g a) graph ∙ holds_placed D old.engine.graph.dirty a;
      hung = λ a. ap (λ (g : GraphLists). hung_in g a) graph;
      live = λ x y. ap (λ (g : GraphLists). live_in g x y) graph;
      barred = λ x y. ap (λ (g : GraphLists). barred_in g x y) graph;
      queue = ap (λ (l : Ledger). map plain_release l.queue.releases) only.ledger;
    }) (touch_order (lay_of old.shape) (world_of d old) (o.ordered d) D));
    looked = looked_on b old new (HasPages (holds_in old.engine.cache)) (pages_held old.ledger.queue.releases (holds_in old.engine.cache) provided.holds_owed) (ap (λ (l : Ledger). l.queue) only.ledger)
        (λ r h ne. waits_on old new r (λ a. closes_more (live_in old.engine.graph) (live_in new.engine.graph) (λ x y l. ap (λ (g : GraphLists). live_in g x y) graph ∙ l) a r.count_at)
        (last_still old new r
        (count_same old new r (ap (λ (c : Option Block). held_or c zero_block) (held r.count_at h.0)))
        (print_same old new r (ap (λ (c : Option Block). held_or c zero_block) (held r.print_at h.1)))
        (same_born r))) o.looked;
    formed = formed_came D old new only.shape (data_formed old.shape p (page_in new D)) came o.formed;
  }

  pub give_up_orderly : Makes (given_up D) old new → GivenUp D old.engine new.engine → IsOrderlyBut b old → IsOrderlyBut b new
  give_up_orderly world gone o = record {
    ordered = λ d. ordered_in d new old.shape only.shape (subst (IsOrdered (lay_of old.shape)) (sym (world d)) (give_up_order (lay_of old.shape) (world_of d old) (o.ordered d) (apart_pages old.shape) p (first, last)));
    looked = looked_on b old new (IsPlaced old.shape) old.whole.placed (ap (λ (l : Ledger). l.queue) only.ledger) (λ r placed ne. waits_on old new r (avoids r placed)
        (last_still old new r (count_same old new r (page_stays r.count_at (not_count r placed))) (print_same old new r (page_stays r.print_at (not_print r placed))) (same_born r))) o.looked;
    formed = formed_fewer old new only.shape (λ q there. some_kept (eqb q D) (content_in old.engine.cache q) (content_in new.engine.cache q) (gone.cache.content q) there) o.formed;
  }
    where
      page_stays : (q : ℕ) → q ≢ D → page_in new q ≡ page_in old q
      page_stays q ne = ap (λ (c : Option Block). held_or c zero_block) (gone.cache.content q ∙ ap (λ (z : Bool). cond z None (content_in old.engine.cache q)) (ne_eqb q D ne))

      none : (x : ℕ) → live_in old.engine.graph x D ≡ false
      none x = data_open (lay_of old.shape) (world_of some_device old) (o.ordered some_device) (apart_pages old.shape) x p (first, last)

      avoids : (r : Release) → IsPlaced old.shape r → (a : ℕ) → Closes (live_in old.engine.graph) a r.count_at → Closes (live_in new.engine.graph) a r.count_at
      avoids r placed a (inl e) = inl e
      avoids r placed a (inr way) = inr (way_longer (λ x y l. gone.graph.live x y ∙ l) (way_avoids (live_in old.engine.graph) D none (not_count r placed) way))
