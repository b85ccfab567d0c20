-- Marks, edges, queue and tables after a release went, or was looked at.
use Rattle.std.proofs.Common.{arith, ◌≡◌, ◌≢◌, inl, inr, ◌<◌, ◌≤◌, ◌-◌, ℕ, zero, suc, Bool, true, false, ◌&&◌, not, refl, sym, ap, ◌∙◌, subst, List, [], ◌∷◌, map, take, drop, Some, eqb, eqb-true, is_some}
use Rattle.std.specs.Prelude.{slice_get}
use Rattle.std.specs.List.{All, remove}
use Rattle.std.proofs.lemmas.Bool.{and_parts, cases_eq, false_from_ne_true, true≢false}
use Rattle.std.proofs.lemmas.List.{map-append}
use Rattle.std.proofs.lemmas.List.Elements.{All-append, All-cons, All-drop, All-head, All-nil, All-tail, All-take}
use Rattle.page_device.specs.Block.{zero_block}
use Rattle.page_device.specs.Meaning.{Meaning}
use Rattle.page_layout.specs.Formed.{is_formed}
use Rattle.page_layout.specs.Shape.{count_page, data_page, print_page, print_place}
use Rattle.page_layout.specs.Tables.{print_entry_of}
use Rattle.page_cache.specs.View.{content_in, holds_in, is_there}
use Rattle.order_model.specs.declared.Slot.TheVariants.{Print}
use Rattle.order_model.specs.Paths.{Closes, LivePath, leg, via}
use Rattle.order_model.specs.World as plain
use Rattle.order_model.specs.World.{IsData}
use Rattle.birth_marks.specs.Births.{is_unborn_in}
use Rattle.dep_graph.specs.Lists.{GraphLists, live_in}
use Rattle.ref_counts.specs.Counts.{count_in}
use Rattle.release_queue.specs.declared.Release.{Release}
use Rattle.release_queue.specs.Queued.{QueueLists, unmarked}
use Rattle.flush_engine.specs.View.{EngineView}
use Rattle.engine_model.specs.AnyDevice.{FewerQueued, IsOrdered}
use Rattle.engine_model.proofs.Ordering.{queue_order}
use Rattle.engine_model.proofs.Queues.{was_in}
use Rattle.store_core.specs.declared.Core.{Core}
use Rattle.store_core.specs.declared.ledger.Ledger.{Ledger}
use Rattle.store_core.specs.Applied.{AppliesRelease, CanApply, count_of_release, is_last_print, loses_at}
use Rattle.store_core.specs.Edits.{LowersCount}
use Rattle.store_core.specs.Layout.{lay_of}
use Rattle.store_core.specs.Orderly.{AreFormed, HasToWait, IsLooked, IsLookedBut, IsOrderly, IsOrderlyBut}
use Rattle.store_core.specs.Views.{held_or, page_in, plain_release, world_of}
use Rattle.store_core.specs.Whole.{IsPlaced}
use Rattle.store_core.proofs.Clean.{apart_pages}
use Rattle.store_core.proofs.CountedStands.{sets_count}
use Rattle.store_core.proofs.Edited.{held_there}
use Rattle.store_core.proofs.Good.{format}
use Rattle.store_core.proofs.Looks.{all_both, closes_more, count_same, last_still, print_same, waits_on}
use Rattle.store_core.proofs.Moved.{split_plain}
use Rattle.store_core.proofs.OrderMarks.{ordered_in}
use Rattle.store_core.proofs.OrderlyEdits.{edit_on, entry_kept, formed_but}
use Rattle.store_core.proofs.OrderlySteps.{formed_same}

pub all_removed : (P : Release → Type 0) (i : ℕ) (rs : List Release) → All P rs → All P (remove rs i)
all_removed P i rs all = All-append P (take i rs) (drop (suc i) rs) (All-take P i rs all) (All-drop P (suc i) rs all)

-- the plain queue without the release at a place
pub fewer_queued : (rs : List Release) (i : ℕ) (r : Release) → slice_get rs i ≡ Some r → FewerQueued (map plain_release (remove rs i)) (map plain_release rs)
fewer_queued rs i r at l p stage h =
    let before = map plain_release (take i rs) in
    let after = map plain_release (drop (suc i) rs) in
    subst (λ (q : List plain.Release). plain.Queued q l p stage) (sym (split_plain rs i r at))
    (was_in before after (plain_release r) l p stage (subst (λ (q : List plain.Release). plain.Queued q l p stage) (map-append plain_release (take i rs) (drop (suc i) rs)) h))

-- The count of a release's page is lowered, and it is out of the queue: seen from the releases of other pages.
module _ (i : ℕ) (r : Release) (old new : Core) (at : slice_get old.ledger.queue.releases i ≡ Some r) (placed : IsPlaced old.shape r) (held : 0 < holds_in old.engine.cache r.count_at) (k : LowersCount i r old new) where
  formed_here : AreFormed old → is_formed old.shape r.count_at k.page ≡ true
  formed_here f =
      let was : is_formed old.shape (count_page old.shape r.page) (page_in old r.count_at) ≡ true = subst (λ (n : ℕ). is_formed old.shape n (page_in old r.count_at) ≡ true) placed.count_at (f r.count_at (held_there old.engine.cache r.count_at held)) in
      let top = (format old.shape).counts r.page (page_in old r.count_at) (placed.first, placed.last) was in
      let few : count_of_release old r - 1 ≤ 2147483647 = omega (arith, top) in
      subst (λ (n : ℕ). is_formed old.shape n k.page ≡ true) (sym placed.count_at)
      (sets_count old.shape (page_in old r.count_at) k.page r.page (count_of_release old r - 1) placed.first placed.last few was k.sets).formed

  lower_on : (s : Release) → IsPlaced old.shape s → s.page ≢ r.page → HasToWait old s → HasToWait new s
  lower_on s is ne = edit_on r.count_at k.page old new k.only s
      (entry_kept r.count_at k.page old new k.only (λ c. count_in c s.page) s.count_at (λ same. k.sets.others s.page is.first ne (sym is.count_at ∙ same ∙ placed.count_at)))
      (entry_kept r.count_at k.page old new k.only (λ c. is_some (print_entry_of c (print_place s.page))) s.print_at
      (λ same. absurd ((apart_pages old.shape).count_print r.page s.page (placed.first, placed.last) (is.first, is.last) (sym placed.count_at ∙ sym same ∙ is.print_at))))
      (ap (λ (l : Ledger). is_unborn_in l.births (Print s.page) 1) k.ledger)

  pub lower_orderly : IsOrderlyBut r.page old → IsOrderlyBut r.page new
  lower_orderly o = record {
    ordered = λ d. ordered_in d new old.shape k.only.shape (subst (IsOrdered (lay_of old.shape)) (sym (k.world d))
        (queue_order (lay_of old.shape) (world_of d old) (o.ordered d) r.count_at k.page (map plain_release (remove old.ledger.queue.releases i)) (fewer_queued old.ledger.queue.releases i r at)));
    looked = subst (λ (l : Ledger). All (IsLookedBut r.page new) l.queue.releases) (sym k.ledger) (all_removed (IsLookedBut r.page new) i old.ledger.queue.releases
        (all_both (IsPlaced old.shape) (IsLookedBut r.page old) (IsLookedBut r.page new) (λ s is was ne off. lower_on s is ne (was ne off)) old.ledger.queue.releases old.whole.placed o.looked));
    formed = formed_but r.count_at k.page old new k.only (formed_here o.formed) o.formed;
  }

-- a way stays where only the edges from pages go to which none leads
way_keeps : (live more : ℕ → ℕ → Bool) (lost : ℕ → Bool) → ((a b : ℕ) → lost a ≡ false → live a b ≡ true → more a b ≡ true) → ((a b : ℕ) → lost b ≡ true → live a b ≡ false)
    → {a b : ℕ} → lost a ≡ false → LivePath live a b → LivePath more a b
way_keeps live more lost kept none off (leg e) = leg (kept _ _ off e)
way_keeps live more lost kept none off (via {a = a} {b = b} e p) = via (kept _ _ off e) (way_keeps live more lost kept none (false_from_ne_true (lost b) (λ is. true≢false (sym e ∙ none a b is))) p)

-- whether the last print of a page goes, by its pages
abbrev last_at : Core → ℕ → ℕ → ℕ → Bool
last_at core p k f = eqb (count_in (page_in core k) p) 1 && (is_some (print_entry_of (page_in core f) (print_place p)) && not (is_unborn_in core.ledger.births (Print p) 1))

module _ (core : Core) (r s : Release) (of : IsPlaced core.shape r) (is : IsPlaced core.shape s) (same : s.page ≡ r.page) where
  count_at_same : s.count_at ≡ r.count_at
  count_at_same = is.count_at ∙ ap (count_page core.shape) same ∙ sym of.count_at

  print_at_same : s.print_at ≡ r.print_at
  print_at_same = is.print_at ∙ ap (print_page core.shape) same ∙ sym of.print_at

  last_same : is_last_print core s ≡ is_last_print core r
  last_same = ap (λ (n : ℕ). last_at core s.page n s.print_at) count_at_same ∙ ap (λ (n : ℕ). last_at core s.page r.count_at n) print_at_same ∙ ap (λ (n : ℕ). last_at core n r.count_at r.print_at) same

-- A release that was applied leaves the others: one of the same page that waits for its print alone would have kept this one waiting too.
module _ (i : ℕ) (r : Release) (old new : Core) (can : CanApply i r old) (placed : IsPlaced old.shape r) (x : AppliesRelease i r old new) where
  abbrev lost : ℕ → Bool
  lost q = loses_at (count_of_release old r - 1) old r q

  lost_is : (q : ℕ) → lost q ≡ true → q ≡ data_page old.shape r.page
  lost_is q h = eqb-true q (data_page old.shape r.page) (and_parts _ _ h).1

  kept_count : (s : Release) → IsPlaced old.shape s → lost s.count_at ≡ false
  kept_count s is = false_from_ne_true (lost s.count_at) (λ h. (apart_pages old.shape).table_data s.count_at r.page (inr (s.page, (is.first, is.last), inl is.count_at)) (placed.first, placed.last) (lost_is s.count_at h))

  closes_on : (s : Release) → IsPlaced old.shape s → (a : ℕ) → Closes (live_in old.engine.graph) a s.count_at → Closes (live_in new.engine.graph) a s.count_at
  closes_on s is a (inl e) = inl e
  closes_on s is a (inr way) = inr (way_keeps (live_in old.engine.graph) (live_in new.engine.graph) lost x.grows.live (λ c b h. (x.grows.none_to c b h).0) (kept_count s is) way)

  same_page : (s : Release) → IsPlaced old.shape s → s.page ≡ r.page → HasToWait old s → HasToWait new s
  same_page s is e (inl z) = inl (z.0, closes_on s is _ z.1)
  same_page s is e (inr f) = absurd (can.opens (inr (
    sym (last_same old r s placed is e) ∙ f.0,
    subst (λ (n : ℕ). Closes (live_in old.engine.graph) n r.count_at) (print_at_same old r s placed is e) (subst (λ (n : ℕ). Closes (live_in old.engine.graph) s.print_at n) (count_at_same old r s placed is e) f.1),
  )))

  abbrev Both : Release → Type 0
  Both s = IsPlaced old.shape s × IsLooked old s

  pub applied_orderly : IsOrderly old → IsOrderlyBut r.page new → IsOrderly new
  applied_orderly o but = record {
    ordered = but.ordered;
    looked = subst (λ (q : QueueLists). All (IsLooked new) q.releases) (sym x.queue)
        (all_both Both (IsLookedBut r.page new) (IsLooked new) (λ s both late off. elim (cases_eq s.page r.page) [ inl e ↦ same_page s both.0 e (both.1 off) | inr ne ↦ late ne off ]) (remove old.ledger.queue.releases i)
        (all_removed Both i old.ledger.queue.releases (all_both (IsPlaced old.shape) (IsLooked old) Both (λ s is was. (is, was)) old.ledger.queue.releases old.whole.placed o.looked))
        (subst (λ (q : QueueLists). All (IsLookedBut r.page new) q.releases) x.queue but.looked));
    formed = but.formed;
  }

-- nothing but the queue changed
module _ (old new : Core) (shape : new.shape ≡ old.shape) (engine : new.engine ≡ old.engine) (births : new.ledger.births ≡ old.ledger.births) where
  queue_on : (r : Release) → HasToWait old r → HasToWait new r
  queue_on r = waits_on old new r
      (λ a. closes_more (live_in old.engine.graph) (live_in new.engine.graph) (λ x y l. ap (λ (e : EngineView). live_in e.graph x y) engine ∙ l) a r.count_at)
      (last_still old new r
      (count_same old new r (ap (λ (e : EngineView). held_or (content_in e.cache r.count_at) zero_block) engine))
      (print_same old new r (ap (λ (e : EngineView). held_or (content_in e.cache r.print_at) zero_block) engine))
      (λ u. ap (λ b. is_unborn_in b (Print r.page) 1) births ∙ u))

  queue_formed : AreFormed old → AreFormed new
  queue_formed = formed_same old new shape (λ q. ap (λ (e : EngineView). is_there e.cache q) engine) (λ q. ap (λ (e : EngineView). held_or (content_in e.cache q) zero_block) engine)

  queue_ordered : FewerQueued (map plain_release new.ledger.queue.releases) (map plain_release old.ledger.queue.releases) → ((d : Meaning) → IsOrdered (lay_of old.shape) (world_of d old)) → (d : Meaning) → IsOrdered (lay_of new.shape) (world_of d new)
  queue_ordered fewer ordered d = ordered_in d new old.shape shape (record {
    live_before = λ a b h. ap (λ (e : EngineView). Rattle.dep_graph.specs.Lists.dirty_in e.graph a) engine ∙ (ordered d).live_before a b (sym (ap (λ (e : EngineView). live_in e.graph a b) engine) ∙ h);
    edge_kinds = λ a b h. (ordered d).edge_kinds a b (elim h [
      | inl l ↦ inl (sym (ap (λ (e : EngineView). live_in e.graph a b) engine) ∙ l)
      | inr z ↦ inr (sym (ap (λ (e : EngineView). Rattle.dep_graph.specs.Lists.barred_in e.graph a b) engine) ∙ z)
    ]);
    zero_dirty = λ l p h. ap (λ (e : EngineView). Rattle.dep_graph.specs.Lists.dirty_in e.graph ((lay_of old.shape).map_page l)) engine ∙ (ordered d).zero_dirty l p (fewer l p 0 h);
    one_hung = λ l p h. ap (λ (e : EngineView). Rattle.dep_graph.specs.Lists.hung_in e.graph ((lay_of old.shape).map_page l)) engine ∙ (ordered d).one_hung l p (fewer l p 1 h);
    in_range = λ l p stage h. (ordered d).in_range l p stage (fewer l p stage h);
  })

  -- a release left the queue
  pub out_orderly : (i : ℕ) (r : Release) → slice_get old.ledger.queue.releases i ≡ Some r → new.ledger.queue.releases ≡ remove old.ledger.queue.releases i → IsOrderly old → IsOrderly new
  out_orderly i r at out o = record {
    ordered = queue_ordered (λ l p stage h. fewer_queued old.ledger.queue.releases i r at l p stage (subst (λ (rs : List Release). plain.Queued (map plain_release rs) l p stage) out h)) o.ordered;
    looked = subst (λ (rs : List Release). All (IsLooked new) rs) (sym out) (all_removed (IsLooked new) i old.ledger.queue.releases
        (all_both (IsLooked old) (IsLooked old) (IsLooked new) (λ s was again off. queue_on s (was off)) old.ledger.queue.releases o.looked o.looked));
    formed = queue_formed o.formed;
  }

  -- a release was looked at, and has to wait
  pub plain_unmarked : (i : ℕ) (rs : List Release) → map plain_release (unmarked i rs) ≡ map plain_release rs
  unfolding unmarked
  plain_unmarked i [] = refl
  plain_unmarked zero (r ∷ rs) = refl
  plain_unmarked (suc i) (r ∷ rs) = ap (λ (q : List plain.Release). plain_release r ∷ q) (plain_unmarked i rs)

  unmarked_looked : (i : ℕ) (rs : List Release) → ((r : Release) → slice_get rs i ≡ Some r → HasToWait new r) → All (IsLooked new) rs → All (IsLooked new) (unmarked i rs)
  unfolding unmarked
  unmarked_looked i [] waits all = All-nil (IsLooked new)
  unmarked_looked zero (r ∷ rs) waits all = All-cons (IsLooked new) (record r { look = false }) rs (λ off. waits r refl) (All-tail (IsLooked new) r rs all)
  unmarked_looked (suc i) (r ∷ rs) waits all = All-cons (IsLooked new) r (unmarked i rs) (All-head (IsLooked new) r rs all) (unmarked_looked i rs waits (All-tail (IsLooked new) r rs all))

  pub look_orderly : (i : ℕ) → new.ledger.queue.releases ≡ unmarked i old.ledger.queue.releases → ((r : Release) → slice_get old.ledger.queue.releases i ≡ Some r → HasToWait old r) → IsOrderly old → IsOrderly new
  look_orderly i seen waits o = record {
    ordered = queue_ordered (λ l p stage h. subst (λ (q : List plain.Release). plain.Queued q l p stage) (ap (map plain_release) seen ∙ plain_unmarked i old.ledger.queue.releases) h) o.ordered;
    looked = subst (λ (rs : List Release). All (IsLooked new) rs) (sym seen) (unmarked_looked i old.ledger.queue.releases (λ r at. queue_on r (waits r at))
        (all_both (IsLooked old) (IsLooked old) (IsLooked new) (λ s was again off. queue_on s (was off)) old.ledger.queue.releases o.looked o.looked));
    formed = queue_formed o.formed;
  }
