-- A dropped data page keeps what the engine keeps.
use Rattle.std.proofs.Common.{◌≡◌, ◌≢◌, inl, inr, ◌<◌, ℕ, Bool, true, false, arith, refl, sym, ap, ◌∙◌, subst, List, Some, true≢false}
use Rattle.std.proofs.lemmas.Bool.{cases_eq, false_from_ne_true}
use Rattle.order_model.specs.World.{Layout, World, IsData}
use Rattle.engine_model.specs.Counts.{CountsInvariant}
use Rattle.engine_model.specs.Entries.{MayName, MayPrint, HasEdge, NoEdge, cached_name, cached_count, cached_print, cached_names, Apart}
use Rattle.engine_model.specs.Contents.{ContentsInvariant, DataOrdered, NamedFixed, NamedStands}
use Rattle.engine_model.specs.Drops.{Dropped}
use Rattle.order_model.specs.Calls.{Call}
use Rattle.order_model.specs.declared.Slot.TheVariants.{Name, Print}
use Rattle.order_model.specs.declared.Slot.{Slot}
use Rattle.engine_model.specs.Births.{BirthKnown, IsSlot, cached_value, place_of, value_in}
use Rattle.order_model.specs.Pool.{Told}
use Rattle.engine_model.specs.Pool.{PoolKnows}
use Rattle.engine_model.proofs.Named.{Kept, named_kept, named_parts, printed_kept}
use Rattle.engine_model.proofs.Views.{names_by, newest_name_same, newest_count_same, newest_print_same}
use Rattle.engine_model.proofs.WriteContents.{name_counted}
use Rattle.engine_model.proofs.Graphs.{acyclic_fewer}
use Rattle.engine_model.proofs.NewEdges.{none_to_data}

module _ (lay : Layout) (top : ℕ) (w v : World) (p : ℕ) (apart : Apart lay) (old : CountsInvariant lay top w) (x : Dropped lay w v p) where
  map_apart : (l : ℕ) → l < lay.blocks → lay.map_page l ≢ lay.data_page p
  map_apart l lt = apart.table_data (lay.map_page l) p (inl (l, lt, refl)) x.is_data

  pub count_apart : (q : ℕ) → IsData lay q → lay.count_page q ≢ lay.data_page p
  count_apart q d = apart.table_data (lay.count_page q) p (inr (q, d, inl refl)) x.is_data

  print_apart : (q : ℕ) → IsData lay q → lay.print_page q ≢ lay.data_page p
  print_apart q d = apart.table_data (lay.print_page q) p (inr (q, d, inr refl)) x.is_data

  no_edge : (a : ℕ) → HasEdge w a (lay.data_page p) → ⊥
  no_edge = none_to_data lay w p apart old.edge_kinds x.is_data

  no_live : (a : ℕ) → w.live a (lay.data_page p) ≡ false
  no_live a = false_from_ne_true _ (λ h. no_edge a (inl h))

  no_barred : (a : ℕ) → w.barred a (lay.data_page p) ≡ false
  no_barred a = false_from_ne_true _ (λ h. no_edge a (inr h))

  pub name : (l : ℕ) → l < lay.blocks → cached_name lay v l ≡ cached_name lay w l
  name l lt = ap (λ c. lay.name_in c l) (x.cached (lay.map_page l) (map_apart l lt))

  pub count : (q : ℕ) → IsData lay q → cached_count lay v q ≡ cached_count lay w q
  count q d = ap (λ c. lay.count_in c q) (x.cached (lay.count_page q) (count_apart q d))

  pub print_is : (q : ℕ) → IsData lay q → cached_print lay v q ≡ cached_print lay w q
  print_is q d = ap (λ c. lay.print_in c q) (x.cached (lay.print_page q) (print_apart q d))

  pub names : (q : ℕ) → cached_names lay v q ≡ cached_names lay w q
  names = names_by lay w v name

  pub may_name : (q l : ℕ) → MayName lay v q l → MayName lay w q l
  may_name q l n = record { content = n.content; possible = x.possible _ n.content n.possible; names = n.names }

  pub may_print : (q : ℕ) (print : List ℕ) → MayPrint lay v q print → MayPrint lay w q print
  may_print q print n = record { content = n.content; possible = x.possible _ n.content n.possible; has = n.has }

  edge_kept : (a b : ℕ) → a ≢ lay.data_page p → HasEdge w a b → HasEdge v a b
  edge_kept a b ne (inl l) = inl (x.live a b ne ∙ l)
  edge_kept a b ne (inr r) = inr (x.barred a b ∙ r)

  no_edge_old : (a b : ℕ) → a ≢ lay.data_page p → NoEdge v a b → NoEdge w a b
  no_edge_old a b ne n = (sym (x.live a b ne) ∙ n.0, sym (x.barred a b) ∙ n.1)

  pub live_parts : (a b : ℕ) → v.live a b ≡ true → (a ≢ lay.data_page p) × (b ≢ lay.data_page p) × (w.live a b ≡ true)
  live_parts a b h =
      let ne : a ≢ lay.data_page p = λ e. true≢false (sym h ∙ ap (λ y. v.live y b) e ∙ x.live_gone b) in
      let was : w.live a b ≡ true = sym (x.live a b ne) ∙ h in
      (ne, (λ e. true≢false (sym was ∙ ap (λ y. w.live a y) e ∙ no_live a)), was)

  pub drop_keeps : CountsInvariant lay top v
  drop_keeps = record {
    marks_and_edges = record {
      live_before = λ a b h. let q = live_parts a b h in x.dirty a q.0 ∙ old.marks_and_edges.live_before a b q.2;
      live_after = λ a b h. let q = live_parts a b h in x.dirty b q.1 ∙ old.marks_and_edges.live_after a b q.2;
      barred_before = λ a b h. x.hung a ∙ old.marks_and_edges.barred_before a b (sym (x.barred a b) ∙ h);
      barred_after = λ a b h. let was : w.barred a b ≡ true = sym (x.barred a b) ∙ h in
          x.dirty b (λ e. true≢false (sym was ∙ ap (λ y. w.barred a y) e ∙ no_barred a)) ∙ old.marks_and_edges.barred_after a b was;
      acyclic = acyclic_fewer w.live v.live (λ a b h. (live_parts a b h).2) old.marks_and_edges.acyclic;
      settled = λ a c is y z q. let ne = apart.table_data a p is x.is_data in
          old.marks_and_edges.settled a c is (sym (x.dirty a ne) ∙ y) (sym (x.hung a) ∙ z) (x.possible a c q) ∙ sym (x.cached a ne);
      clean = λ a is y. let ne = apart.table_data a p is x.is_data in
          x.newest a ∙ old.marks_and_edges.clean a is (sym (x.dirty a ne) ∙ y) ∙ sym (x.cached a ne);
    };
    edge_kinds = λ a b h. old.edge_kinds a b (elim h [ inl l ↦ inl (live_parts a b l).2 | inr r ↦ inr (sym (x.barred a b) ∙ r) ]);
    count_balance = λ q d. record {
      enough = rw (names q, count q d, x.queue) (old.count_balance q d).enough;
      in_range = rw (count q d) (old.count_balance q d).in_range;
    };
    counts_cover_names = λ q d. record {
      each = λ c z S h. (old.counts_cover_names q d).each c (x.possible _ c z) S (λ l lt s. elim (h l lt s) [
        | inl n ↦ inl (may_name q l n)
        | inr n ↦ inr (sym (name l lt) ∙ n.0, no_edge_old _ _ (count_apart q d) n.1)
      ]);
      newest = λ S h. rw (newest_count_same lay w v q (x.newest (lay.count_page q))) ((old.counts_cover_names q d).newest S (λ l lt s. elim (h l lt s) [
        | inl n ↦ inl (may_name q l n)
        | inr n ↦ inr (sym (name l lt) ∙ n.0, sym (x.live _ _ (count_apart q d)) ∙ n.1)
      ]));
    };
    counts_cover_prints = λ q d. record {
      each = λ c print z h. (old.counts_cover_prints q d).each c print (x.possible _ c z) (elim h [
        | inl n ↦ inl (may_print q print n)
        | inr n ↦ inr (sym (print_is q d) ∙ n.0, no_edge_old _ _ (count_apart q d) n.1)
      ]);
      newest = λ print h. rw (newest_count_same lay w v q (x.newest (lay.count_page q))) ((old.counts_cover_prints q d).newest print (elim h [
        | inl n ↦ inl (may_print q print n)
        | inr n ↦ inr (sym (print_is q d) ∙ n.0, sym (x.live _ _ (count_apart q d)) ∙ n.1)
      ]));
    };
    print_needs_count = λ q print d h. rw (count q d) (old.print_needs_count q print d (sym (print_is q d) ∙ h));
    lost_name_owes_release = record {
      each = λ l q lt d n. elim (old.lost_name_owes_release.each l q lt d (may_name q l n)) [
        | inl same ↦ inl (name l lt ∙ same)
        | inr lost ↦ inr (elim lost [ inl z ↦ inl (rw x.queue z) | inr edge ↦ inr (edge_kept _ _ (map_apart l lt) edge) ])
      ];
      newest = λ l q lt d h. elim (old.lost_name_owes_release.newest l q lt d (sym (newest_name_same lay w v l (x.newest (lay.map_page l))) ∙ h)) [
        | inl same ↦ inl (name l lt ∙ same)
        | inr lost ↦ inr (elim lost [ inl z ↦ inl (rw x.queue z) | inr edge ↦ inr (x.live _ _ (map_apart l lt) ∙ edge) ])
      ];
      dirty = λ l q lt z. x.dirty _ (map_apart l lt) ∙ old.lost_name_owes_release.dirty l q lt (rw x.queue at z);
      hung = λ l q lt z. x.hung _ ∙ old.lost_name_owes_release.hung l q lt (rw x.queue at z);
      in_range = λ l q stage z. old.lost_name_owes_release.in_range l q stage (rw x.queue at z);
    };
    lost_print_ordered = λ q d. record {
      each = λ print n. elim ((old.lost_print_ordered q d).each print (may_print q print n)) [
        | inl same ↦ inl (print_is q d ∙ same)
        | inr edge ↦ inr (edge_kept _ _ (print_apart q d) edge)
      ];
      newest = λ print h. elim ((old.lost_print_ordered q d).newest print (sym (newest_print_same lay w v q (x.newest (lay.print_page q))) ∙ h)) [
        | inl same ↦ inl (print_is q d ∙ same)
        | inr edge ↦ inr (x.live _ _ (print_apart q d) ∙ edge)
      ];
    };
  }

  -- no slot and no count stands on a data page
  slot_apart : (slot : Slot) → IsSlot lay slot → place_of lay slot ≢ lay.data_page p
  slot_apart (Name l) lt = map_apart l lt
  slot_apart (Print q) d = print_apart q d

  pub drop_births : (calls : List Call) (slot : Slot) → IsSlot lay slot → BirthKnown lay w calls slot → BirthKnown lay v calls slot
  drop_births calls slot is was =
      let same : cached_value lay v slot ≡ cached_value lay w slot = ap (value_in lay slot) (x.cached (place_of lay slot) (slot_apart slot is)) in
      record {
        recorded = λ c h q. was.recorded c h (x.possible _ c q);
        unrecorded = λ c h q. was.unrecorded c h (x.possible _ c q) ∙ sym same;
        left = λ h. was.left h ∙ sym same;
        written = λ h. ap (value_in lay slot) (x.newest _) ∙ was.written h ∙ sym same;
        node = λ h. elim (was.node h) [ inl y ↦ inl (x.dirty _ (slot_apart slot is) ∙ y) | inr y ↦ inr (x.hung _ ∙ y.0, y.1) ];
      }

  pub drop_pool : (told : Told) (q : ℕ) → IsData lay q → PoolKnows lay w told q → PoolKnows lay v told q
  drop_pool told q d was = record {
    zero = λ h. count q d ∙ was.zero h;
    above = λ h. was.above (sym (count q d) ∙ h);
    possible = λ h c z. was.possible h c (x.possible _ c z);
    newest = λ h. newest_count_same lay w v q (x.newest _) ∙ was.newest h;
  }

  -- contents
  no_name : (l : ℕ) → l < lay.blocks → cached_name lay w l ≡ p → ⊥
  no_name l lt n = let pos = name_counted lay top w old l p lt x.is_data n in let none = x.no_count in omega arith

  no_print : (print : List ℕ) → cached_print lay w p ≡ Some print → ⊥
  no_print print n = let pos = old.print_needs_count p print x.is_data n in let none = x.no_count in omega arith

  other : (q : ℕ) → IsData lay q → (q ≡ p → ⊥) → lay.data_page q ≢ lay.data_page p
  other q d ne = apart.data_data q p d x.is_data ne

  still_clean : (a : ℕ) → w.dirty a ≡ false → v.dirty a ≡ false
  still_clean a c = elim (cases_eq a (lay.data_page p)) [ inl e ↦ ap v.dirty e ∙ x.dirty_gone | inr ne ↦ x.dirty a ne ∙ c ]

  kept : (q : ℕ) → Kept lay w q → Kept lay v q
  kept q s = (record { one = λ c z. s.0.one c (x.possible _ c z) ∙ sym (x.newest _) }, record { clean = still_clean _ s.1.clean; fixed = x.hung _ ∙ s.1.fixed })

  module _ (sound : Bool) (array : ℕ → List (List ℕ)) (was : ContentsInvariant lay sound array w) where
    named : (q : ℕ) → IsData lay q → NamedFixed lay v q × NamedStands lay v q
    named q d = named_parts lay v q (λ l lt n. kept q (named_kept lay sound array w was q d l lt (may_name q l n))) (λ print n. kept q (printed_kept lay sound array w was q d print (may_print q print n)))

    ordered : (q : ℕ) → IsData lay q → DataOrdered lay v q
    ordered q d = elim (cases_eq q p) [
      | inl e ↦ record {
        name_dirty = λ l lt n y. absurd (no_name l lt (sym (name l lt) ∙ n ∙ e));
        name_hung = λ l lt n y. absurd (no_name l lt (sym (name l lt) ∙ n ∙ e));
        print_dirty = λ print n y. absurd (no_print print (ap (cached_print lay w) (sym e) ∙ sym (print_is q d) ∙ n));
        print_hung = λ print n y. absurd (no_print print (ap (cached_print lay w) (sym e) ∙ sym (print_is q d) ∙ n));
        settled = λ c pos y z k. absurd (let none = x.no_count in let same = count q d in let here = ap (cached_count lay w) e in omega arith);
        clean = λ y. x.newest _ ∙ ap (λ z. w.newest (lay.data_page z)) e ∙ sym x.cached_gone ∙ ap (λ z. v.cached (lay.data_page z)) (sym e);
      }
      | inr ne ↦ let o = other q d ne in let b = was.fresh_data_first q d in record {
        name_dirty = λ l lt n y. x.live _ _ o ∙ b.name_dirty l lt (sym (name l lt) ∙ n) (sym (x.dirty _ o) ∙ y);
        name_hung = λ l lt n y. edge_kept _ _ o (b.name_hung l lt (sym (name l lt) ∙ n) (sym (x.hung _) ∙ y));
        print_dirty = λ print n y. x.live _ _ o ∙ b.print_dirty print (sym (print_is q d) ∙ n) (sym (x.dirty _ o) ∙ y);
        print_hung = λ print n y. edge_kept _ _ o (b.print_hung print (sym (print_is q d) ∙ n) (sym (x.hung _) ∙ y));
        settled = λ c pos y z k. b.settled c (subst (λ n. 0 < n) (count q d) pos) (sym (x.dirty _ o) ∙ y) (sym (x.hung _) ∙ z) (x.possible _ c k) ∙ sym (x.newest _);
        clean = λ y. x.newest _ ∙ b.clean (sym (x.dirty _ o) ∙ y) ∙ sym (x.cached _ o);
      }
    ]

    pub drop_contents : ContentsInvariant lay sound array v
    drop_contents = record {
      fresh_data_first = ordered;
      named_data_fixed = λ q d. (named q d).0;
      named_data_stands = λ q d. (named q d).1;
      reads = λ l lt. record {
        unmapped = λ n. (was.reads l lt).unmapped (may_name 0 l n);
        mapped = λ q d n. rw x.newest ((was.reads l lt).mapped q d (may_name q l n));
        cached_unmapped = λ n. (was.reads l lt).cached_unmapped (sym (name l lt) ∙ n);
        cached_mapped = λ q d n. let n = sym (name l lt) ∙ n in
            let o : lay.data_page q ≢ lay.data_page p = other q d (λ e. no_name l lt (n ∙ e)) in
            rw (x.cached (lay.data_page q) o) ((was.reads l lt).cached_mapped q d n);
      };
      prints_true = λ s q d. record {
        possible = λ print n. (was.prints_true s q d).possible print (may_print q print n) ∙ ap lay.finger (sym (x.newest _));
        cached = λ print n. let n = sym (print_is q d) ∙ n in
            (was.prints_true s q d).cached print n ∙ ap lay.finger (sym (x.cached _ (other q d (λ e. no_print print (ap (cached_print lay w) (sym e) ∙ n)))));
      };
      first_page = record { one = λ c z. was.first_page.one c (x.possible 0 c z) ∙ sym (x.newest 0); clean = still_clean 0 was.first_page.clean; cached = x.cached 0 (λ e. apart.first_data p x.is_data (sym e)) ∙ was.first_page.cached ∙ sym (x.newest 0) };
      well_formed = record {
        possible = λ a c is z. was.well_formed.possible a c is (x.possible a c z);
        cached = λ a is. ap (lay.well_formed a) (x.cached a (apart.table_data a p is x.is_data)) ∙ was.well_formed.cached a is;
      };
    }
