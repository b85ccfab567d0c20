-- A write that the device took keeps the contents.
use Rattle.std.proofs.Common.{◌≡◌, ◌≢◌, ◌⊎◌, inl, inr, ◌<◌, ℕ, Bool, true, false, arith, sym, ap, ◌∙◌, subst, List, Some, true≢false, eq-eqb, eqb}
use Rattle.std.proofs.lemmas.Bool.{cases_eq, false_from_ne_true}
use Rattle.order_model.specs.World.{Layout, World, IsData}
use Rattle.order_model.specs.Contents.{IsAmong}
use Rattle.engine_model.specs.Counts.{CountsInvariant}
use Rattle.engine_model.specs.Entries.{MayName, MayPrint, HasEdge, cached_name, cached_count, cached_print, cached_names}
use Rattle.engine_model.specs.Contents.{ContentsInvariant, DataOrdered, NamedFixed, NamedStands, Last}
use Rattle.engine_model.proofs.Named.{Kept, named_kept, named_parts, printed_kept}
use Rattle.engine_model.proofs.Counting.{count_has}
use Rattle.engine_model.proofs.Lasts.{last_has}
use Rattle.engine_model.proofs.Views.{name_same, count_same, print_same}
use Rattle.engine_model.proofs.Write.{Marks, no_edge, marks_kept, marks_moved}
use Rattle.engine_model.proofs.Write as one
use Rattle.engine_model.specs.DeviceSteps.{Taken, KeepsMarks, MovesMarks}

-- a page with a name in the cache has a count above 0
pub name_counted : (lay : Layout) (top : ℕ) (w : World) → CountsInvariant lay top w → (l p : ℕ) → l < lay.blocks → IsData lay p → cached_name lay w l ≡ p → 0 < cached_count lay w p
name_counted lay top w e l p lt d n =
    let has : 0 < cached_names lay w p = count_has lay.blocks l (λ k. eqb (cached_name lay w k) p) lt (eq-eqb _ p n) in
    let enough = (e.count_balance p d).enough in
    omega arith

module _ (lay : Layout) (top : ℕ) (sound : Bool) (array : ℕ → List (List ℕ)) (w v : World) (page : ℕ)
    (first : CountsInvariant lay top w) (old : ContentsInvariant lay sound array w) (t : Taken w v page) (m : Marks lay w v page) where
  name : (l : ℕ) → cached_name lay v l ≡ cached_name lay w l
  name = name_same lay w v t.cached

  count : (p : ℕ) → cached_count lay v p ≡ cached_count lay w p
  count = count_same lay w v t.cached

  print_is : (p : ℕ) → cached_print lay v p ≡ cached_print lay w p
  print_is = print_same lay w v t.cached

  may_name : (p l : ℕ) → MayName lay v p l → MayName lay w p l ⊎ ((lay.map_page l ≡ page) × (cached_name lay w l ≡ p))
  may_name = one.may_name lay top w v page first t m

  may_print : (p : ℕ) (print : List ℕ) → MayPrint lay v p print → MayPrint lay w p print ⊎ ((lay.print_page p ≡ page) × (cached_print lay w p ≡ Some print))
  may_print = one.may_print lay top w v page first t m

  free_of : (a b : ℕ) → b ≡ page → HasEdge w a b → ⊥
  free_of = no_edge lay top w v page first t m

  -- a data page that is not dirty is not the written one
  not_here : (a : ℕ) → w.dirty a ≡ false → a ≢ page
  not_here a c e = true≢false (sym t.was_dirty ∙ ap w.dirty (sym e) ∙ c)

  newest_there : (a : ℕ) → w.dirty a ≡ false → v.newest a ≡ w.newest a
  newest_there a c = t.newest_other a (not_here a c)

  still_clean : (a : ℕ) → w.dirty a ≡ false → v.dirty a ≡ false
  still_clean a c = false_from_ne_true _ (λ d. true≢false (sym (m.dirty_old a d) ∙ c))

  kept : (p : ℕ) → Kept lay w p → Kept lay v p
  kept p s = (
    record {
      one = λ c q. elim (t.possible (lay.data_page p) c q) [
        | inl q ↦ s.0.one c q ∙ sym (newest_there _ s.1.clean)
        | inr q ↦ absurd (not_here _ s.1.clean q.0)
      ];
    },
    record {
      clean = still_clean _ s.1.clean;
      fixed = false_from_ne_true _ (λ y. elim (m.hung_old _ y) [ inl h ↦ true≢false (sym h ∙ s.1.fixed) | inr e ↦ not_here _ s.1.clean e ]);
    },
  )

  -- what the written page names in the cache is settled
  settled_here : (p : ℕ) → IsData lay p → 0 < cached_count lay w p → (w.dirty (lay.data_page p) ≡ true → ⊥) → (w.hung (lay.data_page p) ≡ true → ⊥) → Kept lay w p
  settled_here p d pos nd nh = (
    record { one = λ c q. (old.fresh_data_first p d).settled c pos (false_from_ne_true _ nd) (false_from_ne_true _ nh) q },
    record { clean = false_from_ne_true _ nd; fixed = false_from_ne_true _ nh },
  )

  named_here : (p l : ℕ) → l < lay.blocks → IsData lay p → lay.map_page l ≡ page → cached_name lay w l ≡ p → Kept lay w p
  named_here p l lt d at n = settled_here p d (name_counted lay top w first l p lt d n)
      (λ y. free_of (lay.data_page p) (lay.map_page l) at (inl ((old.fresh_data_first p d).name_dirty l lt n y)))
      (λ y. free_of (lay.data_page p) (lay.map_page l) at ((old.fresh_data_first p d).name_hung l lt n y))

  printed_here : (p : ℕ) (print : List ℕ) → IsData lay p → lay.print_page p ≡ page → cached_print lay w p ≡ Some print → Kept lay w p
  printed_here p print d at n = settled_here p d (first.print_needs_count p print d n)
      (λ y. free_of (lay.data_page p) (lay.print_page p) at (inl ((old.fresh_data_first p d).print_dirty print n y)))
      (λ y. free_of (lay.data_page p) (lay.print_page p) at ((old.fresh_data_first p d).print_hung print n y))

  was_edge : (a b : ℕ) → v.hung a ≡ true → (w.dirty a ≡ true → w.live a b ≡ true) → (w.hung a ≡ true → HasEdge w a b) → HasEdge v a b
  was_edge a b h live edge = elim (m.hung_old a h) [
    | inl hung ↦ m.edge_new a b (edge hung)
    | inr e ↦ m.edge_new a b (inl (live (ap w.dirty e ∙ t.was_dirty)))
  ]

  fresh_data_first : (p : ℕ) → IsData lay p → DataOrdered lay v p
  fresh_data_first p d = let was = old.fresh_data_first p d in record {
    name_dirty = λ l lt n y. m.live_dirty _ _ (was.name_dirty l lt (sym (name l) ∙ n) (m.dirty_old _ y)) y;
    name_hung = λ l lt n y. was_edge _ _ y (was.name_dirty l lt (sym (name l) ∙ n)) (was.name_hung l lt (sym (name l) ∙ n));
    print_dirty = λ print n y. m.live_dirty _ _ (was.print_dirty print (sym (print_is p) ∙ n) (m.dirty_old _ y)) y;
    print_hung = λ print n y. was_edge _ _ y (was.print_dirty print (sym (print_is p) ∙ n)) (was.print_hung print (sym (print_is p) ∙ n));
    settled = λ c pos y z q. let s = m.settled_other (lay.data_page p) y z in elim (t.possible _ c q) [
      | inl q ↦ was.settled c (subst (λ x. 0 < x) (count p) pos) s.1 s.2 q ∙ sym (newest_there _ s.1)
      | inr q ↦ absurd (s.0 q.0)
    ];
    clean = λ y. elim (cases_eq (lay.data_page p) page) [
      | inl e ↦ ap v.newest e ∙ t.newest_here ∙ ap w.cached (sym e) ∙ sym (t.cached _)
      | inr ne ↦ elim (m.clean_other _ y) [
        | inl e ↦ absurd (ne e)
        | inr c ↦ t.newest_other _ ne ∙ was.clean c ∙ sym (t.cached _)
      ]
    ];
  }

  stands_named : (p l : ℕ) → l < lay.blocks → IsData lay p → MayName lay v p l → Kept lay w p
  stands_named p l lt d n = elim (may_name p l n) [
    | inl q ↦ named_kept lay sound array w old p d l lt q
    | inr q ↦ named_here p l lt d q.0 q.1
  ]

  stands_printed : (p : ℕ) (print : List ℕ) → IsData lay p → MayPrint lay v p print → Kept lay w p
  stands_printed p print d n = elim (may_print p print n) [
    | inl q ↦ printed_kept lay sound array w old p d print q
    | inr q ↦ printed_here p print d q.0 q.1
  ]

  named : (p : ℕ) → IsData lay p → NamedFixed lay v p × NamedStands lay v p
  named p d = named_parts lay v p (λ l lt n. kept p (stands_named p l lt d n)) (λ print n. kept p (stands_printed p print d n))

  pub write_contents : ContentsInvariant lay sound array v
  write_contents = record {
    fresh_data_first = fresh_data_first;
    named_data_fixed = λ p d. (named p d).0;
    named_data_stands = λ p d. (named p d).1;
    reads = λ l lt. record {
      unmapped = λ n. elim (may_name 0 l n) [
        | inl q ↦ (old.reads l lt).unmapped q
        | inr q ↦ last_has _ _ ((old.reads l lt).cached_unmapped q.1)
      ];
      mapped = λ p d n.
          let s = stands_named p l lt d n in
          subst (λ c. IsAmong c (array l)) (sym (newest_there _ s.1.clean)) (elim (may_name p l n) [
            | inl q ↦ (old.reads l lt).mapped p d q
            | inr q ↦ subst (λ c. IsAmong c (array l)) (sym ((old.fresh_data_first p d).clean s.1.clean)) (last_has _ _ ((old.reads l lt).cached_mapped p d q.1))
          ]);
      cached_unmapped = λ n. (old.reads l lt).cached_unmapped (sym (name l) ∙ n);
      cached_mapped = λ p d n. subst (λ c. Last (array l) c) (sym (t.cached (lay.data_page p))) ((old.reads l lt).cached_mapped p d (sym (name l) ∙ n));
    };
    prints_true = λ s p d. record {
      possible = λ print n.
          let stand = stands_printed p print d n in
          elim (may_print p print n) [
            | inl q ↦ (old.prints_true s p d).possible print q ∙ ap lay.finger (sym (newest_there _ stand.1.clean))
            | inr q ↦ (old.prints_true s p d).cached print q.1 ∙ ap lay.finger (sym ((old.fresh_data_first p d).clean stand.1.clean) ∙ sym (newest_there _ stand.1.clean))
          ];
      cached = λ print n. (old.prints_true s p d).cached print (sym (print_is p) ∙ n) ∙ ap lay.finger (sym (t.cached _));
    };
    first_page = record {
      one = λ c q. elim (t.possible 0 c q) [
        | inl q ↦ old.first_page.one c q ∙ sym (newest_there 0 old.first_page.clean)
        | inr q ↦ absurd (not_here 0 old.first_page.clean q.0)
      ];
      clean = still_clean 0 old.first_page.clean;
      cached = t.cached 0 ∙ old.first_page.cached ∙ sym (newest_there 0 old.first_page.clean);
    };
    well_formed = record {
      possible = λ a c is q. elim (t.possible a c q) [
        | inl q ↦ old.well_formed.possible a c is q
        | inr q ↦ ap (lay.well_formed a) (q.1 ∙ ap w.cached (sym q.0)) ∙ old.well_formed.cached a is
      ];
      cached = λ a is. ap (lay.well_formed a) (t.cached a) ∙ old.well_formed.cached a is;
    };
  }

pub done_contents : (lay : Layout) (top : ℕ) (sound : Bool) (array : ℕ → List (List ℕ)) (w v : World) (page : ℕ)
    → CountsInvariant lay top w → ContentsInvariant lay sound array w → Taken w v page → MovesMarks lay w v page → ContentsInvariant lay sound array v
done_contents lay top sound array w v page first old t k = write_contents lay top sound array w v page first old t (marks_moved lay top w v page first k)

pub taken_contents : (lay : Layout) (top : ℕ) (sound : Bool) (array : ℕ → List (List ℕ)) (w v : World) (page : ℕ)
    → CountsInvariant lay top w → ContentsInvariant lay sound array w → Taken w v page → KeepsMarks w v → ContentsInvariant lay sound array v
taken_contents lay top sound array w v page first old t k = write_contents lay top sound array w v page first old t (marks_kept lay top w v page first t.was_dirty k)
