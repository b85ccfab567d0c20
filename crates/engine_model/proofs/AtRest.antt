-- A fit image at rest meets what the engine keeps; and after a flush each block has its last content alone.
use Rattle.std.proofs.Common.{◌≡◌, inl, inr, ◌<◌, ◌≤◌, ℕ, Bool, true, false, arith, refl, sym, ap, ◌∙◌, subst, List, [], ◌∷◌, Some, true≢false, eqb, eq-eqb}
use Rattle.order_model.specs.World.{Layout, World, Possible, queued, IsData}
use Rattle.order_model.specs.Counting.{AtMost, count_below}
use Rattle.order_model.specs.Contents.{IsAmong}
use Rattle.engine_model.specs.Counts.{CountsInvariant, Near, NearPrinted}
use Rattle.engine_model.specs.Entries.{MayName, MayPrint, IsTable, cached_name, cached_count, cached_print, cached_names, newest_name, newest_count, newest_print}
use Rattle.engine_model.specs.Contents.{ContentsInvariant, Last}
use Rattle.engine_model.specs.DeviceSteps.{AtRest}
use Rattle.engine_model.specs.Images.{CountsFit, CountsBelow, ContentsFit}
use Rattle.engine_model.proofs.Counting.{count_mono, count_ext}
use Rattle.engine_model.proofs.Graphs.{acyclic_none}

module _ (lay : Layout) (top : ℕ) (w : World) (rest : AtRest w) where
  name : (l : ℕ) → cached_name lay w l ≡ newest_name lay w l
  name l = ap (λ c. lay.name_in c l) (rest.cached (lay.map_page l))

  count : (p : ℕ) → cached_count lay w p ≡ newest_count lay w p
  count p = ap (λ c. lay.count_in c p) (rest.cached (lay.count_page p))

  print_is : (p : ℕ) → cached_print lay w p ≡ newest_print lay w p
  print_is p = ap (λ c. lay.print_in c p) (rest.cached (lay.print_page p))

  may_name : (p l : ℕ) → MayName lay w p l → newest_name lay w l ≡ p
  may_name p l n = ap (λ c. lay.name_in c l) (sym (rest.one _ n.content n.possible)) ∙ n.names

  may_print : (p : ℕ) (print : List ℕ) → MayPrint lay w p print → newest_print lay w p ≡ Some print
  may_print p print n = ap (λ c. lay.print_in c p) (sym (rest.one _ n.content n.possible)) ∙ n.has

  near : (p l : ℕ) → Near lay w p l → newest_name lay w l ≡ p
  near p l (inl n) = may_name p l n
  near p l (inr n) = sym (name l) ∙ n.0

  near_printed : (p : ℕ) (print : List ℕ) → NearPrinted lay w p print → newest_print lay w p ≡ Some print
  near_printed p print (inl n) = may_print p print n
  near_printed p print (inr n) = sym (print_is p) ∙ n.0

  module _ (fit : CountsFit lay w.newest) (below : CountsBelow lay top w.newest) where
    covers : (p : ℕ) → IsData lay p → AtMost lay.blocks (Near lay w p) (newest_count lay w p)
    covers p d S h =
        let names = fit.names p d in
        let most = count_mono lay.blocks S (λ l. eqb (newest_name lay w l) p) (λ l lt s. eq-eqb _ p (near p l (h l lt s))) in
        omega arith

    no_edge : (a b : ℕ) → w.live a b ≡ true → ⊥
    no_edge a b h = true≢false (sym h ∙ rest.live a b)

    no_barred : (a b : ℕ) → w.barred a b ≡ true → ⊥
    no_barred a b h = true≢false (sym h ∙ rest.barred a b)

    pub start : CountsInvariant lay top w
    start = record {
      marks_and_edges = record {
        live_before = λ a b h. absurd (no_edge a b h);
        live_after = λ a b h. absurd (no_edge a b h);
        barred_before = λ a b h. absurd (no_barred a b h);
        barred_after = λ a b h. absurd (no_barred a b h);
        acyclic = acyclic_none w.live rest.live;
        settled = λ a c is y z q. rest.one a c q ∙ sym (rest.cached a);
        clean = λ a is y. sym (rest.cached a);
      };
      edge_kinds = λ a b h. absurd (elim h [ inl l ↦ no_edge a b l | inr r ↦ no_barred a b r ]);
      count_balance = λ p d. record {
        enough =
            let names : cached_names lay w p ≡ count_below (λ l. eqb (newest_name lay w l) p) lay.blocks = count_ext lay.blocks _ _ (λ l lt. ap (λ n. eqb n p) (name l)) in
            let none : queued w.queue p ≡ 0 = ap (λ rs. queued rs p) rest.queue in
            let fits = fit.names p d in
            let same = count p in
            omega arith;
        in_range = rw (count p) (below p d);
      };
      counts_cover_names = λ p d. record {
        each = λ c q S h. subst (λ x. count_below S lay.blocks ≤ lay.count_in x p) (sym (rest.one _ c q)) (covers p d S (λ l lt s. elim (h l lt s) [ inl n ↦ inl n | inr n ↦ inr (n.0, n.1.0) ]));
        newest = covers p d;
      };
      counts_cover_prints = λ p d. record {
        each = λ c print q h. subst (λ x. 0 < lay.count_in x p) (sym (rest.one _ c q)) (fit.prints p print d (near_printed p print (elim h [ inl n ↦ inl n | inr n ↦ inr (n.0, n.1.0) ])));
        newest = λ print h. fit.prints p print d (near_printed p print h);
      };
      print_needs_count = λ p print d h. rw (count p) (fit.prints p print d (sym (print_is p) ∙ h));
      lost_name_owes_release = record {
        each = λ l p lt d n. inl (name l ∙ may_name p l n);
        newest = λ l p lt d h. inl (name l ∙ h);
        dirty = λ l p lt q. absurd (rw rest.queue at q);
        hung = λ l p lt q. absurd (rw rest.queue at q);
        in_range = λ l p stage q. absurd (rw rest.queue at q);
      };
      lost_print_ordered = λ p d. record {
        each = λ print n. inl (print_is p ∙ may_print p print n);
        newest = λ print h. inl (print_is p ∙ h);
      };
    }

  -- each block's list is the content that the image reads there
  pub start_contents : (sound : Bool) (array : ℕ → List (List ℕ)) → ContentsFit lay sound w.newest array
      → ((l : ℕ) → l < lay.blocks → (c : List ℕ) → IsAmong c (array l) → Last (array l) c)
      → ContentsInvariant lay sound array w
  start_contents sound array fit alone = record {
    fresh_data_first = λ p d. record {
      name_dirty = λ l lt n y. absurd (true≢false (sym y ∙ rest.dirty _));
      name_hung = λ l lt n y. absurd (true≢false (sym y ∙ rest.hung _));
      print_dirty = λ print n y. absurd (true≢false (sym y ∙ rest.dirty _));
      print_hung = λ print n y. absurd (true≢false (sym y ∙ rest.hung _));
      settled = λ c pos y z q. rest.one _ c q;
      clean = λ y. sym (rest.cached _);
    };
    named_data_fixed = λ p d. record { named = λ l lt n. record { one = rest.one _ }; printed = λ print n. record { one = rest.one _ } };
    named_data_stands = λ p d. record {
      named = λ l lt n. record { clean = rest.dirty _; fixed = rest.hung _ };
      printed = λ print n. record { clean = rest.dirty _; fixed = rest.hung _ };
    };
    reads = λ l lt. record {
      unmapped = λ n. (fit.reads l lt).unmapped (may_name 0 l n);
      mapped = λ p d n. (fit.reads l lt).mapped p d (may_name p l n);
      cached_unmapped = λ n. alone l lt _ ((fit.reads l lt).unmapped (sym (name l) ∙ n));
      cached_mapped = λ p d n. subst (λ c. Last (array l) c) (sym (rest.cached (lay.data_page p))) (alone l lt _ ((fit.reads l lt).mapped p d (sym (name l) ∙ n)));
    };
    prints_true = λ s p d. record {
      possible = λ print n. fit.prints s p print d (may_print p print n);
      cached = λ print n. fit.prints s p print d (sym (print_is p) ∙ n) ∙ ap lay.finger (sym (rest.cached _));
    };
    first_page = record { one = rest.one 0; clean = rest.dirty 0; cached = rest.cached 0 };
    well_formed = record {
      possible = λ a c is q. ap (lay.well_formed a) (rest.one a c q) ∙ fit.well_formed a is;
      cached = λ a is. ap (lay.well_formed a) (rest.cached a) ∙ fit.well_formed a is;
    };
  }

-- with no node left, a flush leaves each block its last content alone
module _ (lay : Layout) (sound : Bool) (array after : ℕ → List (List ℕ)) (w : World) (old : ContentsInvariant lay sound array w)
    (settled : (page : ℕ) (c : List ℕ) → IsTable lay page → Possible w page c → c ≡ w.cached page)
    (clean : (page : ℕ) → w.dirty page ≡ false)
    (alone : (l : ℕ) → l < lay.blocks → (c : List ℕ) → Last (array l) c → after l ≡ c ∷ []) where
  kept_name : (p l : ℕ) → l < lay.blocks → MayName lay w p l → cached_name lay w l ≡ p
  kept_name p l lt n = ap (λ c. lay.name_in c l) (sym (settled _ n.content (inl (l, lt, refl)) n.possible)) ∙ n.names

  pub flush_contents : ContentsInvariant lay sound after w
  unfolding IsAmong
  flush_contents = record {
    fresh_data_first = old.fresh_data_first;
    named_data_fixed = old.named_data_fixed;
    named_data_stands = old.named_data_stands;
    reads = λ l lt. let was = old.reads l lt in record {
      unmapped = λ n. subst (λ xs. IsAmong lay.zero_block xs) (sym (alone l lt _ (was.cached_unmapped (kept_name 0 l lt n)))) (inl refl);
      mapped = λ p d n. subst (λ xs. IsAmong (w.newest (lay.data_page p)) xs) (sym (alone l lt _ (was.cached_mapped p d (kept_name p l lt n)))) (inl ((old.fresh_data_first p d).clean (clean _)));
      cached_unmapped = λ n. subst (λ xs. Last xs lay.zero_block) (sym (alone l lt _ (was.cached_unmapped n))) refl;
      cached_mapped = λ p d n. subst (λ xs. Last xs (w.cached (lay.data_page p))) (sym (alone l lt _ (was.cached_mapped p d n))) refl;
    };
    prints_true = old.prints_true;
    well_formed = old.well_formed;
    first_page = old.first_page;
  }
