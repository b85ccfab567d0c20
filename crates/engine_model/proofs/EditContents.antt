-- Edits keep the contents.
use Rattle.std.proofs.Common.{◌≡◌, inl, inr, ◌<◌, ℕ, Bool, true, false, arith, refl, sym, ap, ◌∙◌, subst, List, Some, true≢false, eq-eqb, eqb-true, eqb}
use Rattle.std.proofs.lemmas.Bool.{false_from_ne_true}
use Rattle.order_model.specs.World.{Layout, World, IsData}
use Rattle.engine_model.specs.Counts.{CountsInvariant}
use Rattle.engine_model.specs.Entries.{MayName, MayPrint, HasEdge, cached_name, cached_print}
use Rattle.engine_model.specs.Contents.{ContentsInvariant, DataOrdered, NamedFixed, NamedStands, Reads}
use Rattle.engine_model.specs.Known.{Free}
use Rattle.engine_model.specs.Edits.{ContentEdits}
use Rattle.engine_model.proofs.Named.{Kept, named_kept, named_parts, printed_kept}
use Rattle.engine_model.proofs.Counting.{count_has}
use Rattle.engine_model.proofs.Lasts.{has_push, last_push}
use Rattle.engine_model.proofs.WriteContents.{name_counted}

-- a free page is named nowhere
module _ (lay : Layout) (top : ℕ) (w : World) (first : CountsInvariant lay top w) (p : ℕ) (d : IsData lay p) (f : Free lay w p) where
  pub free_no_name : (l : ℕ) → l < lay.blocks → MayName lay w p l → ⊥
  free_no_name l lt n =
      let most = (first.counts_cover_names p d).each (w.newest (lay.count_page p)) (inl refl) (λ k. eqb k l)
      (λ k kt e. inl (subst (λ x. MayName lay w p x) (sym (eqb-true k l e)) n)) in
      let none = f.on_device (w.newest (lay.count_page p)) (inl refl) in
      let has = count_has lay.blocks l (λ k. eqb k l) lt (eq-eqb l l refl) in
      omega arith

  pub free_no_print : (print : List ℕ) → MayPrint lay w p print → ⊥
  free_no_print print n =
      let pos = (first.counts_cover_prints p d).each (w.newest (lay.count_page p)) print (inl refl) (inl n) in
      let none = f.on_device (w.newest (lay.count_page p)) (inl refl) in
      omega arith

  pub free_not_cached : (l : ℕ) → l < lay.blocks → cached_name lay w l ≡ p → ⊥
  free_not_cached l lt n = let pos = name_counted lay top w first l p lt d n in let none = f.cached in omega arith

  pub free_no_cached_print : (print : List ℕ) → cached_print lay w p ≡ Some print → ⊥
  free_no_cached_print print n = let pos = first.print_needs_count p print d n in let none = f.cached in omega arith

module _ (lay : Layout) (top : ℕ) (sound : Bool) (before after : ℕ → List (List ℕ)) (w v : World)
    (first : CountsInvariant lay top w) (old : ContentsInvariant lay sound before w) (e : ContentEdits lay sound before after w v) where
  may_name : (p l : ℕ) → MayName lay v p l → MayName lay w p l
  may_name p l n = record { content = n.content; possible = e.rest.possible _ n.content n.possible; names = n.names }

  may_print : (p : ℕ) (print : List ℕ) → MayPrint lay v p print → MayPrint lay w p print
  may_print p print n = record { content = n.content; possible = e.rest.possible _ n.content n.possible; has = n.has }

  not_dirty : (a : ℕ) → v.dirty a ≡ false → w.dirty a ≡ false
  not_dirty a h = false_from_ne_true _ (λ d. true≢false (sym (e.rest.dirty_kept a d) ∙ h))

  edge_kept : (a b : ℕ) → HasEdge w a b → HasEdge v a b
  edge_kept a b (inl l) = inl (e.rest.live_kept a b l)
  edge_kept a b (inr r) = inr (e.rest.barred_kept a b r)

  kept : (p : ℕ) → IsData lay p → (Free lay w p → ⊥) → Kept lay w p → Kept lay v p
  kept p d taken s = (
    record { one = λ c q. s.0.one c (e.rest.possible _ c q) ∙ sym (e.rest.newest _) },
    record {
      fixed = e.rest.hung _ ∙ s.1.fixed;
      clean = false_from_ne_true _ (λ y. elim (e.dirty_fresh p d y) [ inl was ↦ true≢false (sym was ∙ s.1.clean) | inr f ↦ taken f ]);
    },
  )

  named : (p : ℕ) → IsData lay p → NamedFixed lay v p × NamedStands lay v p
  named p d = named_parts lay v p
      (λ l lt n. let may = may_name p l n in kept p d (λ f. free_no_name lay top w first p d f l lt may) (named_kept lay sound before w old p d l lt may))
      (λ print n. let may = may_print p print n in kept p d (λ f. free_no_print lay top w first p d f print may) (printed_kept lay sound before w old p d print may))

  -- a page that is not free has its content
  same_content : (p : ℕ) → IsData lay p → (Free lay w p → ⊥) → v.cached (lay.data_page p) ≡ w.cached (lay.data_page p)
  same_content p d taken = elim (e.cached p d) [ inl same ↦ same | inr f ↦ absurd (taken f.0) ]

  was_dirty : (p : ℕ) → IsData lay p → (Free lay w p → ⊥) → v.dirty (lay.data_page p) ≡ true → w.dirty (lay.data_page p) ≡ true
  was_dirty p d taken y = elim (e.dirty_fresh p d y) [ inl was ↦ was | inr f ↦ absurd (taken f) ]

  fresh_data_first : (p : ℕ) → IsData lay p → DataOrdered lay v p
  fresh_data_first p d = let was = old.fresh_data_first p d in record {
    name_dirty = λ l lt n y. elim (e.name_gained l p lt d n) [
      | inr o ↦ o.dirty y
      | inl n ↦ e.rest.live_kept _ _ (was.name_dirty l lt n (was_dirty p d (λ f. free_not_cached lay top w first p d f l lt n) y))
    ];
    name_hung = λ l lt n y. elim (e.name_gained l p lt d n) [
      | inr o ↦ o.hung y
      | inl n ↦ edge_kept _ _ (was.name_hung l lt n (sym (e.rest.hung _) ∙ y))
    ];
    print_dirty = λ print n y. elim (e.print_gained p print d n) [
      | inr o ↦ o.0.dirty y
      | inl n ↦ e.rest.live_kept _ _ (was.print_dirty print n (was_dirty p d (λ f. free_no_cached_print lay top w first p d f print n) y))
    ];
    print_hung = λ print n y. elim (e.print_gained p print d n) [
      | inr o ↦ o.0.hung y
      | inl n ↦ edge_kept _ _ (was.print_hung print n (sym (e.rest.hung _) ∙ y))
    ];
    settled = λ c pos y z q. elim (e.count_risen p d pos) [
      | inl pos ↦ was.settled c pos (not_dirty _ y) (sym (e.rest.hung _) ∙ z) (e.rest.possible _ c q) ∙ sym (e.rest.newest _)
      | inr dirty ↦ absurd (true≢false (sym dirty ∙ y))
    ];
    clean = λ y. e.rest.newest _ ∙ was.clean (not_dirty _ y) ∙ elim (e.cached p d) [ inl same ↦ sym same | inr f ↦ absurd (true≢false (sym f.1 ∙ y)) ];
  }

  reads : (l : ℕ) → l < lay.blocks → Reads lay v after l
  reads l lt = let was = old.reads l lt in elim (e.blocks l lt) [
    | inl same ↦ record {
      unmapped = λ n. rw same.1 (was.unmapped (may_name 0 l n));
      mapped = λ p d n. rw (same.1, e.rest.newest (lay.data_page p)) (was.mapped p d (may_name p l n));
      cached_unmapped = λ n. rw same.1 (was.cached_unmapped (sym same.0 ∙ n));
      cached_mapped = λ p d n. let n = sym same.0 ∙ n in
          rw (same.1, same_content p d (λ f. free_not_cached lay top w first p d f l lt n)) (was.cached_mapped p d n);
    }
    | inr held ↦ elim held.1 [
      | inl push ↦ record {
        unmapped = λ n. rw push (has_push _ _ held.0 (was.unmapped (may_name 0 l n)));
        mapped = λ p d n. rw (push, e.rest.newest (lay.data_page p)) (has_push _ _ held.0 (was.mapped p d (may_name p l n)));
        cached_unmapped = λ n. rw (push, ← held.2 n) (last_push (before l) held.0);
        cached_mapped = λ p d n. rw (push, ← held.3 p d n) (last_push (before l) held.0);
      }
      | inr same ↦ record {
        unmapped = λ n. rw same.0 (was.unmapped (may_name 0 l n));
        mapped = λ p d n. rw (same.0, e.rest.newest (lay.data_page p)) (was.mapped p d (may_name p l n));
        cached_unmapped = λ n. rw (same.0, ← held.2 n) same.1;
        cached_mapped = λ p d n. rw (same.0, ← held.3 p d n) same.1;
      }
    ]
  ]

  pub edit_contents : ContentsInvariant lay sound after v
  edit_contents = record {
    fresh_data_first = fresh_data_first;
    named_data_fixed = λ p d. (named p d).0;
    named_data_stands = λ p d. (named p d).1;
    reads = reads;
    prints_true = λ s p d. record {
      possible = λ print n. (old.prints_true s p d).possible print (may_print p print n) ∙ ap lay.finger (sym (e.rest.newest _));
      cached = λ print n. elim (e.print_gained p print d n) [
        | inr o ↦ o.1
        | inl n ↦ (old.prints_true s p d).cached print n ∙ ap lay.finger (sym (same_content p d (λ f. free_no_cached_print lay top w first p d f print n)))
      ];
    };
    first_page = record { one = λ c q. old.first_page.one c (e.rest.possible 0 c q) ∙ sym (e.rest.newest 0); clean = e.first_page.0; cached = e.first_page.1 ∙ old.first_page.cached ∙ sym (e.rest.newest 0) };
    well_formed = record {
      possible = λ page c is q. old.well_formed.possible page c is (e.rest.possible page c q);
      cached = e.well_formed;
    };
  }
