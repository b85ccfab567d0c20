-- A barrier keeps the contents.
use Rattle.std.proofs.Common.{◌≡◌, inl, ℕ, Bool, sym, ap, ◌∙◌, subst, List, true≢false}
use Rattle.order_model.specs.World.{Layout, World, IsData}
use Rattle.order_model.specs.Contents.{IsAmong}
use Rattle.engine_model.specs.Entries.{MayName, MayPrint, cached_name, cached_print}
use Rattle.engine_model.specs.Contents.{ContentsInvariant, DataOrdered, NamedFixed, NamedStands, Last}
use Rattle.engine_model.proofs.Named.{Kept, named_kept, named_parts, printed_kept}
use Rattle.engine_model.proofs.Views.{name_same, print_same}
use Rattle.engine_model.specs.DeviceSteps.{Barrier}

module _ (lay : Layout) (sound : Bool) (array : ℕ → List (List ℕ)) (w v : World) (old : ContentsInvariant lay sound array w) (b : Barrier w v) where
  name : (l : ℕ) → cached_name lay v l ≡ cached_name lay w l
  name = name_same lay w v b.cached

  print_is : (p : ℕ) → cached_print lay v p ≡ cached_print lay w p
  print_is = print_same lay w v b.cached

  may_name : (p l : ℕ) → MayName lay v p l → MayName lay w p l
  may_name p l n = record { content = n.content; possible = inl (b.possible _ n.content n.possible); names = n.names }

  may_print : (p : ℕ) (print : List ℕ) → MayPrint lay v p print → MayPrint lay w p print
  may_print p print n = record { content = n.content; possible = inl (b.possible _ n.content n.possible); has = n.has }

  kept : (p : ℕ) → Kept lay w p → Kept lay v p
  kept p s = (record { one = λ c q. b.possible _ c q ∙ sym (b.newest _) }, record { clean = b.dirty _ ∙ s.1.clean; fixed = b.hung _ })

  named : (p : ℕ) → IsData lay p → NamedFixed lay v p × NamedStands lay v p
  named p d = named_parts lay v p (λ l lt n. kept p (named_kept lay sound array w old p d l lt (may_name p l n))) (λ print n. kept p (printed_kept lay sound array w old p d print (may_print p print n)))

  fresh_data_first : (p : ℕ) → IsData lay p → DataOrdered lay v p
  fresh_data_first p d = record {
    name_dirty = λ l lt n y. b.live _ _ ∙ (old.fresh_data_first p d).name_dirty l lt (sym (name l) ∙ n) (sym (b.dirty _) ∙ y);
    name_hung = λ l lt n y. absurd (true≢false (sym y ∙ b.hung _));
    print_dirty = λ print n y. b.live _ _ ∙ (old.fresh_data_first p d).print_dirty print (sym (print_is p) ∙ n) (sym (b.dirty _) ∙ y);
    print_hung = λ print n y. absurd (true≢false (sym y ∙ b.hung _));
    settled = λ c pos y z q. b.possible _ c q ∙ sym (b.newest _);
    clean = λ y. b.newest _ ∙ (old.fresh_data_first p d).clean (sym (b.dirty _) ∙ y) ∙ sym (b.cached _);
  }

  pub barrier_contents : ContentsInvariant lay sound array v
  barrier_contents = record {
    fresh_data_first = fresh_data_first;
    named_data_fixed = λ p d. (named p d).0;
    named_data_stands = λ p d. (named p d).1;
    reads = λ l lt. record {
      unmapped = λ n. (old.reads l lt).unmapped (may_name 0 l n);
      mapped = λ p d n. subst (λ c. IsAmong c (array l)) (sym (b.newest (lay.data_page p))) ((old.reads l lt).mapped p d (may_name p l n));
      cached_unmapped = λ n. (old.reads l lt).cached_unmapped (sym (name l) ∙ n);
      cached_mapped = λ p d n. subst (λ c. Last (array l) c) (sym (b.cached (lay.data_page p))) ((old.reads l lt).cached_mapped p d (sym (name l) ∙ n));
    };
    prints_true = λ s p d. record {
      possible = λ print n. (old.prints_true s p d).possible print (may_print p print n) ∙ ap lay.finger (sym (b.newest _));
      cached = λ print n. (old.prints_true s p d).cached print (sym (print_is p) ∙ n) ∙ ap lay.finger (sym (b.cached _));
    };
    first_page = record { one = λ c q. b.possible 0 c q ∙ sym (b.newest 0); clean = b.dirty 0 ∙ old.first_page.clean; cached = b.cached 0 ∙ old.first_page.cached ∙ sym (b.newest 0) };
    well_formed = record {
      possible = λ page c is q. old.well_formed.possible page c is (inl (b.possible page c q));
      cached = λ page is. ap (lay.well_formed page) (b.cached page) ∙ old.well_formed.cached page is;
    };
  }
