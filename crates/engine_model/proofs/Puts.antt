-- A page that is cached with another content changes one entry.
use Rattle.std.proofs.Common.{◌≡◌, ◌≢◌, inl, inr, ◌<◌, ℕ, sym, ap, ◌∙◌, subst, List, [], ◌∷◌, Option}
use Rattle.std.proofs.lemmas.Bool.{cases_eq}
use Rattle.order_model.specs.World.{IsData, Layout, World}
use Rattle.engine_model.specs.Entries.{Apart, IsTable}
use Rattle.engine_model.specs.Frames.{EntriesKept, Off, Reach, no_reach}
use Rattle.engine_model.specs.SmallSteps.{SetsCount, SetsName, SetsPrint, put}
use Rattle.engine_model.proofs.Quiet.{count_table, map_table, print_table, put_here, put_other}

module _ (lay : Layout) (apart : Apart lay) (w : World) (c : List ℕ) where
  -- what stands on another page, and on the page that is put
  away : (page a : ℕ) → a ≢ page → (put page c w).cached a ≡ w.cached a
  away page a ne = put_other w page c a ne

  at_page : (page a : ℕ) → a ≡ page → (put page c w).cached a ≡ c
  at_page page a e = ap (put page c w).cached e ∙ put_here w page c

  data_away : (page : ℕ) → IsTable lay page → (q : ℕ) → IsData lay q → (put page c w).cached (lay.data_page q) ≡ w.cached (lay.data_page q)
  data_away page t q d = away page (lay.data_page q) (λ e. apart.table_data page q t d (sym e))

  pub puts_name : (l p : ℕ) → l < lay.blocks → SetsName lay (w.cached (lay.map_page l)) c l p
      → EntriesKept lay (record no_reach { names = l ∷ [] }) w.cached (put (lay.map_page l) c w).cached
  puts_name l p lt sets = record {
    names = λ j jt off. elim (cases_eq (lay.map_page j) (lay.map_page l)) [
      | inl e ↦ ap (λ y. lay.name_in y j) (at_page (lay.map_page l) (lay.map_page j) e) ∙ sets.other j jt off.0 e ∙ ap (λ y. lay.name_in (w.cached y) j) (sym e)
      | inr ne ↦ ap (λ y. lay.name_in y j) (away (lay.map_page l) (lay.map_page j) ne)
    ];
    counts = λ q d off. ap (λ y. lay.count_in y q) (away (lay.map_page l) (lay.count_page q) (λ e. apart.map_count l q lt d (sym e)));
    prints = λ q d off. ap (λ y. lay.print_in y q) (away (lay.map_page l) (lay.print_page q) (λ e. apart.map_print l q lt d (sym e)));
    contents = λ q d off. data_away (lay.map_page l) (map_table lay l lt) q d;
  }

  pub puts_count : (p n : ℕ) → IsData lay p → SetsCount lay (w.cached (lay.count_page p)) c p n
      → EntriesKept lay (record no_reach { counts = p ∷ [] }) w.cached (put (lay.count_page p) c w).cached
  puts_count p n is sets = record {
    names = λ j jt off. ap (λ y. lay.name_in y j) (away (lay.count_page p) (lay.map_page j) (apart.map_count j p jt is));
    counts = λ q d off. elim (cases_eq (lay.count_page q) (lay.count_page p)) [
      | inl e ↦ ap (λ y. lay.count_in y q) (at_page (lay.count_page p) (lay.count_page q) e) ∙ sets.other q d off.0 e ∙ ap (λ y. lay.count_in (w.cached y) q) (sym e)
      | inr ne ↦ ap (λ y. lay.count_in y q) (away (lay.count_page p) (lay.count_page q) ne)
    ];
    prints = λ q d off. ap (λ y. lay.print_in y q) (away (lay.count_page p) (lay.print_page q) (λ e. apart.count_print p q is d (sym e)));
    contents = λ q d off. data_away (lay.count_page p) (count_table lay p is) q d;
  }

  pub puts_print : (p : ℕ) (print : Option (List ℕ)) → IsData lay p → SetsPrint lay (w.cached (lay.print_page p)) c p print
      → EntriesKept lay (record no_reach { prints = p ∷ [] }) w.cached (put (lay.print_page p) c w).cached
  puts_print p print is sets = record {
    names = λ j jt off. ap (λ y. lay.name_in y j) (away (lay.print_page p) (lay.map_page j) (apart.map_print j p jt is));
    counts = λ q d off. ap (λ y. lay.count_in y q) (away (lay.print_page p) (lay.count_page q) (apart.count_print q p d is));
    prints = λ q d off. elim (cases_eq (lay.print_page q) (lay.print_page p)) [
      | inl e ↦ ap (λ y. lay.print_in y q) (at_page (lay.print_page p) (lay.print_page q) e) ∙ sets.other q d off.0 e ∙ ap (λ y. lay.print_in (w.cached y) q) (sym e)
      | inr ne ↦ ap (λ y. lay.print_in y q) (away (lay.print_page p) (lay.print_page q) ne)
    ];
    contents = λ q d off. data_away (lay.print_page p) (print_table lay p is) q d;
  }

  pub puts_content : (p : ℕ) → IsData lay p → EntriesKept lay (record no_reach { contents = p ∷ [] }) w.cached (put (lay.data_page p) c w).cached
  puts_content p is = record {
    names = λ j jt off. ap (λ y. lay.name_in y j) (away (lay.data_page p) (lay.map_page j) (apart.table_data (lay.map_page j) p (map_table lay j jt) is));
    counts = λ q d off. ap (λ y. lay.count_in y q) (away (lay.data_page p) (lay.count_page q) (apart.table_data (lay.count_page q) p (count_table lay q d) is));
    prints = λ q d off. ap (λ y. lay.print_in y q) (away (lay.data_page p) (lay.print_page q) (apart.table_data (lay.print_page q) p (print_table lay q d) is));
    contents = λ q d off. away (lay.data_page p) (lay.data_page q) (apart.data_data q p d is off.0);
  }

-- a content that changes one entry does so over what edits of other entries left
pub sets_name_on : (lay : Layout) (x : Reach) (old new : ℕ → List ℕ) → EntriesKept lay x old new → x.names ≡ [] → (c : List ℕ) (l p : ℕ) → SetsName lay (old (lay.map_page l)) c l p
    → SetsName lay (new (lay.map_page l)) c l p
sets_name_on lay x old new f none c l p s = record {
  here = s.here;
  other = λ j lt ne same. s.other j lt ne same
      ∙ sym (ap (λ a. lay.name_in (new a) j) (sym same) ∙ f.names j lt (subst (λ ls. Off j ls) (sym none) tt) ∙ ap (λ a. lay.name_in (old a) j) same);
  formed = s.formed;
}

pub sets_count_on : (lay : Layout) (x : Reach) (old new : ℕ → List ℕ) → EntriesKept lay x old new → x.counts ≡ [] → (c : List ℕ) (p n : ℕ) → SetsCount lay (old (lay.count_page p)) c p n
    → SetsCount lay (new (lay.count_page p)) c p n
sets_count_on lay x old new f none c p n s = record {
  here = s.here;
  other = λ q d ne same. s.other q d ne same
      ∙ sym (ap (λ a. lay.count_in (new a) q) (sym same) ∙ f.counts q d (subst (λ qs. Off q qs) (sym none) tt) ∙ ap (λ a. lay.count_in (old a) q) same);
  formed = s.formed;
}

pub sets_print_on : (lay : Layout) (x : Reach) (old new : ℕ → List ℕ) → EntriesKept lay x old new → x.prints ≡ [] → (c : List ℕ) (p : ℕ) (print : Option (List ℕ))
    → SetsPrint lay (old (lay.print_page p)) c p print → SetsPrint lay (new (lay.print_page p)) c p print
sets_print_on lay x old new f none c p print s = record {
  here = s.here;
  other = λ q d ne same. s.other q d ne same
      ∙ sym (ap (λ a. lay.print_in (new a) q) (sym same) ∙ f.prints q d (subst (λ qs. Off q qs) (sym none) tt) ∙ ap (λ a. lay.print_in (old a) q) same);
  formed = s.formed;
}
