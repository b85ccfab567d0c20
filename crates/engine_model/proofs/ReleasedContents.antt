-- An applied release and a discard keep the contents.
use Rattle.std.proofs.Common.{◌≡◌, ◌≢◌, ◌⊎◌, inl, inr, ◌+◌, ◌<◌, ℕ, Bool, arith, refl, sym, ap, ◌∙◌, subst, List, [], ◌∷◌, ◌++◌, true≢false, eqb, eqb-true}
use Rattle.std.proofs.lemmas.Bool.{cases_eq}
use Rattle.order_model.specs.World.{Layout, World, Release, IsData}
use Rattle.engine_model.specs.Counts.{CountsInvariant}
use Rattle.engine_model.specs.Entries.{cached_name, cached_count, cached_print, cached_names}
use Rattle.engine_model.specs.Contents.{ContentsInvariant, Last}
use Rattle.engine_model.specs.Known.{Known, Tells}
use Rattle.engine_model.specs.Releases.{Applied}
use Rattle.engine_model.specs.Corrections.{Corrected}
use Rattle.engine_model.specs.Commands.{Discarded, DataKept, Gains}
use Rattle.engine_model.specs.Edits.{Ordered}
use Rattle.engine_model.proofs.Counting.{count_some}
use Rattle.engine_model.proofs.EditContents.{edit_contents}
use Rattle.engine_model.proofs.Views.{none_some, some_is}
use Rattle.engine_model.proofs.Applied as applied

pub applied_contents : (lay : Layout) (known : Known) (top : ℕ) (sound : Bool) (array : ℕ → List (List ℕ)) (w v : World) (r : Release) (before after : List Release)
    → Tells lay w known → Applied lay known w v r before after → DataKept lay w v → CountsInvariant lay top w → ContentsInvariant lay sound array w → ContentsInvariant lay sound array v
applied_contents lay known top sound array w v r before after tells a k first old = edit_contents lay top sound array array w v first old (record {
  rest = a.rest;
  dirty_fresh = λ q d y. inl (sym (k.pages q d).1 ∙ y);
  cached = λ q d. inl (k.pages q d).0;
  name_gained = λ l q lt d h. inl (sym (a.names l lt) ∙ h);
  print_gained = λ q print d h. inl (applied.print_gained lay known top w v r before after first tells a q print d h).0;
  count_risen = λ q d pos. inl (elim (cases_eq q r.page) [
    | inl e ↦ let less : cached_count lay v q + 1 ≡ cached_count lay w q = subst (λ x. cached_count lay v x + 1 ≡ cached_count lay w x) (sym e) a.count_here in omega arith
    | inr ne ↦ let same = a.count_other q d ne in omega arith
  ]);
  blocks = λ l lt. inl (a.names l lt, refl);
  well_formed = k.well_formed;
  first_page = k.first_page;
})

-- l drops its name, and the list gains a block of zeros or ends in one
module _ (lay : Layout) (known : Known) (top : ℕ) (sound : Bool) (before after : ℕ → List (List ℕ)) (w v : World) (l o : ℕ)
    (x : Discarded lay known w v l o) (k : DataKept lay w v)
    (here : (after l ≡ before l ++ lay.zero_block ∷ []) ⊎ ((after l ≡ before l) × Last (before l) lay.zero_block)) (others : (k : ℕ) → k ≢ l → after k ≡ before k) where
  emptied_contents : CountsInvariant lay top w → ContentsInvariant lay sound before w → ContentsInvariant lay sound after v
  emptied_contents first old = edit_contents lay top sound before after w v first old (record {
    rest = x.rest;
    dirty_fresh = λ q d y. inl (sym (k.pages q d).1 ∙ y);
    cached = λ q d. inl (k.pages q d).0;
    name_gained = λ b q lt d h. elim (cases_eq b l) [
      | inl e ↦ absurd (omega (arith, h, ap (cached_name lay v) e, x.name, d))
      | inr ne ↦ inl (sym (x.released.other_names b lt ne) ∙ h)
    ];
    print_gained = λ q print d h. inl (sym (x.prints q d) ∙ h);
    count_risen = λ q d pos. inl (subst (λ n. 0 < n) (x.counts q d) pos);
    blocks = λ b lt. elim (cases_eq b l) [
      | inr ne ↦ inl (x.released.other_names b lt ne, others b ne)
      | inl e ↦ inr (
        lay.zero_block,
        subst (λ z. (after z ≡ before z ++ lay.zero_block ∷ []) ⊎ ((after z ≡ before z) × Last (before z) lay.zero_block)) (sym e) here,
        (λ h. refl),
        (λ q d h. absurd (omega (arith, h, ap (cached_name lay v) e, x.name, d))),
      )
    ];
    well_formed = k.well_formed;
    first_page = k.first_page;
  })

pub discard_contents : (lay : Layout) (known : Known) (top : ℕ) (sound : Bool) (before after : ℕ → List (List ℕ)) (w v : World) (l o : ℕ)
    → Discarded lay known w v l o → DataKept lay w v → Gains before after l lay.zero_block
    → CountsInvariant lay top w → ContentsInvariant lay sound before w → ContentsInvariant lay sound after v
discard_contents lay known top sound before after w v l o x k gain first old = emptied_contents lay known top sound before after w v l o x k (inl gain.here) gain.other first old

-- where the page held zeros, the list stays
pub fold_zero_contents : (lay : Layout) (known : Known) (top : ℕ) (sound : Bool) (array : ℕ → List (List ℕ)) (w v : World) (l o : ℕ)
    → IsData lay o → w.cached (lay.data_page o) ≡ lay.zero_block → Discarded lay known w v l o → DataKept lay w v
    → CountsInvariant lay top w → ContentsInvariant lay sound array w → ContentsInvariant lay sound array v
fold_zero_contents lay known top sound array w v l o d zeros x k first old = emptied_contents lay known top sound array array w v l o x k
    (inr (refl, subst (λ c. Last (array l) c) zeros ((old.reads l x.released.in_range).cached_mapped o d x.released.was))) (λ b ne. refl) first old

-- a page with a name is settled where no map page is a node
module _ (lay : Layout) (top : ℕ) (sound : Bool) (array : ℕ → List (List ℕ)) (w v : World) (p : ℕ) (x : Corrected lay w v p) (k : DataKept lay w v)
    (first : CountsInvariant lay top w) (old : ContentsInvariant lay sound array w) where
  named_settled : 0 < cached_names lay w p → Ordered v (lay.data_page p) (lay.print_page p)
  named_settled pos =
      let some = count_some lay.blocks (λ l. eqb (cached_name lay w l) p) pos in
      let name = eqb-true _ p some.2 in
      let node = (x.no_map_node some.0 some.1).0 in
      let was = old.fresh_data_first p x.is_data in
      record {
        dirty = λ y. absurd (true≢false (sym (first.marks_and_edges.live_after _ _ (was.name_dirty some.0 some.1 name (sym (k.pages p x.is_data).1 ∙ y))) ∙ node));
        hung = λ y. absurd (elim (was.name_hung some.0 some.1 name (sym (x.rest.hung _) ∙ y)) [
          | inl l ↦ true≢false (sym (first.marks_and_edges.live_after _ _ l) ∙ node)
          | inr r ↦ true≢false (sym (first.marks_and_edges.barred_after _ _ r) ∙ node)
        ]);
      }

  pub correct_contents : ContentsInvariant lay sound array v
  correct_contents = edit_contents lay top sound array array w v first old (record {
    rest = x.rest;
    dirty_fresh = λ q d y. inl (sym (k.pages q d).1 ∙ y);
    cached = λ q d. inl (k.pages q d).0;
    name_gained = λ l q lt d h. inl (sym (x.names l lt) ∙ h);
    print_gained = λ q print d h. elim (cases_eq q p) [
      | inr ne ↦ inl (sym (x.print_other q d ne) ∙ h)
      | inl e ↦ let h = ap (cached_print lay v) (sym e) ∙ h in elim x.print_here [
        | inl kept ↦ inl (ap (cached_print lay w) e ∙ sym kept.2 ∙ h)
        | inr more ↦ elim more [
          | inl gone ↦ absurd (none_some print (sym gone.1 ∙ h))
          | inr made ↦ inr (subst (λ y. Ordered v (lay.data_page y) (lay.print_page y) × (print ≡ lay.finger (v.cached (lay.data_page y)))) (sym e)
              (named_settled made.0, some_is print _ (sym h ∙ made.2)))
        ]
      ]
    ];
    count_risen = λ q d pos. inl (elim (cases_eq q p) [
      | inr ne ↦ subst (λ n. 0 < n) (x.count_other q d ne) pos
      | inl e ↦
          let few = (first.count_balance q d).enough in
          let now : cached_count lay v q ≡ cached_names lay w q = subst (λ y. cached_count lay v y ≡ cached_names lay w y) (sym e) x.count_here in
          omega arith
    ]);
    blocks = λ l lt. inl (x.names l lt, refl);
    well_formed = k.well_formed;
    first_page = k.first_page;
  })

-- a write of what the block holds already, and a discard of one with no name, change nothing but its list
module _ (lay : Layout) (top : ℕ) (sound : Bool) (before after : ℕ → List (List ℕ)) (w : World) (l : ℕ) (content : List ℕ) (gain : Gains before after l content)
    (unmapped : cached_name lay w l ≡ 0 → content ≡ lay.zero_block) (mapped : (p : ℕ) → IsData lay p → cached_name lay w l ≡ p → content ≡ w.cached (lay.data_page p)) where
  listed_contents : CountsInvariant lay top w → ContentsInvariant lay sound before w → ContentsInvariant lay sound after w
  listed_contents first old = edit_contents lay top sound before after w w first old (record {
    rest = record {
      newest = λ page. refl;
      possible = λ page c q. q;
      cached_clean = λ page t d. refl;
      hung = λ a. refl;
      dirty_kept = λ a h. h;
      live_kept = λ a b h. h;
      barred_kept = λ a b h. h;
      live_ends = λ a b h. inl h;
      barred_ends = λ a b h. inl h;
    };
    dirty_fresh = λ q d y. inl y;
    cached = λ q d. inl refl;
    name_gained = λ k q lt d h. inl h;
    print_gained = λ q print d h. inl h;
    count_risen = λ q d pos. inl pos;
    blocks = λ k lt. elim (cases_eq k l) [
      | inr ne ↦ inl (refl, gain.other k ne)
      | inl e ↦ inr (
        content,
        inl (ap after e ∙ gain.here ∙ ap (λ z. before z ++ content ∷ []) (sym e)),
        (λ h. unmapped (ap (cached_name lay w) (sym e) ∙ h)),
        (λ q d h. mapped q d (ap (cached_name lay w) (sym e) ∙ h)),
      )
    ];
    well_formed = old.well_formed.cached;
    first_page = (old.first_page.clean, refl);
  })

pub again_contents : (lay : Layout) (top : ℕ) (sound : Bool) (before after : ℕ → List (List ℕ)) (w : World) (l p : ℕ) (content : List ℕ)
    → IsData lay p → cached_name lay w l ≡ p → w.cached (lay.data_page p) ≡ content → Gains before after l content
    → CountsInvariant lay top w → ContentsInvariant lay sound before w → ContentsInvariant lay sound after w
again_contents lay top sound before after w l p content is n holds gain = listed_contents lay top sound before after w l content gain
    (λ h. absurd (omega (arith, is, n, h))) (λ q d h. sym holds ∙ ap (λ z. w.cached (lay.data_page z)) (sym n ∙ h))

pub again_zero_contents : (lay : Layout) (top : ℕ) (sound : Bool) (before after : ℕ → List (List ℕ)) (w : World) (l : ℕ)
    → cached_name lay w l ≡ 0 → Gains before after l lay.zero_block
    → CountsInvariant lay top w → ContentsInvariant lay sound before w → ContentsInvariant lay sound after w
again_zero_contents lay top sound before after w l n gain = listed_contents lay top sound before after w l lay.zero_block gain
    (λ h. refl) (λ q d h. absurd (omega (arith, n, h, d)))
