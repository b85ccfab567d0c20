-- A scan's change of one data page keeps the counts.
use Rattle.std.proofs.Common.{◌≡◌, ◌⊎◌, inl, inr, ◌+◌, ◌<◌, ◌≤◌, ℕ, true, eqb, arith, refl, sym, ap, ◌∙◌, subst, List, Some, eq-eqb, eqb-true, true≢false}
use Rattle.std.proofs.lemmas.Bool.{cases_eq, false_from_ne_true}
use Rattle.order_model.specs.World.{Layout, World, Possible, queued, IsData}
use Rattle.engine_model.specs.Counts.{CountsInvariant, Covered}
use Rattle.engine_model.specs.Entries.{MayPrint, NoEdge, cached_name, cached_count, cached_print, cached_names, Apart}
use Rattle.engine_model.specs.Corrections.{Corrected}
use Rattle.engine_model.proofs.NewEdges.{kinds_kept, acyclic_kept}
use Rattle.engine_model.proofs.Graphs.{way_ends}
use Rattle.order_model.specs.Paths.{Closes}
use Rattle.engine_model.proofs.Counting.{count_has, count_some}
use Rattle.engine_model.proofs.Views.{names_by, none_some}
use Rattle.engine_model.proofs.Edits.{edits_keep}

-- a page with a name in the cache that waits for no count has a count above 0 wherever a crash may leave it
pub sure : (lay : Layout) (top : ℕ) (w : World) → CountsInvariant lay top w → (p l : ℕ) → IsData lay p → l < lay.blocks → Covered lay w p l
    → (c : List ℕ) → Possible w (lay.count_page p) c → 0 < lay.count_in c p
sure lay top w old p l d lt is c q =
    let most = (old.counts_cover_names p d).each c q (λ k. eqb k l) (λ k kt e. subst (λ x. Covered lay w p x) (sym (eqb-true k l e)) is) in
    let has = count_has lay.blocks l (λ k. eqb k l) lt (eq-eqb l l refl) in
    omega arith

module _ (lay : Layout) (top : ℕ) (w v : World) (p : ℕ) (apart : Apart lay) (old : CountsInvariant lay top w) (x : Corrected lay w v p) where
  names_kept : (q : ℕ) → cached_names lay v q ≡ cached_names lay w q
  names_kept = names_by lay w v x.names

  here : (q : ℕ) → q ≡ p → cached_count lay v q ≡ cached_names lay w q
  here q e = subst (λ y. cached_count lay v y ≡ cached_names lay w y) (sym e) x.count_here

  enough : (q : ℕ) → IsData lay q → cached_names lay v q + queued v.queue q ≤ cached_count lay v q
  enough q d =
      let names = names_kept q in
      let queue : queued v.queue q ≡ queued w.queue q = ap (λ rs. queued rs q) x.queue in
      elim (cases_eq q p) [
        | inl e ↦ let count = here q e in let none : queued w.queue q ≡ 0 = ap (λ rs. queued rs q) x.none_queued in omega arith
        | inr ne ↦ let count = x.count_other q d ne in let was = (old.count_balance q d).enough in omega arith
      ]

  in_range : (q : ℕ) → IsData lay q → cached_count lay v q ≤ top
  in_range q d = let was = old.count_balance q d in elim (cases_eq q p) [
    | inl e ↦ let count = here q e in omega arith
    | inr ne ↦ let count = x.count_other q d ne in omega arith
  ]

  -- no edge leads to a map page
  no_map_edge : (a l : ℕ) → l < lay.blocks → NoEdge w a (lay.map_page l)
  no_map_edge a l lt = let node = x.no_map_node l lt in (
    false_from_ne_true _ (λ h. true≢false (sym (old.marks_and_edges.live_after a _ h) ∙ node.0)),
    false_from_ne_true _ (λ h. true≢false (sym (old.marks_and_edges.barred_after a _ h) ∙ node.0)),
  )

  made_sure : 0 < cached_names lay w p → (c : List ℕ) → Possible w (lay.count_page p) c → 0 < lay.count_in c p
  made_sure pos =
      let some = count_some lay.blocks (λ l. eqb (cached_name lay w l) p) pos in
      sure lay top w old p some.0 x.is_data some.1 (inr (eqb-true _ p some.2, no_map_edge (lay.count_page p) some.0 some.1))

  print_gained : (q : ℕ) (print : List ℕ) → IsData lay q → cached_print lay v q ≡ Some print
      → (cached_print lay w q ≡ Some print) ⊎ ((c : List ℕ) → Possible w (lay.count_page q) c → 0 < lay.count_in c q)
  print_gained q print d h = elim (cases_eq q p) [
    | inr ne ↦ inl (sym (x.print_other q d ne) ∙ h)
    | inl e ↦ elim x.print_here [
      | inl kept ↦ inl (ap (cached_print lay w) e ∙ sym kept.2 ∙ ap (cached_print lay v) (sym e) ∙ h)
      | inr more ↦ elim more [
        | inl gone ↦ absurd (none_some print (sym gone.1 ∙ ap (cached_print lay v) (sym e) ∙ h))
        | inr made ↦ inr (subst (λ y. (c : List ℕ) → Possible w (lay.count_page y) c → 0 < lay.count_in c y) (sym e) (made_sure made.0))
      ]
    ]
  ]

  print_counted : (q : ℕ) (print : List ℕ) → IsData lay q → cached_print lay v q ≡ Some print → 0 < cached_count lay v q
  print_counted q print d h = elim (cases_eq q p) [
    | inr ne ↦ rw (x.count_other q d ne) (old.print_needs_count q print d (sym (x.print_other q d ne) ∙ h))
    | inl e ↦ rw (here q e, e) (elim x.print_here [
      | inl kept ↦ kept.0
      | inr more ↦ elim more [
        | inl gone ↦ absurd (none_some print (sym gone.1 ∙ ap (cached_print lay v) (sym e) ∙ h))
        | inr made ↦ made.0
      ]
    ])
  ]

  print_lost : (q : ℕ) (print : List ℕ) → IsData lay q → MayPrint lay w q print → cached_print lay w q ≡ Some print
      → (cached_print lay v q ≡ Some print) ⊎ (v.live (lay.print_page q) (lay.count_page q) ≡ true)
  print_lost q print d may h = elim (cases_eq q p) [
    | inr ne ↦ inl (x.print_other q d ne ∙ h)
    | inl e ↦ let h = ap (cached_print lay w) (sym e) ∙ h in elim x.print_here [
      | inl kept ↦ inl (ap (cached_print lay v) e ∙ kept.2 ∙ h)
      | inr more ↦ elim more [
        | inl gone ↦ inr (subst (λ y. v.live (lay.print_page y) (lay.count_page y) ≡ true) (sym e) (gone.2 print h))
        | inr made ↦ absurd (none_some print (sym made.1 ∙ h))
      ]
    ]
  ]

  -- a way to the print page would end in an edge to it
  closes_none : (a b c d : ℕ) → (a ≡ lay.print_page p) × (b ≡ lay.count_page p) → (c ≡ lay.print_page p) × (d ≡ lay.count_page p) → Closes w.live a d → ⊥
  closes_none a b c d n m (inl same) = apart.count_print p p x.is_data x.is_data (sym m.1 ∙ sym same ∙ n.0)
  closes_none a b c d n m (inr way) = let q = way_ends way in
      true≢false (sym q.1 ∙ ap (λ z. w.live q.0 z) n.0 ∙ (x.no_print_edge q.0 p x.is_data).0)

  pub correct_keeps : CountsInvariant lay top v
  correct_keeps = edits_keep lay top w v old (record {
    rest = x.rest;
    kinds = kinds_kept lay w v _ _ x.edges (λ a b n. inr (inr (p, x.is_data, n.0), (p, x.is_data, n.1))) (λ a b n. absurd n);
    acyclic = acyclic_kept lay w v _ _ x.edges old.marks_and_edges.acyclic closes_none;
    queue_in_range = λ l q stage z. old.lost_name_owes_release.in_range l q stage (rw x.queue at z);
    name_gained = λ l q lt d h. inl (sym (x.names l lt) ∙ h);
    name_lost = λ l q lt d may h. inl (x.names l lt ∙ h);
    print_gained = λ q print d h. elim (print_gained q print d h) [ inl same ↦ inl same | inr s ↦ inr (inr s) ];
    print_lost = print_lost;
    enough = enough;
    in_range = in_range;
    print_counted = print_counted;
    zero_kept = λ l q z. inl (rw x.queue z);
    one_kept = λ l q z. inl (rw x.queue z);
    zero_dirty = λ l q lt z. x.rest.dirty_kept _ (old.lost_name_owes_release.dirty l q lt (rw x.queue at z));
    one_hung = λ l q lt z. x.rest.hung _ ∙ old.lost_name_owes_release.hung l q lt (rw x.queue at z);
  })
