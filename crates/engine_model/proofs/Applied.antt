-- An applied release brings its edges.
use Rattle.std.proofs.Common.{◌≡◌, ◌⊎◌, inl, inr, ◌+◌, ◌<◌, ◌≤◌, ℕ, true, cond, eqb, arith, sym, ap, ◌∙◌, subst, List, Some, eq-eqb, ne_eqb, eq-zero-or-pos}
use Rattle.std.proofs.lemmas.Bool.{cases_eq, false_from_ne_true}
use Rattle.order_model.specs.World.{Layout, World, Release, Queued, queued, IsData}
use Rattle.engine_model.specs.Counts.{CountsInvariant}
use Rattle.engine_model.specs.Entries.{MayPrint, cached_count, cached_print, cached_names}
use Rattle.engine_model.specs.Edits.{Edits}
use Rattle.engine_model.specs.Known.{Known, Tells}
use Rattle.engine_model.specs.Releases.{Applied}
use Rattle.engine_model.proofs.NewEdges.{kinds_kept, acyclic_kept, needed_kind, hung_kind, needed_open}
use Rattle.engine_model.proofs.Views.{names_by, none_some}
use Rattle.engine_model.proofs.Queues.{queued_out, kept_out, was_in, middle}
use Rattle.engine_model.proofs.Edits.{edits_keep}

module _ (lay : Layout) (known : Known) (top : ℕ) (w v : World) (r : Release) (before after : List Release) (old : CountsInvariant lay top w)
    (tells : Tells lay w known) (a : Applied lay known w v r before after) where
  names_kept : (p : ℕ) → cached_names lay v p ≡ cached_names lay w p
  names_kept = names_by lay w v a.names

  queue_less : (p : ℕ) → queued w.queue p ≡ cond (eqb r.page p) 1 0 + queued v.queue p
  queue_less p = rw (a.was_queued, a.removed) (queued_out before after r p)

  pub applied_waste : (p : ℕ) → IsData lay p
      → cached_names lay v p + queued v.queue p + cached_count lay w p ≡ cached_names lay w p + queued w.queue p + cached_count lay v p
  applied_waste p d = elim (cases_eq p r.page) [
    | inl e ↦
        let less : queued w.queue p ≡ 1 + queued v.queue p = queue_less p ∙ ap (λ b. cond b 1 0 + queued v.queue p) (eq-eqb r.page p (sym e)) in
        let same = names_kept p in
        let count : cached_count lay v p + 1 ≡ cached_count lay w p = subst (λ x. cached_count lay v x + 1 ≡ cached_count lay w x) (sym e) a.count_here in
        omega arith
    | inr ne ↦
        let less : queued w.queue p ≡ queued v.queue p = queue_less p ∙ ap (λ b. cond b 1 0 + queued v.queue p) (ne_eqb r.page p (λ q. ne (sym q))) ∙ omega arith in
        let same = names_kept p in
        let count = a.count_other p d ne in
        omega arith
  ]

  in_range : (p : ℕ) → IsData lay p → cached_count lay v p ≤ top
  in_range p d = let was = (old.count_balance p d).in_range in elim (cases_eq p r.page) [
    | inl e ↦ let count : cached_count lay v p + 1 ≡ cached_count lay w p = subst (λ x. cached_count lay v x + 1 ≡ cached_count lay w x) (sym e) a.count_here in omega arith
    | inr ne ↦ let count = a.count_other p d ne in omega arith
  ]

  pub print_gained : (p : ℕ) (print : List ℕ) → IsData lay p → cached_print lay v p ≡ Some print → (cached_print lay w p ≡ Some print) × (0 < cached_count lay v p)
  print_gained p print d h = elim (cases_eq p r.page) [
    | inr ne ↦ let was = sym (a.print_other p d ne) ∙ h in (was, rw (a.count_other p d ne) (old.print_needs_count p print d was))
    | inl e ↦ elim (eq-zero-or-pos (cached_count lay v r.page)) [
      | inl z ↦ absurd (none_some print (sym (a.print_gone z) ∙ ap (cached_print lay v) (sym e) ∙ h))
      | inr pos ↦ (ap (cached_print lay w) e ∙ sym (a.print_kept pos) ∙ ap (cached_print lay v) (sym e) ∙ h, rw (ap (cached_count lay v) e) pos)
    ]
  ]

  print_lost : (p : ℕ) (print : List ℕ) → IsData lay p → MayPrint lay w p print → cached_print lay w p ≡ Some print
      → (cached_print lay v p ≡ Some print) ⊎ (v.live (lay.print_page p) (lay.count_page p) ≡ true)
  print_lost p print d may h = elim (cases_eq p r.page) [
    | inr ne ↦ inl (a.print_other p d ne ∙ h)
    | inl e ↦ elim (eq-zero-or-pos (cached_count lay v r.page)) [
      | inl z ↦ inr (subst (λ x. v.live (lay.print_page x) (lay.count_page x) ≡ true) (sym e)
          (a.from_print (
            (let less = a.count_here in omega arith),
            (print, ap (cached_print lay w) (sym e) ∙ h),
            false_from_ne_true _ (λ born. tells.unborn_print r.page print (subst (λ x. IsData lay x) e d) born (subst (λ x. MayPrint lay w x print) e may)),
          )))
      | inr pos ↦ inl (ap (cached_print lay v) e ∙ a.print_kept pos ∙ ap (cached_print lay w) (sym e) ∙ h)
    ]
  ]

  still : (l p stage : ℕ) → Queued v.queue l p stage → Queued w.queue l p stage
  still l p stage q = rw a.was_queued (was_in before after r l p stage (rw a.removed at q))

  -- the release was of a block and a data page
  range : (r.block < lay.blocks) × IsData lay r.page
  range = old.lost_name_owes_release.in_range r.block r.page r.stage (rw a.was_queued (middle before after r))

  applied_edits : Edits lay top w v
  applied_edits = record {
    rest = a.rest;
    kinds = kinds_kept lay w v _ _ a.edges (needed_kind lay known w r range.0 range.1) (hung_kind lay known w r range.0 range.1);
    acyclic = acyclic_kept lay w v _ _ a.edges old.marks_and_edges.acyclic (needed_open lay known w r a.no_cycle);
    name_gained = λ l p lt d h. inl (sym (a.names l lt) ∙ h);
    name_lost = λ l p lt d may h. inl (a.names l lt ∙ h);
    print_gained = λ p print d h. inl (print_gained p print d h).0;
    print_lost = print_lost;
    enough = λ p d. let was = (old.count_balance p d).enough in let change = applied_waste p d in omega arith;
    in_range = in_range;
    print_counted = λ p print d h. (print_gained p print d h).1;
    zero_kept = λ l p q. elim (kept_out before after r l p 0 (rw a.was_queued at q)) [
      | inl stays ↦ inl (rw a.removed stays)
      | inr is ↦ inr (subst (λ x. v.live (lay.map_page x) (lay.count_page p) ≡ true) is.0
          (subst (λ x. v.live (lay.map_page r.block) (lay.count_page x) ≡ true) is.1 (a.from_map is.2)))
    ];
    one_kept = λ l p q. elim (kept_out before after r l p 1 (rw a.was_queued at q)) [
      | inl stays ↦ inl (rw a.removed stays)
      | inr is ↦ inr (inr (subst (λ x. v.barred (lay.map_page x) (lay.count_page p) ≡ true) is.0
          (subst (λ x. v.barred (lay.map_page r.block) (lay.count_page x) ≡ true) is.1 (a.from_hung_map is.2))))
    ];
    zero_dirty = λ l p lt q. a.rest.dirty_kept _ (old.lost_name_owes_release.dirty l p lt (still l p 0 q));
    one_hung = λ l p lt q. a.rest.hung _ ∙ old.lost_name_owes_release.hung l p lt (still l p 1 q);
    queue_in_range = λ l p stage q. old.lost_name_owes_release.in_range l p stage (still l p stage q);
  }

  pub applied_keeps : CountsInvariant lay top v
  applied_keeps = edits_keep lay top w v old applied_edits
