-- A write and a discard bring their edges and their release.
use Rattle.std.proofs.Common.{◌≡◌, ◌≢◌, ◌⊎◌, inl, inr, ◌+◌, ◌<◌, ◌≤◌, ℕ, Bool, true, cond, eqb, arith, refl, sym, ap, ◌∙◌, subst, List, [], ◌∷◌, ◌++◌, Some, eq-eqb, ne_eqb}
use Rattle.std.proofs.lemmas.Bool.{cases_eq, cases_Bool}
use Rattle.order_model.specs.World.{Layout, World, Release, Queued, queued, IsData}
use Rattle.engine_model.specs.Counts.{CountsInvariant}
use Rattle.engine_model.specs.Entries.{MayName, MayPrint, cached_name, cached_count, cached_print, cached_names, Apart}
use Rattle.engine_model.specs.Edits.{Edits, CacheOnly}
use Rattle.engine_model.specs.Known.{Known, Free, Tells}
use Rattle.engine_model.specs.Commands.{Released, Discarded, Renamed}
use Rattle.engine_model.proofs.NewEdges.{kinds_kept, acyclic_kept, mandatory_kind, mandatory_open}
use Rattle.engine_model.proofs.Counting.{count_ext, count_gain}
use Rattle.engine_model.proofs.Queues.{queued_push, push_old, push_new, push_back}
use Rattle.engine_model.proofs.Edits.{edits_keep}

-- what a dropped name owes, and how the counts of names and releases move
module _ (lay : Layout) (known : Known) (top : ℕ) (w v : World) (l o : ℕ) (old : CountsInvariant lay top w) (tells : Tells lay w known) (rest : CacheOnly lay w v) (r : Released lay known w v l o) where
  abbrev pub release : Release
  release = record { block = l; page = o; stage = cond (known.unborn_name l o) 3 0 }

  pub names_other : (p : ℕ) → cached_name lay w l ≢ p → cached_name lay v l ≢ p → cached_names lay v p ≡ cached_names lay w p
  names_other p nw nv = count_ext lay.blocks (λ k. eqb (cached_name lay v k) p) (λ k. eqb (cached_name lay w k) p) (λ k lt. elim (cases_eq k l) [
    | inl e ↦ ne_eqb _ p (λ q. nv (ap (cached_name lay v) (sym e) ∙ q)) ∙ sym (ne_eqb _ p (λ q. nw (ap (cached_name lay w) (sym e) ∙ q)))
    | inr ne ↦ ap (λ n. eqb n p) (r.other_names k lt ne)
  ])

  pub names_gained : (p : ℕ) → cached_name lay w l ≢ p → cached_name lay v l ≡ p → cached_names lay v p ≡ cached_names lay w p + 1
  names_gained p nw is = count_gain lay.blocks l (λ k. eqb (cached_name lay w k) p) (λ k. eqb (cached_name lay v k) p) r.in_range
      (ne_eqb _ p nw) (eq-eqb _ p is) (λ k lt ne. ap (λ n. eqb n p) (r.other_names k lt ne))

  pub names_lost : (p : ℕ) → cached_name lay w l ≡ p → cached_name lay v l ≢ p → cached_names lay w p ≡ cached_names lay v p + 1
  names_lost p is nv = count_gain lay.blocks l (λ k. eqb (cached_name lay v k) p) (λ k. eqb (cached_name lay w k) p) r.in_range
      (ne_eqb _ p nv) (eq-eqb _ p is) (λ k lt ne. ap (λ n. eqb n p) (sym (r.other_names k lt ne)))

  pub queue_here : 0 < o → queued v.queue o ≡ queued w.queue o + 1
  queue_here pos = elim r.pushed [
    | inl z ↦ absurd (omega (arith, z))
    | inr q ↦ ap (λ rs. queued rs o) q.1 ∙ queued_push w.queue release o ∙ ap (λ b. queued w.queue o + cond b 1 0) (eq-eqb o o refl)
  ]

  pub queue_other : (p : ℕ) → o ≢ p → queued v.queue p ≡ queued w.queue p
  queue_other p ne = elim r.pushed [
    | inl z ↦ ap (λ rs. queued rs p) z.1
    | inr q ↦ ap (λ rs. queued rs p) q.1 ∙ queued_push w.queue release p ∙ ap (λ b. queued w.queue p + cond b 1 0) (ne_eqb o p ne) ∙ omega arith
  ]

  pub still : (k p stage : ℕ) → Queued w.queue k p stage → Queued v.queue k p stage
  still k p stage q = elim r.pushed [ inl z ↦ rw z.1 q | inr n ↦ rw n.1 (push_old w.queue release k p stage q) ]

  from : (k p stage : ℕ) → Queued v.queue k p stage → Queued w.queue k p stage ⊎ ((l ≡ k) × (o ≡ p) × (cond (known.unborn_name l o) 3 0 ≡ stage))
  from k p stage q = elim r.pushed [ inl z ↦ inl (rw z.1 at q) | inr n ↦ push_back w.queue release k p stage (rw n.1 at q) ]

  -- a name that the device may have and the cache had is released at stage 0
  owed_here : (p : ℕ) → 0 < p → MayName lay w p l → cached_name lay w l ≡ p → Queued v.queue l p 0
  owed_here p pos may is =
      let e : p ≡ o = sym is ∙ r.was in
      elim r.pushed [
        | inl z ↦ absurd (omega (arith, z, e))
        | inr n ↦ elim (cases_Bool (known.unborn_name l o)) [
          | inr born ↦ rw n.1 (subst (λ x. Queued (w.queue ++ release ∷ []) l x 0) (sym e)
              (subst (λ s. Queued (w.queue ++ release ∷ []) l o s) (ap (λ b. cond {A = ℕ} b 3 0) born) (push_new w.queue release)))
          | inl unborn ↦ absurd (tells.unborn_name l o r.in_range unborn (subst (λ x. MayName lay w x l) e may))
        ]
      ]

  pub name_lost : (k p : ℕ) → k < lay.blocks → IsData lay p → MayName lay w p k → cached_name lay w k ≡ p → (cached_name lay v k ≡ p) ⊎ Queued v.queue k p 0
  name_lost k p lt d may is = elim (cases_eq k l) [
    | inr ne ↦ inl (r.other_names k lt ne ∙ is)
    | inl e ↦ inr (subst (λ x. Queued v.queue x p 0) (sym e) (owed_here p d.0 (subst (λ x. MayName lay w p x) e may) (ap (cached_name lay w) (sym e) ∙ is)))
  ]

  pub zero_dirty : (k p : ℕ) → k < lay.blocks → Queued v.queue k p 0 → v.dirty (lay.map_page k) ≡ true
  zero_dirty k p lt q = elim (from k p 0 q) [
    | inl was ↦ rest.dirty_kept _ (old.lost_name_owes_release.dirty k p lt was)
    | inr is ↦ ap v.dirty (ap lay.map_page (sym is.0)) ∙ r.map_dirty
  ]

  not_one : (b : Bool) → cond {A = ℕ} b 3 0 ≡ 1 → ⊥
  not_one b e = elim (cases_Bool b) [ inl is ↦ omega (arith, rw is at e) | inr is ↦ omega (arith, rw is at e) ]

  pub queue_in_range : (k p stage : ℕ) → Queued v.queue k p stage → (k < lay.blocks) × IsData lay p
  queue_in_range k p stage q = elim r.pushed [
    | inl z ↦ old.lost_name_owes_release.in_range k p stage (rw z.1 at q)
    | inr n ↦ elim (from k p stage q) [
      | inl was ↦ old.lost_name_owes_release.in_range k p stage was
      | inr is ↦ (subst (λ x. x < lay.blocks) is.0 r.in_range, subst (λ x. IsData lay x) is.1 (elim r.none_or_data [ inl z ↦ absurd (omega (arith, z, n.0)) | inr d ↦ d ]))
    ]
  ]

  pub one_hung : (k p : ℕ) → k < lay.blocks → Queued v.queue k p 1 → v.hung (lay.map_page k) ≡ true
  one_hung k p lt q = elim (from k p 1 q) [
    | inl was ↦ rest.hung _ ∙ old.lost_name_owes_release.hung k p lt was
    | inr is ↦ absurd (not_one (known.unborn_name l o) is.2)
  ]

module _ (lay : Layout) (known : Known) (top : ℕ) (w v : World) (l o : ℕ) (old : CountsInvariant lay top w) (tells : Tells lay w known) (x : Discarded lay known w v l o) where
  prints : (p : ℕ) (print : List ℕ) → IsData lay p → cached_print lay v p ≡ Some print → cached_print lay w p ≡ Some print
  prints p print d h = sym (x.prints p d) ∙ h

  pub discard_waste : (p : ℕ) → IsData lay p
      → cached_names lay v p + queued v.queue p + cached_count lay w p ≡ cached_names lay w p + queued w.queue p + cached_count lay v p
  discard_waste p d =
      let count = x.counts p d in
      let not_zero : cached_name lay v l ≢ p = λ q. omega (arith, q, x.name) in
      elim (cases_eq o p) [
        | inl e ↦
            let names = names_lost lay known top w v l o old tells x.rest x.released p (x.released.was ∙ e) not_zero in
            let queue = subst (λ y. queued v.queue y ≡ queued w.queue y + 1) e (queue_here lay known top w v l o old tells x.rest x.released x.had) in
            omega arith
        | inr ne ↦
            let names = names_other lay known top w v l o old tells x.rest x.released p (λ q. ne (sym x.released.was ∙ q)) not_zero in
            let queue = queue_other lay known top w v l o old tells x.rest x.released p ne in
            omega arith
      ]

  discard_edits : Edits lay top w v
  discard_edits = record {
    rest = x.rest;
    kinds = kinds_kept lay w v _ _ x.edges (λ a b n. absurd n) (λ a b n. absurd n);
    acyclic = acyclic_kept lay w v _ _ x.edges old.marks_and_edges.acyclic (λ a b c d n. absurd n);
    name_gained = λ k p lt d h. elim (cases_eq k l) [
      | inl e ↦ absurd (omega (arith, h, ap (cached_name lay v) e, x.name, d))
      | inr ne ↦ inl (sym (x.released.other_names k lt ne) ∙ h)
    ];
    name_lost = name_lost lay known top w v l o old tells x.rest x.released;
    print_gained = λ p print d h. inl (prints p print d h);
    print_lost = λ p print d may h. inl (x.prints p d ∙ h);
    enough = λ p d. let was = (old.count_balance p d).enough in let change = discard_waste p d in omega arith;
    in_range = λ p d. rw (x.counts p d) (old.count_balance p d).in_range;
    print_counted = λ p print d h. rw (x.counts p d) (old.print_needs_count p print d (prints p print d h));
    zero_kept = λ k p q. inl (still lay known top w v l o old tells x.rest x.released k p 0 q);
    one_kept = λ k p q. inl (still lay known top w v l o old tells x.rest x.released k p 1 q);
    zero_dirty = zero_dirty lay known top w v l o old tells x.rest x.released;
    one_hung = one_hung lay known top w v l o old tells x.rest x.released;
    queue_in_range = queue_in_range lay known top w v l o old tells x.rest x.released;
  }

  pub discard_keeps : CountsInvariant lay top v
  discard_keeps = edits_keep lay top w v old discard_edits

module _ (lay : Layout) (known : Known) (top : ℕ) (w v : World) (l o p : ℕ) (apart : Apart lay) (old : CountsInvariant lay top w) (tells : Tells lay w known) (x : Renamed lay known top w v l o p) where
  not_old : cached_name lay w l ≢ p
  not_old q = x.other (sym q ∙ x.released.was)

  pub write_waste : (q : ℕ) → IsData lay q
      → cached_names lay v q + queued v.queue q + cached_count lay w q ≡ cached_names lay w q + queued w.queue q + cached_count lay v q
  write_waste q d = elim (cases_eq q p) [
    | inl e ↦
        let names : cached_names lay v q ≡ cached_names lay w q + 1 = subst (λ y. cached_names lay v y ≡ cached_names lay w y + 1) (sym e) (names_gained lay known top w v l o old tells x.rest x.released p not_old x.name) in
        let queue : queued v.queue q ≡ queued w.queue q = subst (λ y. queued v.queue y ≡ queued w.queue y) (sym e) (queue_other lay known top w v l o old tells x.rest x.released p (λ s. x.other (sym s))) in
        let count : cached_count lay v q ≡ cached_count lay w q + 1 = subst (λ y. cached_count lay v y ≡ cached_count lay w y + 1) (sym e) x.count_here in
        omega arith
    | inr ne ↦
        let count = x.count_other q d ne in
        let now : cached_name lay v l ≢ q = λ s. ne (sym s ∙ x.name) in
        elim (cases_eq o q) [
          | inl e ↦
              let names = names_lost lay known top w v l o old tells x.rest x.released q (x.released.was ∙ e) now in
              let queue = subst (λ y. queued v.queue y ≡ queued w.queue y + 1) e (queue_here lay known top w v l o old tells x.rest x.released (rw e d.0)) in
              omega arith
          | inr other ↦
              let names = names_other lay known top w v l o old tells x.rest x.released q (λ s. other (sym x.released.was ∙ s)) now in
              let queue = queue_other lay known top w v l o old tells x.rest x.released q other in
              omega arith
        ]
  ]

  print_gained : (q : ℕ) (print : List ℕ) → IsData lay q → cached_print lay v q ≡ Some print
      → (cached_print lay w q ≡ Some print) ⊎ (v.live (lay.count_page q) (lay.print_page q) ≡ true)
  print_gained q print d h = elim (cases_eq q p) [
    | inr ne ↦ inl (sym (x.print_other q d ne) ∙ h)
    | inl e ↦ elim x.print_here [
      | inl same ↦ inl (ap (cached_print lay w) e ∙ sym same ∙ ap (cached_print lay v) (sym e) ∙ h)
      | inr f ↦ inr (subst (λ y. v.live (lay.count_page y) (lay.print_page y) ≡ true) (sym e) f.1.first_count)
    ]
  ]

  print_counted : (q : ℕ) (print : List ℕ) → IsData lay q → cached_print lay v q ≡ Some print → 0 < cached_count lay v q
  print_counted q print d h = elim (cases_eq q p) [
    | inr ne ↦ rw (x.count_other q d ne) (old.print_needs_count q print d (sym (x.print_other q d ne) ∙ h))
    | inl e ↦ let more : cached_count lay v q ≡ cached_count lay w q + 1 = subst (λ y. cached_count lay v y ≡ cached_count lay w y + 1) (sym e) x.count_here in omega arith
  ]

  -- a fresh page has no print on the device
  no_print : (print : List ℕ) → Free lay w p → MayPrint lay w p print → ⊥
  no_print print f may =
      let pos = (old.counts_cover_prints p x.is_data).each (w.newest (lay.count_page p)) print (inl refl) (inl may) in
      let none = f.on_device (w.newest (lay.count_page p)) (inl refl) in
      omega arith

  print_lost : (q : ℕ) (print : List ℕ) → IsData lay q → MayPrint lay w q print → cached_print lay w q ≡ Some print
      → (cached_print lay v q ≡ Some print) ⊎ (v.live (lay.print_page q) (lay.count_page q) ≡ true)
  print_lost q print d may h = elim (cases_eq q p) [
    | inr ne ↦ inl (x.print_other q d ne ∙ h)
    | inl e ↦ elim x.print_here [
      | inl same ↦ inl (ap (cached_print lay v) e ∙ same ∙ ap (cached_print lay w) (sym e) ∙ h)
      | inr f ↦ absurd (no_print print (tells.free p x.is_data f.1.was_free) (subst (λ y. MayPrint lay w y print) e may))
    ]
  ]

  pub write_edits : Edits lay top w v
  write_edits = record {
    rest = x.rest;
    kinds = kinds_kept lay w v _ _ x.edges (mandatory_kind lay w l p x.released.in_range x.is_data) (mandatory_kind lay w l p x.released.in_range x.is_data);
    acyclic = acyclic_kept lay w v _ _ x.edges old.marks_and_edges.acyclic (mandatory_open lay w l p x.released.in_range x.is_data apart old.edge_kinds x.no_cycle);
    name_gained = λ k q lt d h. elim (cases_eq k l) [
      | inr ne ↦ inl (sym (x.released.other_names k lt ne) ∙ h)
      | inl e ↦
          let is : p ≡ q = sym x.name ∙ ap (cached_name lay v) (sym e) ∙ h in
          inr (subst (λ y. v.live (lay.count_page q) (lay.map_page y) ≡ true) (sym e) (subst (λ y. v.live (lay.count_page y) (lay.map_page l) ≡ true) is x.counted))
    ];
    name_lost = name_lost lay known top w v l o old tells x.rest x.released;
    print_gained = λ q print d h. elim (print_gained q print d h) [ inl same ↦ inl same | inr edge ↦ inr (inl edge) ];
    print_lost = print_lost;
    enough = λ q d. let was = (old.count_balance q d).enough in let change = write_waste q d in omega arith;
    in_range = λ q d. elim (cases_eq q p) [
      | inl e ↦ subst (λ y. cached_count lay v y ≤ top) (sym e) (rw x.count_here (omega (arith, x.below_top)))
      | inr ne ↦ rw (x.count_other q d ne) (old.count_balance q d).in_range
    ];
    print_counted = print_counted;
    zero_kept = λ k q s. inl (still lay known top w v l o old tells x.rest x.released k q 0 s);
    one_kept = λ k q s. inl (still lay known top w v l o old tells x.rest x.released k q 1 s);
    zero_dirty = zero_dirty lay known top w v l o old tells x.rest x.released;
    one_hung = one_hung lay known top w v l o old tells x.rest x.released;
    queue_in_range = queue_in_range lay known top w v l o old tells x.rest x.released;
  }

  pub rename_keeps : CountsInvariant lay top v
  rename_keeps = edits_keep lay top w v old write_edits
