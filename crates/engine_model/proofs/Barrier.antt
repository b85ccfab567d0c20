-- A barrier keeps what the engine keeps.
use Rattle.std.proofs.Common.{◌≡◌, ◌⊎◌, inl, inr, ◌<◌, ℕ, true, cond, eqb, arith, refl, sym, ◌∙◌, List, [], ◌∷◌, map, Some, true≢false, eq-eqb, ne_eqb}
use Rattle.std.proofs.lemmas.Bool.{cases_eq}
use Rattle.order_model.specs.World.{Layout, World, Release, Queued, queued, IsData}
use Rattle.engine_model.specs.Counts.{CountsInvariant, MarksAndEdges, EdgeKinds, Balanced, CoversNames, CoversPrints, OwesRelease, LostPrint, Covered, Near, Printed, NearPrinted}
use Rattle.engine_model.specs.Entries.{MayName, MayPrint, cached_name, cached_count, cached_print, newest_name, newest_count, newest_print}
use Rattle.engine_model.proofs.Views.{name_same, count_same, print_same, names_same, newest_name_same, newest_count_same, newest_print_same}
use Rattle.engine_model.specs.DeviceSteps.{Barrier, fixed_release}
use Rattle.engine_model.proofs.Graphs.{acyclic_fewer}
use Rattle.engine_model.proofs.Stages.{mapped_from}

pub queued-fixed : (rs : List Release) (p : ℕ) → queued (map fixed_release rs) p ≡ queued rs p
queued-fixed [] p = refl
queued-fixed (r ∷ rs) p = rw (queued-fixed rs p)

-- what stood at stage 0 still does
fixed_zero : (rs : List Release) (l p : ℕ) → Queued rs l p 0 → Queued (map fixed_release rs) l p 0
fixed_zero [] l p q = q
fixed_zero (r ∷ rs) l p (inl q) = inl (q.0, q.1, rw q.2)
fixed_zero (r ∷ rs) l p (inr q) = inr (fixed_zero rs l p q)

not_one : (stage : ℕ) → cond (eqb stage 1) 2 stage ≡ 1 → ⊥
not_one stage e = elim (cases_eq stage 1) [
  | inl is ↦ omega (arith, rw (eq-eqb stage 1 is) at e)
  | inr ne ↦ ne (rw (ne_eqb stage 1 ne) at e)
]

still_zero : (stage : ℕ) → cond (eqb stage 1) 2 stage ≡ 0 → stage ≡ 0
still_zero stage e = elim (cases_eq stage 1) [
  | inl is ↦ absurd (omega (arith, rw (eq-eqb stage 1 is) at e))
  | inr ne ↦ rw (ne_eqb stage 1 ne) at e
]

-- nothing is left at stage 1
fixed_one : (rs : List Release) (l p : ℕ) → Queued (map fixed_release rs) l p 1 → ⊥
fixed_one [] l p q = q
fixed_one (r ∷ rs) l p (inl q) = not_one r.stage q.2
fixed_one (r ∷ rs) l p (inr q) = fixed_one rs l p q

fixed_back : (rs : List Release) (l p : ℕ) → Queued (map fixed_release rs) l p 0 → Queued rs l p 0
fixed_back [] l p q = q
fixed_back (r ∷ rs) l p (inl q) = inl (q.0, q.1, still_zero r.stage q.2)
fixed_back (r ∷ rs) l p (inr q) = inr (fixed_back rs l p q)

module _ (lay : Layout) (top : ℕ) (w v : World) (old : CountsInvariant lay top w) (b : Barrier w v) where
  name : (l : ℕ) → cached_name lay v l ≡ cached_name lay w l
  name = name_same lay w v b.cached

  count : (p : ℕ) → cached_count lay v p ≡ cached_count lay w p
  count = count_same lay w v b.cached

  print_is : (p : ℕ) → cached_print lay v p ≡ cached_print lay w p
  print_is = print_same lay w v b.cached

  now_name : (l : ℕ) → newest_name lay v l ≡ newest_name lay w l
  now_name l = newest_name_same lay w v l (b.newest (lay.map_page l))

  now_count : (p : ℕ) → newest_count lay v p ≡ newest_count lay w p
  now_count p = newest_count_same lay w v p (b.newest (lay.count_page p))

  now_print : (p : ℕ) → newest_print lay v p ≡ newest_print lay w p
  now_print p = newest_print_same lay w v p (b.newest (lay.print_page p))

  -- what may be on the device after it is the newest content
  may_name : (p l : ℕ) → MayName lay v p l → newest_name lay w l ≡ p
  may_name p l m = rw (b.possible (lay.map_page l) m.content m.possible) at m.names

  may_print : (p : ℕ) (print : List ℕ) → MayPrint lay v p print → newest_print lay w p ≡ Some print
  may_print p print m = rw (b.possible (lay.print_page p) m.content m.possible) at m.has

  covered : (p l : ℕ) → Covered lay v p l → Near lay w p l
  covered p l (inl m) = inl (record { content = w.newest (lay.map_page l); possible = inl refl; names = may_name p l m })
  covered p l (inr c) = inr (rw (name l) at c.0, rw b.live at c.1.0)

  near : (p l : ℕ) → Near lay v p l → Near lay w p l
  near p l (inl m) = inl (record { content = w.newest (lay.map_page l); possible = inl refl; names = may_name p l m })
  near p l (inr c) = inr (rw (name l) at c.0, rw b.live at c.1)

  printed : (p : ℕ) (print : List ℕ) → Printed lay v p print → NearPrinted lay w p print
  printed p print (inl m) = inl (record { content = w.newest (lay.print_page p); possible = inl refl; has = may_print p print m })
  printed p print (inr c) = inr (rw (print_is p) at c.0, rw b.live at c.1.0)

  near_printed : (p : ℕ) (print : List ℕ) → NearPrinted lay v p print → NearPrinted lay w p print
  near_printed p print (inl m) = inl (record { content = w.newest (lay.print_page p); possible = inl refl; has = may_print p print m })
  near_printed p print (inr c) = inr (rw (print_is p) at c.0, rw b.live at c.1)

  marks_and_edges : MarksAndEdges lay v
  marks_and_edges = record {
    live_before = λ x y h. rw b.dirty (old.marks_and_edges.live_before x y (rw b.live at h));
    live_after = λ x y h. rw b.dirty (old.marks_and_edges.live_after x y (rw b.live at h));
    barred_before = λ x y h. absurd (true≢false (rw (b.barred x y) at (sym h)));
    barred_after = λ x y h. absurd (true≢false (rw (b.barred x y) at (sym h)));
    acyclic = acyclic_fewer w.live v.live (λ x y h. sym (b.live x y) ∙ h) old.marks_and_edges.acyclic;
    settled = λ page c t d h q. rw (b.possible page c q, b.cached) (old.marks_and_edges.clean page t (rw b.dirty at d));
    clean = λ page t d. rw (b.newest, b.cached) (old.marks_and_edges.clean page t (rw b.dirty at d));
  }

  edge_kinds : EdgeKinds lay v
  edge_kinds = λ x y h. elim h [
    | inl l ↦ old.edge_kinds x y (inl (rw b.live at l))
    | inr r ↦ absurd (true≢false (rw (b.barred x y) at (sym r)))
  ]

  count_balance : (p : ℕ) → IsData lay p → Balanced lay v top p
  count_balance p is = record {
    enough = rw (names_same lay w v b.cached p, count p, b.queue, queued-fixed) (old.count_balance p is).enough;
    in_range = rw (count p) (old.count_balance p is).in_range;
  }

  counts_cover_names : (p : ℕ) → IsData lay p → CoversNames lay v p
  counts_cover_names p is = record {
    each = λ c q S h. rw (b.possible (lay.count_page p) c q) ((old.counts_cover_names p is).newest S (λ l lt t. covered p l (h l lt t)));
    newest = λ S h. rw (now_count p) ((old.counts_cover_names p is).newest S (λ l lt t. near p l (h l lt t)));
  }

  counts_cover_prints : (p : ℕ) → IsData lay p → CoversPrints lay v p
  counts_cover_prints p is = record {
    each = λ c print q h. rw (b.possible (lay.count_page p) c q) ((old.counts_cover_prints p is).newest print (printed p print h));
    newest = λ print h. rw (now_count p) ((old.counts_cover_prints p is).newest print (near_printed p print h));
  }

  print_needs_count : (p : ℕ) (print : List ℕ) → IsData lay p → cached_print lay v p ≡ Some print → 0 < cached_count lay v p
  print_needs_count p print is h = rw (count p) (old.print_needs_count p print is (rw (print_is p) at h))

  owes : (l p : ℕ) → l < lay.blocks → IsData lay p → newest_name lay w l ≡ p
      → (cached_name lay v l ≡ p) ⊎ (Queued v.queue l p 0 ⊎ (v.live (lay.map_page l) (lay.count_page p) ≡ true))
  owes l p lt is h = elim (old.lost_name_owes_release.newest l p lt is h) [
    | inl same ↦ inl (rw (name l) same)
    | inr lost ↦ inr (elim lost [
      | inl q ↦ inl (rw b.queue (fixed_zero w.queue l p q))
      | inr e ↦ inr (rw b.live e)
    ])
  ]

  lost_name_owes_release : OwesRelease lay v
  lost_name_owes_release = record {
    each = λ l p lt is m. elim (owes l p lt is (may_name p l m)) [
      | inl same ↦ inl same
      | inr lost ↦ inr (elim lost [ inl q ↦ inl (inl q) | inr e ↦ inr (inl e) ])
    ];
    newest = λ l p lt is h. owes l p lt is (rw (now_name l) at h);
    dirty = λ l p lt q. rw b.dirty (old.lost_name_owes_release.dirty l p lt (fixed_back w.queue l p (rw b.queue at q)));
    hung = λ l p lt q. absurd (fixed_one w.queue l p (rw b.queue at q));
    in_range = λ l p stage q. let was = mapped_from fixed_release (λ r. (refl, refl)) w.queue l p stage (rw b.queue at q) in
        old.lost_name_owes_release.in_range l p was.0 was.1;
  }

  print_owes : (p : ℕ) (print : List ℕ) → IsData lay p → newest_print lay w p ≡ Some print
      → (cached_print lay v p ≡ Some print) ⊎ (v.live (lay.print_page p) (lay.count_page p) ≡ true)
  print_owes p print is h = elim ((old.lost_print_ordered p is).newest print h) [
    | inl same ↦ inl (rw (print_is p) same)
    | inr e ↦ inr (rw b.live e)
  ]

  lost_print_ordered : (p : ℕ) → IsData lay p → LostPrint lay v p
  lost_print_ordered p is = record {
    each = λ print m. elim (print_owes p print is (may_print p print m)) [ inl same ↦ inl same | inr e ↦ inr (inl e) ];
    newest = λ print h. print_owes p print is (rw (now_print p) at h);
  }

  pub barrier_keeps : CountsInvariant lay top v
  barrier_keeps = record {
    marks_and_edges = marks_and_edges;
    edge_kinds = edge_kinds;
    count_balance = count_balance;
    counts_cover_names = counts_cover_names;
    counts_cover_prints = counts_cover_prints;
    print_needs_count = print_needs_count;
    lost_name_owes_release = lost_name_owes_release;
    lost_print_ordered = lost_print_ordered;
  }
