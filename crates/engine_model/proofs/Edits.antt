-- Edits that bring their edges and releases keep what the engine keeps.
use Rattle.std.proofs.Common.{◌≡◌, inl, inr, ◌<◌, ℕ, false, refl, sym, ◌∙◌, List, true≢false}
use Rattle.std.proofs.lemmas.Bool.{false_from_ne_true}
use Rattle.order_model.specs.World.{Layout, World, IsData}
use Rattle.engine_model.specs.Counts.{CountsInvariant, MarksAndEdges, Balanced, CoversNames, CoversPrints, OwesRelease, LostPrint, Covered, Near}
use Rattle.engine_model.specs.Entries.{MayName, MayPrint, HasEdge, newest_name}
use Rattle.engine_model.proofs.Views.{newest_name_same, newest_count_same, newest_print_same}
use Rattle.engine_model.specs.Edits.{Edits}

module _ (lay : Layout) (top : ℕ) (w v : World) (old : CountsInvariant lay top w) (e : Edits lay top w v) where
  may_name : (p l : ℕ) → MayName lay v p l → MayName lay w p l
  may_name p l n = record { content = n.content; possible = e.rest.possible (lay.map_page l) n.content n.possible; names = n.names }

  may_print : (p : ℕ) (print : List ℕ) → MayPrint lay v p print → MayPrint lay w p print
  may_print p print n = record { content = n.content; possible = e.rest.possible (lay.print_page p) n.content n.possible; has = n.has }

  not_dirty : (a : ℕ) → v.dirty a ≡ false → w.dirty a ≡ false
  not_dirty a h = false_from_ne_true _ (λ d. true≢false (sym (e.rest.dirty_kept a d) ∙ h))

  not_live : (a b : ℕ) → v.live a b ≡ false → w.live a b ≡ false
  not_live a b h = false_from_ne_true _ (λ d. true≢false (sym (e.rest.live_kept a b d) ∙ h))

  not_barred : (a b : ℕ) → v.barred a b ≡ false → w.barred a b ≡ false
  not_barred a b h = false_from_ne_true _ (λ d. true≢false (sym (e.rest.barred_kept a b d) ∙ h))

  edge_kept : (a b : ℕ) → HasEdge w a b → HasEdge v a b
  edge_kept a b (inl l) = inl (e.rest.live_kept a b l)
  edge_kept a b (inr r) = inr (e.rest.barred_kept a b r)

  near : (p l : ℕ) → l < lay.blocks → IsData lay p → Near lay v p l → Near lay w p l
  near p l lt d (inl n) = inl (may_name p l n)
  near p l lt d (inr c) = elim (e.name_gained l p lt d c.0) [
    | inl same ↦ inr (same, not_live _ _ c.1)
    | inr edge ↦ absurd (true≢false (sym edge ∙ c.1))
  ]

  covered : (p l : ℕ) → l < lay.blocks → IsData lay p → Covered lay v p l → Covered lay w p l
  covered p l lt d (inl n) = inl (may_name p l n)
  covered p l lt d (inr c) = elim (e.name_gained l p lt d c.0) [
    | inl same ↦ inr (same, (not_live _ _ c.1.0, not_barred _ _ c.1.1))
    | inr edge ↦ absurd (true≢false (sym edge ∙ c.1.0))
  ]

  marks_and_edges : MarksAndEdges lay v
  marks_and_edges = record {
    acyclic = e.acyclic;
    live_before = λ a b h. elim (e.rest.live_ends a b h) [ inl l ↦ e.rest.dirty_kept a (old.marks_and_edges.live_before a b l) | inr n ↦ n.0 ];
    live_after = λ a b h. elim (e.rest.live_ends a b h) [ inl l ↦ e.rest.dirty_kept b (old.marks_and_edges.live_after a b l) | inr n ↦ n.1 ];
    barred_before = λ a b h. elim (e.rest.barred_ends a b h) [ inl l ↦ e.rest.hung a ∙ old.marks_and_edges.barred_before a b l | inr n ↦ n.0 ];
    barred_after = λ a b h. elim (e.rest.barred_ends a b h) [ inl l ↦ e.rest.dirty_kept b (old.marks_and_edges.barred_after a b l) | inr n ↦ n.1 ];
    settled = λ a c is d h q. old.marks_and_edges.settled a c is (not_dirty a d) (sym (e.rest.hung a) ∙ h) (e.rest.possible a c q) ∙ sym (e.rest.cached_clean a is d);
    clean = λ a is d. e.rest.newest a ∙ old.marks_and_edges.clean a is (not_dirty a d) ∙ sym (e.rest.cached_clean a is d);
  }

  count_balance : (p : ℕ) → IsData lay p → Balanced lay v top p
  count_balance p d = record {
    enough = e.enough p d;
    in_range = e.in_range p d;
  }

  counts_cover_names : (p : ℕ) → IsData lay p → CoversNames lay v p
  counts_cover_names p d = record {
    each = λ c q S h. (old.counts_cover_names p d).each c (e.rest.possible _ c q) S (λ l lt s. covered p l lt d (h l lt s));
    newest = λ S h. rw (newest_count_same lay w v p (e.rest.newest (lay.count_page p))) ((old.counts_cover_names p d).newest S (λ l lt s. near p l lt d (h l lt s)));
  }

  counts_cover_prints : (p : ℕ) → IsData lay p → CoversPrints lay v p
  counts_cover_prints p d = record {
    each = λ c print q h. elim h [
      | inl n ↦ (old.counts_cover_prints p d).each c print (e.rest.possible _ c q) (inl (may_print p print n))
      | inr n ↦ elim (e.print_gained p print d n.0) [
        | inl same ↦ (old.counts_cover_prints p d).each c print (e.rest.possible _ c q) (inr (same, (not_live _ _ n.1.0, not_barred _ _ n.1.1)))
        | inr gained ↦ elim gained [
          | inl edge ↦ absurd (true≢false (sym edge ∙ n.1.0))
          | inr sure ↦ sure c (e.rest.possible _ c q)
        ]
      ]
    ];
    newest = λ print h. rw (newest_count_same lay w v p (e.rest.newest (lay.count_page p))) (elim h [
      | inl n ↦ (old.counts_cover_prints p d).newest print (inl (may_print p print n))
      | inr n ↦ elim (e.print_gained p print d n.0) [
        | inl same ↦ (old.counts_cover_prints p d).newest print (inr (same, not_live _ _ n.1))
        | inr gained ↦ elim gained [
          | inl edge ↦ absurd (true≢false (sym edge ∙ n.1))
          | inr sure ↦ sure (w.newest (lay.count_page p)) (inl refl)
        ]
      ]
    ]);
  }

  newest_named : (l p : ℕ) → newest_name lay w l ≡ p → MayName lay w p l
  newest_named l p h = record { content = w.newest (lay.map_page l); possible = inl refl; names = h }

  lost_name_owes_release : OwesRelease lay v
  lost_name_owes_release = record {
    each = λ l p lt d n. elim (old.lost_name_owes_release.each l p lt d (may_name p l n)) [
      | inl same ↦ elim (e.name_lost l p lt d (may_name p l n) same) [ inl s ↦ inl s | inr q ↦ inr (inl (inl q)) ]
      | inr lost ↦ inr (elim lost [
        | inl waits ↦ elim waits [
          | inl z ↦ elim (e.zero_kept l p z) [ inl q ↦ inl (inl q) | inr edge ↦ inr (inl edge) ]
          | inr o ↦ elim (e.one_kept l p o) [ inl q ↦ inl (inr q) | inr edge ↦ inr edge ]
        ]
        | inr edge ↦ inr (edge_kept _ _ edge)
      ])
    ];
    newest = λ l p lt d h. let was = sym (newest_name_same lay w v l (e.rest.newest (lay.map_page l))) ∙ h in
        elim (old.lost_name_owes_release.newest l p lt d was) [
          | inl same ↦ elim (e.name_lost l p lt d (newest_named l p was) same) [ inl s ↦ inl s | inr q ↦ inr (inl q) ]
          | inr lost ↦ inr (elim lost [ inl z ↦ e.zero_kept l p z | inr edge ↦ inr (e.rest.live_kept _ _ edge) ])
        ];
    dirty = e.zero_dirty;
    hung = e.one_hung;
    in_range = e.queue_in_range;
  }

  lost_print_ordered : (p : ℕ) → IsData lay p → LostPrint lay v p
  lost_print_ordered p d = record {
    each = λ print n. elim ((old.lost_print_ordered p d).each print (may_print p print n)) [
      | inl same ↦ elim (e.print_lost p print d (may_print p print n) same) [ inl s ↦ inl s | inr edge ↦ inr (inl edge) ]
      | inr edge ↦ inr (edge_kept _ _ edge)
    ];
    newest = λ print h. let was = sym (newest_print_same lay w v p (e.rest.newest (lay.print_page p))) ∙ h in
        elim ((old.lost_print_ordered p d).newest print was) [
          | inl same ↦ e.print_lost p print d (record { content = w.newest (lay.print_page p); possible = inl refl; has = was }) same
          | inr edge ↦ inr (e.rest.live_kept _ _ edge)
        ];
  }

  pub edits_keep : CountsInvariant lay top v
  edits_keep = record {
    marks_and_edges = marks_and_edges;
    edge_kinds = λ a b h. elim (e.kinds a b h) [ inl was ↦ old.edge_kinds a b was | inr is ↦ is ];
    count_balance = count_balance;
    counts_cover_names = counts_cover_names;
    counts_cover_prints = counts_cover_prints;
    print_needs_count = e.print_counted;
    lost_name_owes_release = lost_name_owes_release;
    lost_print_ordered = lost_print_ordered;
  }
