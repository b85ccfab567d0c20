-- A write that the device took keeps what the engine keeps, whether it ended Done or Taken.
use Rattle.std.proofs.Common.{◌≡◌, ◌≢◌, ◌⊎◌, inl, inr, ◌<◌, ℕ, true, false, eqb, sym, ap, ◌∙◌, List, Some, true≢false, eq-eqb, ne_eqb, eqb-true, le_trans, refl}
use Rattle.engine_model.proofs.Stages.{mapped_from, queued_written, written_zero, written_stays, written_moves, written_one, written_from}
use Rattle.std.proofs.lemmas.Bool.{false_from_ne_true, not_from_false, not-false, not-true, and_cases, cases_eq, and_parts, or_cases, or_parts, and_from, or_left, or_right}
use Rattle.order_model.specs.World.{Layout, World, Queued, queued, IsData}
use Rattle.order_model.specs.Counting.{AtMost}
use Rattle.engine_model.specs.Counts.{CountsInvariant, MarksAndEdges, Balanced, CoversNames, CoversPrints, OwesRelease, LostPrint, Covered, Near, Printed, NearPrinted}
use Rattle.engine_model.specs.Entries.{MayName, MayPrint, HasEdge, NoEdge, cached_name, cached_count, cached_print, newest_count}
use Rattle.engine_model.proofs.Counting.{count_owed, owed}
use Rattle.engine_model.proofs.Views.{name_same, count_same, print_same, names_same, newest_name_same, newest_count_same, newest_print_same}
use Rattle.engine_model.specs.DeviceSteps.{Taken, KeepsMarks, MovesMarks, written_release}
use Rattle.engine_model.proofs.Graphs.{acyclic_fewer}

-- What both ends do to the marks, edges and stages, in one form.
pub record Marks (lay : Layout) (w v : World) (page : ℕ) : Type 0 where
  pub dirty_old : (a : ℕ) → v.dirty a ≡ true → w.dirty a ≡ true
  pub dirty_new : (a : ℕ) → w.dirty a ≡ true → a ≢ page → v.dirty a ≡ true
  pub hung_new : (a : ℕ) → w.hung a ≡ true → v.hung a ≡ true
  -- a page that is clean and not hung was so
  pub clean_other : (a : ℕ) → v.dirty a ≡ false → (a ≡ page) ⊎ (w.dirty a ≡ false)
  pub settled_other : (a : ℕ) → v.dirty a ≡ false → v.hung a ≡ false → (a ≢ page) × (w.dirty a ≡ false) × (w.hung a ≡ false)
  pub live_old : (a b : ℕ) → v.live a b ≡ true → (w.live a b ≡ true) × (v.dirty a ≡ true)
  pub live_new : (a b : ℕ) → w.live a b ≡ true → a ≢ page → v.live a b ≡ true
  pub live_dirty : (a b : ℕ) → w.live a b ≡ true → v.dirty a ≡ true → v.live a b ≡ true
  pub hung_old : (a : ℕ) → v.hung a ≡ true → (w.hung a ≡ true) ⊎ (a ≡ page)
  pub barred_old : (a b : ℕ) → v.barred a b ≡ true → ((w.live a b ≡ true) ⊎ (w.barred a b ≡ true)) × (v.hung a ≡ true)
  pub edge_new : (a b : ℕ) → HasEdge w a b → HasEdge v a b
  pub queued_same : (p : ℕ) → queued v.queue p ≡ queued w.queue p
  pub zero_old : (l p : ℕ) → l < lay.blocks → Queued v.queue l p 0 → Queued w.queue l p 0 × (v.dirty (lay.map_page l) ≡ true)
  pub zero_new : (l p : ℕ) → lay.map_page l ≢ page → Queued w.queue l p 0 → Queued v.queue l p 0
  pub one_old : (l p : ℕ) → l < lay.blocks → Queued v.queue l p 1 → v.hung (lay.map_page l) ≡ true
  pub queued_from : (l p stage : ℕ) → Queued v.queue l p stage → (was : ℕ) × Queued w.queue l p was
  pub waits_new : (l p : ℕ) → Queued w.queue l p 0 ⊎ Queued w.queue l p 1 → Queued v.queue l p 0 ⊎ Queued v.queue l p 1

module _ (lay : Layout) (top : ℕ) (w v : World) (page : ℕ) (old : CountsInvariant lay top w) (t : Taken w v page) (m : Marks lay w v page) where
  name : (l : ℕ) → cached_name lay v l ≡ cached_name lay w l
  name = name_same lay w v t.cached

  count : (p : ℕ) → cached_count lay v p ≡ cached_count lay w p
  count = count_same lay w v t.cached

  print_is : (p : ℕ) → cached_print lay v p ≡ cached_print lay w p
  print_is = print_same lay w v t.cached

  -- no edge leads to the page
  pub no_edge : (a b : ℕ) → b ≡ page → HasEdge w a b → ⊥
  no_edge a b e (inl h) = true≢false (sym h ∙ rw e (t.no_live a))
  no_edge a b e (inr h) = true≢false (sym h ∙ rw e (t.no_barred a))

  no_edges : (a b : ℕ) → b ≡ page → NoEdge w a b
  no_edges a b e = (rw e (t.no_live a), rw e (t.no_barred a))

  -- an edge stays an edge
  no_edge_old : (a b : ℕ) → NoEdge v a b → NoEdge w a b
  no_edge_old a b n = (false_from_ne_true _ (λ h. lost (m.edge_new a b (inl h))), false_from_ne_true _ (λ h. lost (m.edge_new a b (inr h))))
    where
      lost : HasEdge v a b → ⊥
      lost (inl h) = true≢false (sym h ∙ n.0)
      lost (inr h) = true≢false (sym h ∙ n.1)

  pub may_name : (p l : ℕ) → MayName lay v p l → MayName lay w p l ⊎ ((lay.map_page l ≡ page) × (cached_name lay w l ≡ p))
  may_name p l n = elim (t.possible (lay.map_page l) n.content n.possible) [
    | inl q ↦ inl (record { content = n.content; possible = q; names = n.names })
    | inr q ↦ inr (q.0, ap (λ c. lay.name_in c l) (ap w.cached q.0 ∙ sym q.1) ∙ n.names)
  ]

  pub may_print : (p : ℕ) (print : List ℕ) → MayPrint lay v p print → MayPrint lay w p print ⊎ ((lay.print_page p ≡ page) × (cached_print lay w p ≡ Some print))
  may_print p print n = elim (t.possible (lay.print_page p) n.content n.possible) [
    | inl q ↦ inl (record { content = n.content; possible = q; has = n.has })
    | inr q ↦ inr (q.0, ap (λ c. lay.print_in c p) (ap w.cached q.0 ∙ sym q.1) ∙ n.has)
  ]

  covered : (p l : ℕ) → Covered lay v p l → Covered lay w p l
  covered p l (inl n) = elim (may_name p l n) [ inl q ↦ inl q | inr q ↦ inr (q.1, no_edges (lay.count_page p) (lay.map_page l) q.0) ]
  covered p l (inr c) = inr (sym (name l) ∙ c.0, no_edge_old (lay.count_page p) (lay.map_page l) c.1)

  printed : (p : ℕ) (print : List ℕ) → Printed lay v p print → Printed lay w p print
  printed p print (inl n) = elim (may_print p print n) [ inl q ↦ inl q | inr q ↦ inr (q.1, no_edges (lay.count_page p) (lay.print_page p) q.0) ]
  printed p print (inr c) = inr (sym (print_is p) ∙ c.0, no_edge_old (lay.count_page p) (lay.print_page p) c.1)

  not_live : (a b : ℕ) → a ≢ page → v.live a b ≡ false → w.live a b ≡ false
  not_live a b ne h = false_from_ne_true _ (λ l. true≢false (sym (m.live_new a b l ne) ∙ h))

  near : (p l : ℕ) → lay.count_page p ≢ page → Near lay v p l → Near lay w p l
  near p l ne (inl n) = elim (may_name p l n) [ inl q ↦ inl q | inr q ↦ inr (q.1, (no_edges (lay.count_page p) (lay.map_page l) q.0).0) ]
  near p l ne (inr c) = inr (sym (name l) ∙ c.0, not_live (lay.count_page p) (lay.map_page l) ne c.1)

  near_printed : (p : ℕ) (print : List ℕ) → lay.count_page p ≢ page → NearPrinted lay v p print → NearPrinted lay w p print
  near_printed p print ne (inl n) = elim (may_print p print n) [ inl q ↦ inl q | inr q ↦ inr (q.1, (no_edges (lay.count_page p) (lay.print_page p) q.0).0) ]
  near_printed p print ne (inr c) = inr (sym (print_is p) ∙ c.0, not_live (lay.count_page p) (lay.print_page p) ne c.1)

  -- every block that names p, on the device or in the cache
  named : (p l : ℕ) → Near lay v p l → MayName lay w p l ⊎ (cached_name lay w l ≡ p)
  named p l (inl n) = elim (may_name p l n) [ inl q ↦ inl q | inr q ↦ inr q.1 ]
  named p l (inr c) = inr (sym (name l) ∙ c.0)

  -- A page with no edge to it has cached counts that cover the names on the device and in the cache: what the cache has lost is still queued.
  cached_covers : (p : ℕ) → IsData lay p → lay.count_page p ≡ page
      → AtMost lay.blocks (λ l. MayName lay w p l ⊎ (cached_name lay w l ≡ p)) (cached_count lay w p)
  cached_covers p d e S h =
      let most = count_owed w.queue lay.blocks p S (λ l. eqb (cached_name lay w l) p) (λ l lt s. elim (h l lt s) [
        | inr n ↦ inl (eq-eqb _ p n)
        | inl n ↦ elim (old.lost_name_owes_release.each l p lt d n) [
          | inl same ↦ inl (eq-eqb _ p same)
          | inr lost ↦ inr (elim lost [
            | inl waits ↦ elim waits [ inl q ↦ owed w.queue l p 0 q | inr q ↦ owed w.queue l p 1 q ]
            | inr edge ↦ absurd (no_edge (lay.map_page l) (lay.count_page p) e edge)
          ])
        ]
      ]) in
      le_trans most (old.count_balance p d).enough

  cached_covers_prints : (p : ℕ) (print : List ℕ) → IsData lay p → lay.count_page p ≡ page
      → MayPrint lay w p print ⊎ (cached_print lay w p ≡ Some print) → 0 < cached_count lay w p
  cached_covers_prints p print d e (inr same) = old.print_needs_count p print d same
  cached_covers_prints p print d e (inl n) = elim ((old.lost_print_ordered p d).each print n) [
    | inl same ↦ old.print_needs_count p print d same
    | inr edge ↦ absurd (no_edge (lay.print_page p) (lay.count_page p) e edge)
  ]

  has_print : (p : ℕ) (print : List ℕ) → NearPrinted lay v p print → MayPrint lay w p print ⊎ (cached_print lay w p ≡ Some print)
  has_print p print (inl n) = elim (may_print p print n) [ inl q ↦ inl q | inr q ↦ inr q.1 ]
  has_print p print (inr c) = inr (sym (print_is p) ∙ c.0)

  -- the count that was written
  written_count : (p : ℕ) (c : List ℕ) → lay.count_page p ≡ page → c ≡ w.cached page → lay.count_in c p ≡ cached_count lay w p
  written_count p c e is = ap (λ x. lay.count_in x p) (is ∙ sym (ap w.cached e))

  newest_count_here : (p : ℕ) → lay.count_page p ≡ page → newest_count lay v p ≡ cached_count lay w p
  newest_count_here p e = written_count p (v.newest (lay.count_page p)) e (ap v.newest e ∙ t.newest_here)

  marks_and_edges : MarksAndEdges lay v
  marks_and_edges = record {
    live_before = λ a b h. (m.live_old a b h).1;
    live_after = λ a b h. m.dirty_new b (old.marks_and_edges.live_after a b (m.live_old a b h).0) (λ e. no_edge a b e (inl (m.live_old a b h).0));
    barred_before = λ a b h. (m.barred_old a b h).1;
    barred_after = λ a b h. elim (m.barred_old a b h).0 [
      | inl l ↦ m.dirty_new b (old.marks_and_edges.live_after a b l) (λ e. no_edge a b e (inl l))
      | inr r ↦ m.dirty_new b (old.marks_and_edges.barred_after a b r) (λ e. no_edge a b e (inr r))
    ];
    acyclic = acyclic_fewer w.live v.live (λ a b h. (m.live_old a b h).0) old.marks_and_edges.acyclic;
    settled = λ a c is d h q. let s = m.settled_other a d h in elim (t.possible a c q) [
      | inl q ↦ old.marks_and_edges.settled a c is s.1 s.2 q ∙ sym (t.cached a)
      | inr q ↦ absurd (s.0 q.0)
    ];
    clean = λ a is d. elim (cases_eq a page) [
      | inl e ↦ ap v.newest e ∙ t.newest_here ∙ ap w.cached (sym e) ∙ sym (t.cached a)
      | inr ne ↦ elim (m.clean_other a d) [
        | inl e ↦ absurd (ne e)
        | inr d ↦ t.newest_other a ne ∙ old.marks_and_edges.clean a is d ∙ sym (t.cached a)
      ]
    ];
  }

  count_balance : (p : ℕ) → IsData lay p → Balanced lay v top p
  count_balance p d = record {
    enough = rw (names_same lay w v t.cached p, count p, m.queued_same p) (old.count_balance p d).enough;
    in_range = rw (count p) (old.count_balance p d).in_range;
  }

  counts_cover_names : (p : ℕ) → IsData lay p → CoversNames lay v p
  counts_cover_names p d = record {
    each = λ c q S h. elim (t.possible (lay.count_page p) c q) [
      | inl q ↦ (old.counts_cover_names p d).each c q S (λ l lt s. covered p l (h l lt s))
      | inr q ↦ rw (written_count p c q.0 q.1) (cached_covers p d q.0 S (λ l lt s. named p l (weaken p l (h l lt s))))
    ];
    newest = λ S h. elim (cases_eq (lay.count_page p) page) [
      | inl e ↦ rw (newest_count_here p e) (cached_covers p d e S (λ l lt s. named p l (h l lt s)))
      | inr ne ↦ rw (newest_count_same lay w v p (t.newest_other (lay.count_page p) ne))
          ((old.counts_cover_names p d).newest S (λ l lt s. near p l ne (h l lt s)))
    ];
  }
    where
      weaken : (p l : ℕ) → Covered lay v p l → Near lay v p l
      weaken p l (inl n) = inl n
      weaken p l (inr c) = inr (c.0, c.1.0)

  counts_cover_prints : (p : ℕ) → IsData lay p → CoversPrints lay v p
  counts_cover_prints p d = record {
    each = λ c print q h. elim (t.possible (lay.count_page p) c q) [
      | inl q ↦ (old.counts_cover_prints p d).each c print q (printed p print h)
      | inr q ↦ rw (written_count p c q.0 q.1) (cached_covers_prints p print d q.0 (has_print p print (weaken p print h)))
    ];
    newest = λ print h. elim (cases_eq (lay.count_page p) page) [
      | inl e ↦ rw (newest_count_here p e) (cached_covers_prints p print d e (has_print p print h))
      | inr ne ↦ rw (newest_count_same lay w v p (t.newest_other (lay.count_page p) ne))
          ((old.counts_cover_prints p d).newest print (near_printed p print ne h))
    ];
  }
    where
      weaken : (p : ℕ) (print : List ℕ) → Printed lay v p print → NearPrinted lay v p print
      weaken p print (inl n) = inl n
      weaken p print (inr c) = inr (c.0, c.1.0)

  print_needs_count : (p : ℕ) (print : List ℕ) → IsData lay p → cached_print lay v p ≡ Some print → 0 < cached_count lay v p
  print_needs_count p print d h = rw (count p) (old.print_needs_count p print d (sym (print_is p) ∙ h))

  lost_name_owes_release : OwesRelease lay v
  lost_name_owes_release = record {
    each = λ l p lt d n. elim (may_name p l n) [
      | inr q ↦ inl (name l ∙ q.1)
      | inl n ↦ elim (old.lost_name_owes_release.each l p lt d n) [
        | inl same ↦ inl (name l ∙ same)
        | inr lost ↦ inr (elim lost [
          | inl q ↦ inl (m.waits_new l p q)
          | inr e ↦ inr (m.edge_new (lay.map_page l) (lay.count_page p) e)
        ])
      ]
    ];
    newest = λ l p lt d h. elim (cases_eq (lay.map_page l) page) [
      | inl e ↦ inl (name l ∙ ap (λ c. lay.name_in c l) (ap w.cached e ∙ sym t.newest_here ∙ ap v.newest (sym e)) ∙ h)
      | inr ne ↦ elim (old.lost_name_owes_release.newest l p lt d (sym (newest_name_same lay w v l (t.newest_other (lay.map_page l) ne)) ∙ h)) [
        | inl same ↦ inl (name l ∙ same)
        | inr lost ↦ inr (elim lost [
          | inl q ↦ inl (m.zero_new l p ne q)
          | inr e ↦ inr (m.live_new (lay.map_page l) (lay.count_page p) e ne)
        ])
      ]
    ];
    dirty = λ l p lt q. (m.zero_old l p lt q).1;
    hung = λ l p lt q. m.one_old l p lt q;
    in_range = λ l p stage q. let was = m.queued_from l p stage q in old.lost_name_owes_release.in_range l p was.0 was.1;
  }

  lost_print_ordered : (p : ℕ) → IsData lay p → LostPrint lay v p
  lost_print_ordered p d = record {
    each = λ print n. elim (may_print p print n) [
      | inr q ↦ inl (print_is p ∙ q.1)
      | inl n ↦ elim ((old.lost_print_ordered p d).each print n) [
        | inl same ↦ inl (print_is p ∙ same)
        | inr e ↦ inr (m.edge_new (lay.print_page p) (lay.count_page p) e)
      ]
    ];
    newest = λ print h. elim (cases_eq (lay.print_page p) page) [
      | inl e ↦ inl (print_is p ∙ ap (λ c. lay.print_in c p) (ap w.cached e ∙ sym t.newest_here ∙ ap v.newest (sym e)) ∙ h)
      | inr ne ↦ elim ((old.lost_print_ordered p d).newest print (sym (newest_print_same lay w v p (t.newest_other (lay.print_page p) ne)) ∙ h)) [
        | inl same ↦ inl (print_is p ∙ same)
        | inr e ↦ inr (m.live_new (lay.print_page p) (lay.count_page p) e ne)
      ]
    ];
  }

  pub write_keeps : CountsInvariant lay top v
  write_keeps = record {
    marks_and_edges = marks_and_edges;
    edge_kinds = λ a b h. old.edge_kinds a b (elim h [ inl l ↦ inl (m.live_old a b l).0 | inr r ↦ (m.barred_old a b r).0 ]);
    count_balance = count_balance;
    counts_cover_names = counts_cover_names;
    counts_cover_prints = counts_cover_prints;
    print_needs_count = print_needs_count;
    lost_name_owes_release = lost_name_owes_release;
    lost_print_ordered = lost_print_ordered;
  }

-- a write that ended Taken leaves the marks
pub marks_kept : (lay : Layout) (top : ℕ) (w v : World) (page : ℕ) → CountsInvariant lay top w → w.dirty page ≡ true → KeepsMarks w v → Marks lay w v page
marks_kept lay top w v page old is k = record {
  dirty_old = λ a h. sym (k.dirty a) ∙ h;
  dirty_new = λ a h ne. k.dirty a ∙ h;
  hung_new = λ a h. k.hung a ∙ h;
  clean_other = λ a h. inr (sym (k.dirty a) ∙ h);
  settled_other = λ a d h. (λ e. true≢false (sym is ∙ ap w.dirty (sym e) ∙ sym (k.dirty a) ∙ d), sym (k.dirty a) ∙ d, sym (k.hung a) ∙ h);
  live_old = λ a b h. let l = sym (k.live a b) ∙ h in (l, k.dirty a ∙ old.marks_and_edges.live_before a b l);
  live_new = λ a b h ne. k.live a b ∙ h;
  live_dirty = λ a b h d. k.live a b ∙ h;
  hung_old = λ a h. inl (sym (k.hung a) ∙ h);
  barred_old = λ a b h. let r = sym (k.barred a b) ∙ h in (inr r, k.hung a ∙ old.marks_and_edges.barred_before a b r);
  edge_new = λ a b h. elim h [ inl l ↦ inl (k.live a b ∙ l) | inr r ↦ inr (k.barred a b ∙ r) ];
  queued_same = λ p. rw k.queue;
  zero_old = λ l p lt q. let z = rw k.queue at q in (z, k.dirty (lay.map_page l) ∙ old.lost_name_owes_release.dirty l p lt z);
  zero_new = λ l p ne q. rw k.queue q;
  one_old = λ l p lt q. k.hung (lay.map_page l) ∙ old.lost_name_owes_release.hung l p lt (rw k.queue at q);
  queued_from = λ l p stage q. (stage, rw k.queue at q);
  waits_new = λ l p q. rw k.queue q;
}

-- one that ended Done moves them
module _ (lay : Layout) (top : ℕ) (w v : World) (page : ℕ) (old : CountsInvariant lay top w) (k : MovesMarks lay w v page) where
  dirty_new : (a : ℕ) → w.dirty a ≡ true → a ≢ page → v.dirty a ≡ true
  dirty_new a h ne = k.dirty a ∙ and_from _ _ h (not_from_false _ (ne_eqb a page ne))

  hung_new : (a : ℕ) → w.hung a ≡ true → v.hung a ≡ true
  hung_new a h = k.hung a ∙ or_left _ _ h

  clean_other : (a : ℕ) → v.dirty a ≡ false → (a ≡ page) ⊎ (w.dirty a ≡ false)
  clean_other a h = elim (and_cases _ _ (sym (k.dirty a) ∙ h)) [
    | inl d ↦ inr d
    | inr e ↦ inl (eqb-true a page (not-false _ e))
  ]

  live_parts : (a b : ℕ) → v.live a b ≡ true → (w.live a b ≡ true) × (a ≢ page)
  live_parts a b h = let q = and_parts _ _ (sym (k.live a b) ∙ h) in (q.0, λ e. true≢false (sym (eq-eqb a page e) ∙ not-true _ q.1))

  live_new : (a b : ℕ) → w.live a b ≡ true → a ≢ page → v.live a b ≡ true
  live_new a b h ne = k.live a b ∙ and_from _ _ h (not_from_false _ (ne_eqb a page ne))

  pub marks_moved : Marks lay w v page
  marks_moved = record {
    dirty_old = λ a h. (and_parts _ _ (sym (k.dirty a) ∙ h)).0;
    dirty_new = dirty_new;
    hung_new = hung_new;
    clean_other = clean_other;
    settled_other = λ a d h.
        let q = or_parts _ _ (sym (k.hung a) ∙ h) in
        let ne : a ≢ page = λ e. true≢false (sym (eq-eqb a page e) ∙ q.1) in
        (ne, elim (clean_other a d) [ inl e ↦ absurd (ne e) | inr c ↦ c ], q.0);
    live_old = λ a b h. let q = live_parts a b h in (q.0, dirty_new a (old.marks_and_edges.live_before a b q.0) q.1);
    live_new = live_new;
    live_dirty = λ a b h d. live_new a b h (λ e. true≢false (sym (eq-eqb a page e) ∙ not-true _ (and_parts _ _ (sym (k.dirty a) ∙ d)).1));
    hung_old = λ a h. elim (or_cases _ _ (sym (k.hung a) ∙ h)) [ inl x ↦ inl x | inr e ↦ inr (eqb-true a page e) ];
    barred_old = λ a b h. elim (or_cases _ _ (sym (k.barred a b) ∙ h)) [
      | inl r ↦ (inr r, hung_new a (old.marks_and_edges.barred_before a b r))
      | inr q ↦ let parts = and_parts _ _ q in (inl parts.0, k.hung a ∙ or_right _ _ parts.1)
    ];
    edge_new = λ a b h. elim h [
      | inl l ↦ elim (cases_eq a page) [
        | inl e ↦ inr (k.barred a b ∙ or_right _ _ (and_from _ _ l (eq-eqb a page e)))
        | inr ne ↦ inl (live_new a b l ne)
      ]
      | inr r ↦ inr (k.barred a b ∙ or_left _ _ r)
    ];
    queued_same = λ p. rw k.queue (queued_written lay page w.queue p);
    zero_old = λ l p lt q. let z = written_zero lay page w.queue l p (rw k.queue at q) in (z.0, dirty_new (lay.map_page l) (old.lost_name_owes_release.dirty l p lt z.0) z.1);
    zero_new = λ l p ne q. rw k.queue (written_stays lay page w.queue l p ne q);
    one_old = λ l p lt q. elim (written_from lay page w.queue l p (rw k.queue at q)) [
      | inl o ↦ hung_new (lay.map_page l) (old.lost_name_owes_release.hung l p lt o)
      | inr e ↦ k.hung (lay.map_page l) ∙ or_right _ _ (eq-eqb _ page e)
    ];
    queued_from = λ l p stage q. mapped_from (written_release lay page) (λ r. (refl, refl)) w.queue l p stage (rw k.queue at q);
    waits_new = λ l p q. rw k.queue (elim q [
      | inl z ↦ elim (cases_eq (lay.map_page l) page) [
        | inl e ↦ inr (written_moves lay page w.queue l p e z)
        | inr ne ↦ inl (written_stays lay page w.queue l p ne z)
      ]
      | inr o ↦ inr (written_one lay page w.queue l p o)
    ]);
  }

pub write_taken_keeps : (lay : Layout) (top : ℕ) (w v : World) (page : ℕ) → CountsInvariant lay top w → Taken w v page → KeepsMarks w v → CountsInvariant lay top v
write_taken_keeps lay top w v page old t k = write_keeps lay top w v page old t (marks_kept lay top w v page old t.was_dirty k)

pub write_done_keeps : (lay : Layout) (top : ℕ) (w v : World) (page : ℕ) → CountsInvariant lay top w → Taken w v page → MovesMarks lay w v page → CountsInvariant lay top v
write_done_keeps lay top w v page old t k = write_keeps lay top w v page old t (marks_moved lay top w v page old k)
