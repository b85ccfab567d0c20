-- The small steps of a correction are the whole one, over a drained state, which they leave drained.
use Rattle.std.proofs.Common.{◌≡◌, ◌⊎◌, inl, inr, ◌<◌, ℕ, Bool, true, false, arith, refl, sym, ap, ◌∙◌, subst, List, Some, None, true≢false, eqb, eqb-true}
use Rattle.std.proofs.lemmas.Bool.{false_from_ne_true, or_left, or_right}
use Rattle.order_model.specs.Paths.{Closes}
use Rattle.order_model.specs.Pool.{after_zeroed}
use Rattle.order_model.specs.World.{Agree, IsData, Layout, Possible, queued}
use Rattle.engine_model.specs.Births.{has_print}
use Rattle.engine_model.specs.Edits.{Ordered}
use Rattle.engine_model.specs.Entries.{Apart, EdgeKind, NoEdge, cached_count, cached_name, cached_names, cached_print}
use Rattle.engine_model.specs.Frames.{Frame, both, count_reach, live_reach, mark_reach, print_reach}
use Rattle.engine_model.specs.Invariant.{EngineInvariant, Moment, ToldZero}
use Rattle.engine_model.specs.Scan.{CorrectsAt}
use Rattle.engine_model.specs.SmallRuns.{in_state, with_count}
use Rattle.engine_model.specs.SmallScan.{CountRight, CountSet, FixesCount, FixesPrint, IsDrained, PrintCleared, PrintMade, PrintRight, count_fix_reach, print_fix_reach}
use Rattle.engine_model.specs.SmallSteps.{ordered, touched}
use Rattle.engine_model.proofs.Corrected.{sure}
use Rattle.engine_model.proofs.Counting.{count_some}
use Rattle.engine_model.proofs.Frames.{counted_frame, edge_here, frame_rest, frame_same, frame_then, lowered_told, ordered_frame, printed_frame, touched_frame}
use Rattle.engine_model.proofs.Graphs.{way_ends}
use Rattle.engine_model.proofs.Lowered.{recounted_keeps}
use Rattle.engine_model.proofs.Quiet.{count_table, data_off, ordered_keeps, print_table, put_here, touched_here, touched_keeps, touched_other}
use Rattle.engine_model.proofs.SetPrints.{cleared_keeps, printed_keeps}
use Rattle.engine_model.proofs.Views.{names_by, none_some}

module _ (lay : Layout) (top : ℕ) (sound : Bool) (apart : Apart lay) (m : Moment) (k : EngineInvariant lay top sound m) (ready : IsDrained lay m.world) (p : ℕ) (is : IsData lay p) where
  abbrev K : ℕ
  K = lay.count_page p

  abbrev F : ℕ
  F = lay.print_page p

  abbrev D : ℕ
  D = lay.data_page p

  abbrev counting : Moment
  counting = in_state (touched K m.world) m

  abbrev marked : Moment
  marked = in_state (touched F counting.world) counting

  abbrev first : Moment
  first = in_state (ordered F K marked.world) marked

  abbrev printing : Moment
  printing = in_state (touched F m.world) m

  -- nothing leads to the print page, so its edge closes nothing
  open_print : Closes m.world.live F K → ⊥
  open_print (inl e) = apart.count_print p p is is (sym e)
  open_print (inr way) = let q = way_ends way in true≢false (sym q.1 ∙ (ready.prints q.0 p is).0)

  kind : EdgeKind lay F K
  kind = inr (inr (p, is, refl), (p, is, refl))

  first_keeps : EngineInvariant lay top sound first
  first_keeps = ordered_keeps lay top sound apart marked (touched_keeps lay top sound apart counting (touched_keeps lay top sound apart m k K (count_table lay p is)) F (print_table lay p is))
      F K kind (or_left _ _ (touched_here m.world K)) (touched_here counting.world F) open_print

  -- a page with a name: its block, whose map page is no node
  module _ (named : 0 < cached_names lay m.world p) where
    some : (l : ℕ) × (l < lay.blocks) × (eqb (cached_name lay m.world l) p ≡ true)
    some = count_some lay.blocks (λ l. eqb (cached_name lay m.world l) p) named

    name : cached_name lay m.world some.0 ≡ p
    name = eqb-true _ p some.2

    no_edge : (a : ℕ) → NoEdge m.world a (lay.map_page some.0)
    no_edge a = (
      false_from_ne_true _ (λ h. true≢false (sym (k.counts.marks_and_edges.live_after _ _ h) ∙ (ready.maps some.0 some.1).0)),
      false_from_ne_true _ (λ h. true≢false (sym (k.counts.marks_and_edges.barred_after _ _ h) ∙ (ready.maps some.0 some.1).0)),
    )

    counts_sure : (d : List ℕ) → Possible m.world K d → 0 < lay.count_in d p
    counts_sure = sure lay top m.world k.counts p some.0 is some.1 (inr (name, no_edge K))

    data_settled : Ordered m.world D F
    data_settled = record {
      dirty = λ h. absurd (true≢false (sym ((k.contents.fresh_data_first p is).name_dirty some.0 some.1 name h) ∙ (no_edge D).0));
      hung = λ h. absurd (elim ((k.contents.fresh_data_first p is).name_hung some.0 some.1 name h) [
        | inl l ↦ true≢false (sym l ∙ (no_edge D).0)
        | inr r ↦ true≢false (sym r ∙ (no_edge D).1)
      ]);
    }

    few : 0 < cached_count lay m.world p
    few = let enough = (k.counts.count_balance p is).enough in omega (arith, enough, named)

  -- the print
  print_keeps : (j : Moment) → FixesPrint lay p m j → EngineInvariant lay top sound j
  print_keeps j (PrintRight h e) = subst (EngineInvariant lay top sound) (sym e) k
  print_keeps j (PrintCleared c print none had sets e) = subst (EngineInvariant lay top sound) (sym e) (cleared_keeps lay top sound apart first first_keeps p c print (record {
    is_data = is;
    sets = sets;
    dirty = touched_here counting.world F;
    had = had;
    ordered_or_unborn = inl (or_right _ _ (edge_here F K));
  }))
  print_keeps j (PrintMade c named none sets e) = subst (EngineInvariant lay top sound) (sym e)
      (printed_keeps lay top sound apart printing (touched_keeps lay top sound apart m k F (print_table lay p is)) p c (lay.finger (m.world.cached D)) (record {
        is_data = is;
        sets = sets;
        dirty = touched_here m.world F;
        counted = few named;
        had_none = none;
        count_first = inr (counts_sure named);
        data_first = record {
          dirty = λ h. (data_settled named).dirty (sym off_print ∙ h);
          hung = (data_settled named).hung;
        };
        is_true = refl;
      }))
    where
      off_print : (touched F m.world).dirty D ≡ m.world.dirty D
      off_print = touched_other m.world F D (λ h. apart.table_data F p (print_table lay p is) is (sym h))

  print_frame : (j : Moment) → FixesPrint lay p m j → Frame lay (print_fix_reach lay p) m j
  print_frame j (PrintRight h e) = subst (λ z. Frame lay (print_fix_reach lay p) m z) (sym e) (frame_same lay (print_fix_reach lay p) m)
  print_frame j (PrintCleared c print none had sets e) = subst (λ z. Frame lay (print_fix_reach lay p) m z) (sym e)
      (frame_then lay (mark_reach K) (both (mark_reach F) (both (live_reach F K) (print_reach p))) m counting _ (touched_frame lay apart m K)
      (frame_then lay (mark_reach F) (both (live_reach F K) (print_reach p)) counting marked _ (touched_frame lay apart counting F)
      (frame_then lay (live_reach F K) (print_reach p) marked first _ (ordered_frame lay apart marked F K (touched_here counting.world F) (or_left _ _ (touched_here m.world K)))
      (printed_frame lay apart first p 1 0 c None is sets (touched_here counting.world F) (ap has_print had) refl))))
  print_frame j (PrintMade c named none sets e) = subst (λ z. Frame lay (print_fix_reach lay p) m z) (sym e)
      (frame_then lay (mark_reach K) (both (mark_reach F) (both (live_reach F K) (print_reach p))) m m _ (frame_same lay (mark_reach K) m)
      (frame_then lay (mark_reach F) (both (live_reach F K) (print_reach p)) m printing _ (touched_frame lay apart m F)
      (frame_then lay (live_reach F K) (print_reach p) printing printing _ (frame_same lay (live_reach F K) printing)
      (printed_frame lay apart printing p 0 1 c (Some (lay.finger (m.world.cached D))) is sets (touched_here m.world F) (ap has_print none) refl))))

  print_pool : (j : Moment) → FixesPrint lay p m j → j.pool ≡ m.pool
  print_pool j (PrintRight h e) = ap (λ z. z.pool) e
  print_pool j (PrintCleared c print none had sets e) = ap (λ z. z.pool) e
  print_pool j (PrintMade c named none sets e) = ap (λ z. z.pool) e

  -- a page with no name has no print then
  print_gone : (j : Moment) → FixesPrint lay p m j → cached_names lay m.world p ≡ 0 → cached_print lay j.world p ≡ None
  print_gone j (PrintRight (inl h) e) zero = absurd (omega (arith, h.0, zero))
  print_gone j (PrintRight (inr h) e) zero = ap (λ z. cached_print lay z.world p) e ∙ h.1
  print_gone j (PrintCleared c print none had sets e) zero = ap (λ z. cached_print lay z.world p) e ∙ ap (λ y. lay.print_in y p) (put_here first.world F c) ∙ sets.here
  print_gone j (PrintMade c named none sets e) zero = absurd (omega (arith, named, zero))

  module _ (n j : Moment) (print : FixesPrint lay p m j) (count : FixesCount lay p (cached_names lay m.world p) j n) where
    abbrev counted : Moment
    counted = in_state (touched K j.world) j

    kept_j : EngineInvariant lay top sound j
    kept_j = print_keeps j print

    frame_j : Frame lay (print_fix_reach lay p) m j
    frame_j = print_frame j print

    names_j : cached_names lay j.world p ≡ cached_names lay m.world p
    names_j = names_by lay m.world j.world (λ l lt. frame_j.entries.names l lt tt) p

    count_keeps : FixesCount lay p (cached_names lay m.world p) j n → EngineInvariant lay top sound n
    count_keeps (CountRight h e) = subst (EngineInvariant lay top sound) (sym e) kept_j
    count_keeps (CountSet c pool sets e told) = subst (EngineInvariant lay top sound) (sym e)
        (recounted_keeps lay top sound apart counted (touched_keeps lay top sound apart j kept_j K (count_table lay p is)) p c (cached_names lay m.world p) (record {
          is_data = is;
          sets = sets;
          dirty = touched_here j.world K;
          less =
              let enough = (kept_j.counts.count_balance p is).enough in
              let names = names_j in
              omega arith;
          enough =
              let names = names_j in
              let none : queued j.world.queue p ≡ 0 = ap (λ rs. queued rs p) (frame_j.queue refl ∙ ready.queue) in
              omega arith;
          no_print = print_gone j print;
        }) pool (subst (λ z. ToldZero lay p j z) e told))

    count_frame : FixesCount lay p (cached_names lay m.world p) j n → Frame lay (count_fix_reach lay p) j n
    count_frame (CountRight h e) = subst (λ z. Frame lay (count_fix_reach lay p) j z) (sym e) (frame_same lay (count_fix_reach lay p) j)
    count_frame (CountSet c pool sets e told) = subst (λ z. Frame lay (count_fix_reach lay p) j z) (sym e)
        (frame_then lay (mark_reach K) (count_reach p false) j counted _ (touched_frame lay apart j K)
        (counted_frame lay apart counted p (cached_names lay m.world p) c j.world.queue pool false (λ h. refl) is sets (touched_here j.world K) (lowered_told lay p j (with_count lay p c pool counted) (subst (λ z. ToldZero lay p j z) e told))))

    count_here : FixesCount lay p (cached_names lay m.world p) j n → cached_count lay n.world p ≡ cached_names lay m.world p
    count_here (CountRight h e) = ap (λ z. cached_count lay z.world p) e ∙ h
    count_here (CountSet c pool sets e told) = ap (λ z. cached_count lay z.world p) e ∙ ap (λ y. lay.count_in y p) (put_here counted.world K c) ∙ sets.here

    pub fixed_keeps : EngineInvariant lay top sound n
    fixed_keeps = count_keeps count

    pub fixed_frame : Frame lay (both (print_fix_reach lay p) (count_fix_reach lay p)) m n
    fixed_frame = frame_then lay (print_fix_reach lay p) (count_fix_reach lay p) m j n frame_j (count_frame count)

    count_j : cached_count lay j.world p ≡ cached_count lay m.world p
    count_j = frame_j.entries.counts p is tt

    told_zero : FixesCount lay p (cached_names lay m.world p) j n → ToldZero lay p m n
    told_zero (CountRight h e) = inr (inr (ap (λ z. cached_count lay z.world p) e ∙ count_j), λ q. ap (λ z. z.pool q) e ∙ ap (λ y. y q) (print_pool j print))
    told_zero (CountSet c pool sets e told) = elim told [
      | inl z ↦ inl (z.0, subst (λ y. Agree n.pool (after_zeroed p y)) (print_pool j print) z.1)
      | inr o ↦ inr (elim o.0 [ inl pos ↦ inl pos | inr kept ↦ inr (kept ∙ count_j) ], subst (λ y. Agree n.pool y) (print_pool j print) o.1)
    ]

    print_j : cached_print lay n.world p ≡ cached_print lay j.world p
    print_j = (count_frame count).entries.prints p is tt

    abbrev Rightly : Type 0
    Rightly = ((0 < cached_names lay m.world p) × ((print : List ℕ) × (cached_print lay m.world p ≡ Some print)) × (cached_print lay n.world p ≡ cached_print lay m.world p))
        ⊎ (((cached_names lay m.world p ≡ 0) × (cached_print lay n.world p ≡ None) × ((print : List ℕ) → cached_print lay m.world p ≡ Some print → n.world.live F K ≡ true))
        ⊎ ((0 < cached_names lay m.world p) × (cached_print lay m.world p ≡ None) × (cached_print lay n.world p ≡ Some (lay.finger (n.world.cached D)))))

    print_here : FixesPrint lay p m j → Rightly
    print_here (PrintRight (inl h) e) = inl (h.0, h.1, print_j ∙ ap (λ z. cached_print lay z.world p) e)
    print_here (PrintRight (inr h) e) = inr (inl (h.0, print_j ∙ ap (λ z. cached_print lay z.world p) e ∙ h.1, λ y had. absurd (none_some y (sym h.1 ∙ had))))
    print_here (PrintCleared c y none had sets e) = inr (inl (
      none,
      print_j ∙ print_gone j (PrintCleared c y none had sets e) none,
      λ z h. (count_frame count).marks.live_kept F K (ap (λ z. z.world.live F K) e ∙ or_right _ _ (edge_here F K)),
    ))
    print_here (PrintMade c named none sets e) = inr (inr (
      named,
      none,
      print_j ∙ ap (λ z. cached_print lay z.world p) e ∙ ap (λ y. lay.print_in y p) (put_here printing.world F c) ∙ sets.here ∙ ap (λ y. Some (lay.finger y)) (sym (fixed_frame.entries.contents p is tt)),
    ))

    pub fixed_corrects : CorrectsAt lay m n p
    fixed_corrects = record {
      corrected = record {
        rest = frame_rest lay (both (print_fix_reach lay p) (count_fix_reach lay p)) m.world n.world fixed_frame.marks;
        edges = record {
          live = λ a b h. elim (fixed_frame.marks.live_new a b h) [ inl was ↦ inl was | inr new ↦ inr (elim new.0 [ inl e ↦ e | inr none ↦ absurd none ]) ];
          barred = λ a b h. elim (fixed_frame.marks.barred_new a b h) [ inl was ↦ inl was | inr new ↦ absurd new.0 ];
        };
        is_data = is;
        none_queued = ready.queue;
        no_map_node = ready.maps;
        no_print_edge = ready.prints;
        queue = fixed_frame.queue refl;
        names = λ l lt. fixed_frame.entries.names l lt tt;
        count_here = count_here count;
        count_other = λ q d ne. fixed_frame.entries.counts q d (ne, tt);
        print_other = λ q d ne. fixed_frame.entries.prints q d (ne, tt);
        print_here = print_here print;
      };
      data_kept = record {
        pages = λ q d. (fixed_frame.entries.contents q d tt, fixed_frame.marks.dirty_new (lay.data_page q) (data_off lay K q apart (count_table lay p is) d, (data_off lay F q apart (print_table lay p is) d, (data_off lay K q apart (count_table lay p is) d, tt))));
        well_formed = fixed_keeps.contents.well_formed.cached;
        first_page = (fixed_keeps.contents.first_page.clean, fixed_frame.marks.clean 0 fixed_keeps.contents.first_page.clean);
      };
      array = fixed_frame.array refl;
      births = fixed_frame.births;
      pool = told_zero count;
    }
