-- A free page gets its content, its count and its print.
use Rattle.std.proofs.Common.{◌≡◌, inl, inr, ◌+◌, ◌<◌, ℕ, Bool, true, false, arith, refl, sym, ap, ◌∙◌, subst, List, Option, Some, None}
use Rattle.std.proofs.lemmas.Bool.{or_left, or_right}
use Rattle.order_model.specs.Pool.{after_take}
use Rattle.order_model.specs.World.{IsData, Layout, queued}
use Rattle.engine_model.specs.Births.{has_print}
use Rattle.engine_model.specs.Entries.{Apart, EdgeKind, cached_count, cached_names, cached_print}
use Rattle.engine_model.specs.Frames.{Frame, both, content_reach, count_reach, edge_reach, live_reach, mark_reach, print_reach}
use Rattle.engine_model.specs.Invariant.{EngineInvariant, Moment}
use Rattle.engine_model.specs.Known.{Free}
use Rattle.engine_model.specs.SmallCommands.{CanFill, FillsPage, fill_reach, ready_to_print, with_page_counted, with_page_filled}
use Rattle.engine_model.specs.SmallRuns.{in_state}
use Rattle.engine_model.specs.SmallSteps.{CanPrint, CanRaise, SetsCount, SetsPrint, ordered, placed, touched}
use Rattle.engine_model.proofs.Frames.{after_marks, after_ordered, by_marks, counted_frame, edge_here, frame_after, frame_then, ordered_frame, placed_frame, printed_frame, take_told, touched_frame}
use Rattle.engine_model.proofs.NewEdges.{data_open}
use Rattle.engine_model.proofs.Puts.{sets_count_on, sets_print_on}
use Rattle.engine_model.proofs.Quiet.{count_table, either_keeps, ordered_keeps, placed_keeps, print_table, put_here, put_other, raised_keeps, touched_here, touched_keeps}
use Rattle.engine_model.proofs.Schedule.{tells}
use Rattle.engine_model.proofs.SetPrints.{printed_keeps}
use Rattle.engine_model.proofs.Views.{names_by}

-- a page with count 0 has no print
pub no_print : (lay : Layout) (top : ℕ) (sound : Bool) (m : Moment) (p : ℕ) → EngineInvariant lay top sound m → IsData lay p → cached_count lay m.world p ≡ 0 → cached_print lay m.world p ≡ None
no_print lay top sound m p k d zero = go (cached_print lay m.world p) refl
  where
    go : (print : Option (List ℕ)) → cached_print lay m.world p ≡ print → cached_print lay m.world p ≡ None
    go None e = e
    go (Some x) e = absurd (let pos = k.counts.print_needs_count p x d e in omega arith)

module _ (lay : Layout) (top : ℕ) (sound : Bool) (apart : Apart lay) (m : Moment) (k : EngineInvariant lay top sound m) (p : ℕ) (content count print : List ℕ)
    (x : CanFill lay top m p content count print) where
  abbrev K : ℕ
  K = lay.count_page p

  abbrev F : ℕ
  F = lay.print_page p

  abbrev D : ℕ
  D = lay.data_page p

  abbrev dp : IsData lay p
  dp = x.is_data

  abbrev put_in : Moment
  put_in = in_state (placed D content m.world) m

  abbrev counting : Moment
  counting = in_state (touched K put_in.world) m

  abbrev marked : Moment
  marked = in_state (touched F counting.world) m

  abbrev counted : Moment
  counted = with_page_counted lay p content count m

  abbrev first : Moment
  first = in_state (ordered K F counted.world) counted

  abbrev ready : Moment
  ready = ready_to_print lay p counted

  abbrev done : Moment
  done = with_page_filled lay p content count print m

  free : Free lay m.world p
  free = (tells lay top sound m k).free p dp x.free

  -- what the first three steps leave
  marked_frame : Frame lay (both (content_reach lay p) (both (mark_reach K) (mark_reach F))) m marked
  marked_frame = frame_then lay (content_reach lay p) (both (mark_reach K) (mark_reach F)) m put_in marked (placed_frame lay apart m p content dp)
      (frame_then lay (mark_reach K) (mark_reach F) put_in counting marked (touched_frame lay apart put_in K) (touched_frame lay apart counting F))

  marked_keeps : EngineInvariant lay top sound marked
  marked_keeps = touched_keeps lay top sound apart counting (touched_keeps lay top sound apart put_in (placed_keeps lay top sound apart m k p content dp free) K (count_table lay p dp)) F (print_table lay p dp)

  zero : cached_count lay marked.world p ≡ 0
  zero = marked_frame.entries.counts p dp tt ∙ free.cached

  sets_count : SetsCount lay (marked.world.cached K) count p 1
  sets_count = sets_count_on lay (both (content_reach lay p) (both (mark_reach K) (mark_reach F))) m.world.cached marked.world.cached marked_frame.entries refl count p 1 x.sets_count

  count_marked : marked.world.dirty K ≡ true
  count_marked = or_left _ _ (touched_here put_in.world K)

  data_marked : marked.world.dirty D ≡ true
  data_marked = or_left _ _ (or_left _ _ (touched_here m.world D))

  can_raise : CanRaise lay top marked.world p count
  can_raise = record {
    is_data = dp;
    sets = subst (λ n. SetsCount lay (marked.world.cached K) count p (n + 1)) (sym zero) sets_count;
    below_top = subst (λ n. n < top) (sym zero) x.below_top;
    dirty = count_marked;
    counted_or_fresh = inr data_marked;
  }

  counted_keeps : EngineInvariant lay top sound counted
  counted_keeps = raised_keeps lay top sound apart marked marked_keeps p count can_raise (after_take p m.pool) (inl (zero, λ q. refl))

  first_kind : EdgeKind lay K F
  first_kind = inl (inr (p, dp, refl), inr (p, dp, refl))

  data_kind : EdgeKind lay D F
  data_kind = inl (inl (p, dp, refl), inr (p, dp, refl))

  first_keeps : EngineInvariant lay top sound first
  first_keeps = ordered_keeps lay top sound apart counted counted_keeps K F first_kind (touched_here counting.world F) count_marked x.opens

  ready_keeps : EngineInvariant lay top sound ready
  ready_keeps = either_keeps lay top sound apart first first_keeps D F data_kind (touched_here counting.world F)
      (λ h. data_open lay first.world p F apart first_keeps.counts.edge_kinds dp (print_table lay p dp))

  ready_frame : Frame lay (both (content_reach lay p) (both (mark_reach K) (both (mark_reach F) (both (count_reach p false) (both (live_reach K F) (edge_reach D F)))))) m ready
  ready_frame = frame_then lay (both (content_reach lay p) (both (mark_reach K) (mark_reach F))) (both (count_reach p false) (both (live_reach K F) (edge_reach D F))) m marked ready marked_frame
      (frame_then lay (count_reach p false) (both (live_reach K F) (edge_reach D F)) marked counted ready
      (counted_frame lay apart marked p 1 count marked.world.queue (after_take p m.pool) false (λ h. refl) dp sets_count count_marked (take_told p m.pool))
      (frame_then lay (live_reach K F) (edge_reach D F) counted first ready (ordered_frame lay apart counted K F count_marked (touched_here counting.world F))
      (frame_after lay apart first D F (touched_here counting.world F))))

  count_ready : cached_count lay ready.world p ≡ 1
  count_ready = by_marks first.world D F ℕ (λ w. cached_count lay w p) refl refl ∙ ap (λ y. lay.count_in y p) (put_here marked.world K count) ∙ sets_count.here

  content_ready : ready.world.cached D ≡ content
  content_ready = by_marks first.world D F (List ℕ) (λ w. w.cached D) refl refl
      ∙ put_other marked.world K count D (λ e. apart.table_data K p (count_table lay p dp) dp (sym e)) ∙ put_here (touched D m.world) D content

  print_ready : cached_print lay ready.world p ≡ None
  print_ready = ready_frame.entries.prints p dp tt ∙ no_print lay top sound m p k dp free.cached

  sets_print : SetsPrint lay (ready.world.cached F) print p (Some (lay.finger content))
  sets_print = sets_print_on lay (both (content_reach lay p) (both (mark_reach K) (both (mark_reach F) (both (count_reach p false) (both (live_reach K F) (edge_reach D F))))))
      m.world.cached ready.world.cached ready_frame.entries refl print p (Some (lay.finger content)) x.sets_print

  first_edge : ready.world.live K F ≡ true
  first_edge = (after_marks first.world D F (touched_here counting.world F)).live_kept K F (or_right _ _ (edge_here K F))

  print_marked : ready.world.dirty F ≡ true
  print_marked = (after_marks first.world D F (touched_here counting.world F)).dirty_kept F (touched_here counting.world F)

  can_print : CanPrint lay ready.world p print (lay.finger content)
  can_print = record {
    is_data = dp;
    sets = sets_print;
    dirty = print_marked;
    counted = let one = count_ready in omega arith;
    had_none = print_ready;
    count_first = inl first_edge;
    data_first = after_ordered first.world D F;
    is_true = ap lay.finger (sym content_ready);
  }

  pub filled_keeps : EngineInvariant lay top sound done
  filled_keeps = printed_keeps lay top sound apart ready ready_keeps p print (lay.finger content) can_print

  last_frame : Frame lay (print_reach p) ready done
  last_frame = printed_frame lay apart ready p 0 1 print (Some (lay.finger content)) dp sets_print print_marked (ap has_print print_ready) refl

  pub filled_frame : Frame lay (fill_reach lay p) m done
  filled_frame = frame_then lay (both (content_reach lay p) (both (mark_reach K) (both (mark_reach F) (both (count_reach p false) (both (live_reach K F) (edge_reach D F)))))) (print_reach p) m ready done
      ready_frame last_frame

  pub fills_page : FillsPage lay done p content
  fills_page = record {
    counted = count_done;
    printed = ap (λ y. lay.print_in y p) (put_here ready.world F print) ∙ sets_print.here;
    holds = last_frame.entries.contents p dp tt ∙ content_ready;
    data_dirty = (after_marks first.world D F (touched_here counting.world F)).dirty_kept D data_marked;
    count_dirty = (after_marks first.world D F (touched_here counting.world F)).dirty_kept K count_marked;
    count_first = first_edge;
    data_first = let o = after_ordered first.world D F in record { dirty = o.dirty; hung = o.hung };
    spare =
        let none = (k.counts.count_balance p dp).enough in
        let count = free.cached in
        let names : cached_names lay done.world p ≡ cached_names lay m.world p = names_by lay m.world done.world (λ l lt. filled_frame.entries.names l lt tt) p in
        let queue : queued done.world.queue p ≡ queued m.world.queue p = ap (λ rs. queued rs p) (filled_frame.queue refl) in
        let one = count_done in
        omega arith;
  }
    where
      count_done : cached_count lay done.world p ≡ 1
      count_done = last_frame.entries.counts p dp tt ∙ count_ready
