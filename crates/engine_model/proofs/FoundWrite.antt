-- The small steps of a write to a page that holds the content are the whole one.
use Rattle.std.proofs.Common.{◌≡◌, inl, inr, ℕ, Bool, false, arith, refl, sym, ap, ◌∙◌, subst, List, ◌+◌}
use Rattle.order_model.specs.World.{IsData, Layout}
use Rattle.engine_model.specs.Commands.{Gains, Mandatory}
use Rattle.engine_model.specs.Entries.{Apart, cached_count, cached_names}
use Rattle.engine_model.specs.Frames.{Frame, IsEdgeOf, both, count_reach, mark_reach}
use Rattle.engine_model.specs.Invariant.{EngineInvariant, Moment}
use Rattle.engine_model.specs.SmallCommands.{CanNamePage, CanWriteFound, NamesPage, Writes, page_name_reach, raise_reach, with_found_write, with_page_raised}
use Rattle.engine_model.specs.SmallRuns.{in_state}
use Rattle.engine_model.specs.SmallSteps.{touched}
use Rattle.engine_model.proofs.Frames.{counted_frame, frame_rest, frame_then, told_same, touched_frame}
use Rattle.engine_model.proofs.PageNamed.{name_released, named_page_keeps, names_page, page_name_frame}
use Rattle.engine_model.proofs.Puts.{sets_name_on}
use Rattle.engine_model.proofs.Quiet.{count_table, data_off, map_table, put_here, raised_keeps, touched_here, touched_keeps}
use Rattle.engine_model.proofs.Views.{names_by}

module _ (lay : Layout) (top : ℕ) (sound : Bool) (apart : Apart lay) (m : Moment) (k : EngineInvariant lay top sound m) (l o p : ℕ) (content count name : List ℕ)
    (x : CanWriteFound lay top m.world l o p content count name) (array : ℕ → List (List ℕ)) (gain : Gains m.array array l content) where
  abbrev marked : Moment
  marked = in_state (touched (lay.count_page p) m.world) m

  abbrev raised : Moment
  raised = with_page_raised lay p count m

  abbrev done : Moment
  done = with_found_write lay l o p count name array m

  raised_keep : EngineInvariant lay top sound raised
  raised_keep = raised_keeps lay top sound apart marked (touched_keeps lay top sound apart m k (lay.count_page p) (count_table lay p x.is_data)) p count
      (record { is_data = x.is_data; sets = x.sets_count; below_top = x.below_top; dirty = touched_here m.world (lay.count_page p); counted_or_fresh = inl x.counted }) m.pool (inr (x.counted, λ q. refl))

  raise : Frame lay (raise_reach lay p) m raised
  raise = frame_then lay (mark_reach (lay.count_page p)) (count_reach p false) m marked raised (touched_frame lay apart m (lay.count_page p))
      (counted_frame lay apart marked p (cached_count lay m.world p + 1) count marked.world.queue m.pool false (λ h. refl) x.is_data x.sets_count (touched_here m.world (lay.count_page p)) (told_same m.pool))

  count_raised : cached_count lay raised.world p ≡ cached_count lay m.world p + 1
  count_raised = ap (λ y. lay.count_in y p) (put_here marked.world (lay.count_page p) count) ∙ x.sets_count.here

  can : CanNamePage lay raised.world l o p name
  can = record {
    in_range = x.in_range;
    was = raise.entries.names l x.in_range tt ∙ x.was;
    none_or_data = x.none_or_data;
    is_data = x.is_data;
    other = x.other;
    sets = sets_name_on lay (raise_reach lay p) m.world.cached raised.world.cached raise.entries refl name l p x.sets;
    dirty = touched_here m.world (lay.count_page p);
    spare =
        let enough = (k.counts.count_balance p x.is_data).enough in
        let names : cached_names lay raised.world p ≡ cached_names lay m.world p = names_by lay m.world raised.world (λ j lt. raise.entries.names j lt tt) p in
        let more = count_raised in
        omega arith;
    opens = x.opens;
  }

  named : NamesPage lay raised done l o p
  named = names_page lay apart raised l o p name can array

  last : Frame lay (page_name_reach lay l p) raised done
  last = page_name_frame lay apart raised l o p name can array

  pub found_keeps : EngineInvariant lay top sound done
  found_keeps = named_page_keeps lay apart raised l o p name can top sound raised_keep array
      (inl (subst (λ y. Gains m.array array l y) (sym (raise.entries.contents p x.is_data tt ∙ x.holds)) gain))

  pub found_frame : Frame lay (both (raise_reach lay p) (page_name_reach lay l p)) m done
  found_frame = frame_then lay (raise_reach lay p) (page_name_reach lay l p) m raised done raise last

  edges : (a b : ℕ) → IsEdgeOf a b (page_name_reach lay l p).live → Mandatory lay m.world l p a b
  edges a b (inl e) = (inr e.0, inl e.1)
  edges a b (inr (inl e)) = (inl e.0, inl e.1)
  edges a b (inr (inr e)) = absurd e

  barriers : (a b : ℕ) → IsEdgeOf a b (page_name_reach lay l p).barred → Mandatory lay m.world l p a b
  barriers a b (inl e) = (inl e.0, inl e.1)
  barriers a b (inr e) = absurd e

  dirty_same : (q : ℕ) → IsData lay q → done.world.dirty (lay.data_page q) ≡ m.world.dirty (lay.data_page q)
  dirty_same q d = found_frame.marks.dirty_new (lay.data_page q) (data_off lay _ q apart (count_table lay p x.is_data) d, (data_off lay _ q apart (map_table lay l x.in_range) d, tt))

  pub found_writes : Writes lay top m done l o p content
  found_writes = record {
    renamed = record {
      rest = frame_rest lay (both (raise_reach lay p) (page_name_reach lay l p)) m.world done.world found_frame.marks;
      edges = record {
        live = λ a b h. elim (found_frame.marks.live_new a b h) [ inl was ↦ inl was | inr new ↦ inr (edges a b new.0) ];
        barred = λ a b h. elim (found_frame.marks.barred_new a b h) [ inl was ↦ inl was | inr new ↦ inr (barriers a b new.0) ];
      };
      no_cycle = x.opens;
      released = name_released lay m done l o x.in_range x.was x.none_or_data (λ j lt ne. found_frame.entries.names j lt (ne, tt)) named.dirty named.queue;
      is_data = x.is_data;
      other = x.other;
      name = named.name;
      below_top = x.below_top;
      count_here = last.entries.counts p x.is_data tt ∙ count_raised;
      count_other = λ q d ne. found_frame.entries.counts q d (ne, tt);
      print_other = λ q d ne. found_frame.entries.prints q d tt;
      print_here = inl (found_frame.entries.prints p x.is_data tt);
      counted = named.count_first;
    };
    page = record {
      data_other = λ q d ne. (found_frame.entries.contents q d tt, dirty_same q d);
      data_here = found_frame.entries.contents p x.is_data tt ∙ x.holds;
      chosen = inr (x.counted, x.holds, dirty_same p x.is_data, found_frame.entries.prints p x.is_data tt);
      ordered = named.data_first;
      well_formed = found_keeps.contents.well_formed.cached;
      first_page = (found_keeps.contents.first_page.clean, found_frame.marks.clean 0 found_keeps.contents.first_page.clean);
    };
    gains = gain;
    births = found_frame.births;
    pool = inr (x.counted, λ q. refl);
  }
