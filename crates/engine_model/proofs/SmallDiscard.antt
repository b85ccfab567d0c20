-- The small steps of a discard are the whole one.
use Rattle.std.proofs.Common.{inl, inr, ℕ, Bool, arith, refl, ap, ◌∙◌, List}
use Rattle.order_model.specs.World.{Layout, World}
use Rattle.engine_model.specs.Commands.{Gains}
use Rattle.engine_model.specs.Entries.{Apart}
use Rattle.engine_model.specs.Frames.{Frame, both, mark_reach, name_reach}
use Rattle.engine_model.specs.Invariant.{EngineInvariant, Moment}
use Rattle.engine_model.specs.SmallCommands.{CanDiscard, Discards, with_discard}
use Rattle.engine_model.specs.SmallRuns.{in_state}
use Rattle.engine_model.specs.SmallSteps.{CanName, touched}
use Rattle.engine_model.proofs.Frames.{frame_rest, frame_then, named_frame, touched_frame}
use Rattle.engine_model.proofs.PageNamed.{name_released}
use Rattle.engine_model.proofs.Quiet.{data_off, map_table, put_here, touched_here, touched_keeps}
use Rattle.engine_model.proofs.SetNames.{named_keeps}

-- what the second step asks, and what both leave
emptied_name : (lay : Layout) (w : World) (l o : ℕ) (c : List ℕ) → CanDiscard lay w l o c → CanName lay (touched (lay.map_page l) w) l o 0 c
emptied_name lay w l o c x = record {
  in_range = x.in_range;
  was = x.was;
  none_or_data = inr x.is_data;
  other = λ e. omega (arith, e, x.is_data);
  sets = x.sets;
  dirty = touched_here w (lay.map_page l);
  backed = inl refl;
}

pub discard_frame : (lay : Layout) → Apart lay → (m : Moment) (l o : ℕ) (c : List ℕ) → CanDiscard lay m.world l o c → (array : ℕ → List (List ℕ))
    → Frame lay (both (mark_reach (lay.map_page l)) (name_reach l)) m (with_discard lay l o c array m)
discard_frame lay apart m l o c x array = frame_then lay (mark_reach (lay.map_page l)) (name_reach l) m (in_state (touched (lay.map_page l) m.world) m) (with_discard lay l o c array m)
    (touched_frame lay apart m (lay.map_page l)) (named_frame lay apart (in_state (touched (lay.map_page l) m.world) m) l o 0 c array (emptied_name lay m.world l o c x))

module _ (lay : Layout) (top : ℕ) (sound : Bool) (apart : Apart lay) (m : Moment) (k : EngineInvariant lay top sound m) (l o : ℕ) (c : List ℕ) (x : CanDiscard lay m.world l o c)
    (array : ℕ → List (List ℕ)) (gain : Gains m.array array l lay.zero_block) where
  abbrev ready : Moment
  ready = in_state (touched (lay.map_page l) m.world) m

  abbrev done : Moment
  done = with_discard lay l o c array m

  frame : Frame lay (both (mark_reach (lay.map_page l)) (name_reach l)) m done
  frame = discard_frame lay apart m l o c x array

  pub discard_keeps : EngineInvariant lay top sound done
  discard_keeps = named_keeps lay top sound apart ready (touched_keeps lay top sound apart m k (lay.map_page l) (map_table lay l x.in_range)) l o 0 c (emptied_name lay m.world l o c x) array (inl gain)

  pub discards : Discards lay m done l o
  discards = record {
    discarded = record {
      rest = frame_rest lay (both (mark_reach (lay.map_page l)) (name_reach l)) m.world done.world frame.marks;
      edges = record {
        live = λ a b h. elim (frame.marks.live_new a b h) [ inl was ↦ inl was | inr new ↦ absurd new.0 ];
        barred = λ a b h. elim (frame.marks.barred_new a b h) [ inl was ↦ inl was | inr new ↦ absurd new.0 ];
      };
      released = name_released lay m done l o x.in_range x.was (inr x.is_data) (λ j lt ne. frame.entries.names j lt (ne, tt)) (touched_here m.world (lay.map_page l)) refl;
      had = x.is_data.0;
      name = ap (λ y. lay.name_in y l) (put_here ready.world (lay.map_page l) c) ∙ x.sets.here;
      counts = λ q d. frame.entries.counts q d tt;
      prints = λ q d. frame.entries.prints q d tt;
    };
    data_kept = record {
      pages = λ q d. (frame.entries.contents q d tt, frame.marks.dirty_new (lay.data_page q) (data_off lay _ q apart (map_table lay l x.in_range) d, tt));
      well_formed = discard_keeps.contents.well_formed.cached;
      first_page = (discard_keeps.contents.first_page.clean, frame.marks.clean 0 discard_keeps.contents.first_page.clean);
    };
    gains = gain;
    births = frame.births;
    pool = frame.pool refl;
  }
