-- The small steps of a write to a fresh page are the whole one.
use Rattle.std.proofs.Common.{◌≡◌, inl, inr, ◌+◌, ◌<◌, ℕ, Bool, refl, sym, ap, ◌∙◌, subst, List}
use Rattle.order_model.specs.World.{Layout}
use Rattle.engine_model.specs.Commands.{Gains}
use Rattle.engine_model.specs.Edits.{Ordered}
use Rattle.engine_model.specs.Entries.{Apart}
use Rattle.engine_model.specs.Frames.{Frame, both}
use Rattle.engine_model.specs.Invariant.{EngineInvariant, Moment, known_at}
use Rattle.engine_model.specs.Known.{Free}
use Rattle.engine_model.specs.SmallCommands.{CanNamePage, CanWriteFresh, FillsPage, NamesPage, Writes, fill_reach, page_name_reach, with_fresh_write, with_page_filled}
use Rattle.engine_model.specs.SmallSteps.{pushed}
use Rattle.engine_model.proofs.FilledNamed as named
use Rattle.engine_model.proofs.Frames.{frame_rest, frame_then}
use Rattle.engine_model.proofs.PageFilled.{filled_keeps}
use Rattle.engine_model.proofs.PageNamed.{name_released, named_page_keeps, names_page, page_name_frame}
use Rattle.engine_model.proofs.Quiet.{count_table, data_off, map_table, print_table}

module _ (lay : Layout) (top : ℕ) (sound : Bool) (apart : Apart lay) (m : Moment) (k : EngineInvariant lay top sound m) (l o p : ℕ) (content count print name : List ℕ)
    (x : CanWriteFresh lay top m l o p content count print name) (array : ℕ → List (List ℕ)) (gain : Gains m.array array l content) where
  abbrev filled : Moment
  filled = with_page_filled lay p content count print m

  abbrev done : Moment
  done = with_fresh_write lay l o p content count print name array m

  fill : Frame lay (fill_reach lay p) m filled
  fill = named.fill lay top sound apart m k l o p content count print name x

  fills : FillsPage lay filled p content
  fills = named.fills lay top sound apart m k l o p content count print name x

  free : Free lay m.world p
  free = named.free lay top sound apart m k l o p content count print name x

  can : CanNamePage lay filled.world l o p name
  can = named.can lay top sound apart m k l o p content count print name x

  names : NamesPage lay filled done l o p
  names = names_page lay apart filled l o p name can array

  pub fresh_keeps : EngineInvariant lay top sound done
  fresh_keeps = named_page_keeps lay apart filled l o p name can top sound (filled_keeps lay top sound apart m k p content count print x.fills) array
      (inl (subst (λ y. Gains m.array array l y) (sym fills.holds) gain))

  last : Frame lay (page_name_reach lay l p) filled done
  last = page_name_frame lay apart filled l o p name can array

  pub fresh_frame : Frame lay (both (fill_reach lay p) (page_name_reach lay l p)) m done
  fresh_frame = frame_then lay (fill_reach lay p) (page_name_reach lay l p) m filled done fill last

  queue : done.world.queue ≡ pushed (known_at lay m) l o m.world.queue
  queue = names.queue ∙ ap (pushed (known_at lay m) l o) (fill.queue refl)

  print_first : Ordered done.world (lay.data_page p) (lay.print_page p)
  print_first = let edge = last.marks.live_kept _ _ (fills.data_first.dirty fills.data_dirty) in record { dirty = λ h. edge; hung = λ h. inl edge }

  pub fresh_writes : Writes lay top m done l o p content
  fresh_writes = record {
    renamed = record {
      rest = frame_rest lay (both (fill_reach lay p) (page_name_reach lay l p)) m.world done.world fresh_frame.marks;
      edges = record {
        live = λ a b h. elim (fresh_frame.marks.live_new a b h) [ inl was ↦ inl was | inr new ↦ inr (named.edges lay top sound apart m k l o p content count print name x a b new.0) ];
        barred = λ a b h. elim (fresh_frame.marks.barred_new a b h) [ inl was ↦ inl was | inr new ↦ inr (named.barriers lay top sound apart m k l o p content count print name x a b new.0) ];
      };
      no_cycle = x.opens;
      released = name_released lay m done l o x.in_range x.was x.none_or_data (λ j lt ne. fresh_frame.entries.names j lt (ne, tt)) names.dirty queue;
      is_data = x.fills.is_data;
      other = can.other;
      name = names.name;
      below_top = subst (λ n. n < top) (sym free.cached) x.fills.below_top;
      count_here = last.entries.counts p x.fills.is_data tt ∙ fills.counted ∙ ap (λ n. n + 1) (sym free.cached);
      count_other = λ q d ne. fresh_frame.entries.counts q d (ne, tt);
      print_other = λ q d ne. fresh_frame.entries.prints q d (ne, tt);
      print_here = inr (lay.finger content, record { was_free = x.fills.free; first_count = last.marks.live_kept _ _ fills.count_first });
      counted = names.count_first;
    };
    page = record {
      data_other = λ q d ne. (
        fresh_frame.entries.contents q d (ne, tt),
        fresh_frame.marks.dirty_new (lay.data_page q) (
          apart.data_data q p d x.fills.is_data ne,
          (
            data_off lay _ q apart (count_table lay p x.fills.is_data) d,
            (data_off lay _ q apart (print_table lay p x.fills.is_data) d, (data_off lay _ q apart (map_table lay l x.in_range) d, tt)),
          ),
        ),
      );
      data_here = last.entries.contents p x.fills.is_data tt ∙ fills.holds;
      chosen = inl (x.fills.free, last.marks.dirty_kept _ fills.data_dirty, last.entries.prints p x.fills.is_data tt ∙ fills.printed, print_first);
      ordered = names.data_first;
      well_formed = fresh_keeps.contents.well_formed.cached;
      first_page = (fresh_keeps.contents.first_page.clean, fresh_frame.marks.clean 0 fresh_keeps.contents.first_page.clean);
    };
    gains = gain;
    births = fresh_frame.births;
    pool = inl (free.cached, λ q. refl);
  }
