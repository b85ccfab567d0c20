-- A page that was filled may be named by the block that the write is of, and the edges of both are the mandatory ones.
use Rattle.std.proofs.Common.{◌≡◌, inl, inr, ℕ, Bool, arith, refl, sym, ◌∙◌, List}
use Rattle.order_model.specs.World.{Layout}
use Rattle.engine_model.specs.Entries.{Apart}
use Rattle.engine_model.specs.Frames.{Frame, IsEdgeOf, both}
use Rattle.engine_model.specs.Invariant.{EngineInvariant, Moment}
use Rattle.engine_model.specs.Known.{Free}
use Rattle.engine_model.specs.SmallCommands.{CanNamePage, CanWriteFresh, FillsPage, fill_reach, page_name_reach, with_page_filled}
use Rattle.engine_model.proofs.WriteContents.{name_counted}
use Rattle.engine_model.proofs.PageFilled.{filled_frame, fills_page}
use Rattle.engine_model.proofs.Puts.{sets_name_on}
use Rattle.engine_model.proofs.Schedule.{tells}
use Rattle.engine_model.proofs.Ways.{open_elsewhere}
use Rattle.engine_model.specs.Commands.{Mandatory}

module _ (lay : Layout) (top : ℕ) (sound : Bool) (apart : Apart lay) (m : Moment) (k : EngineInvariant lay top sound m) (l o p : ℕ) (content count print name : List ℕ)
    (x : CanWriteFresh lay top m l o p content count print name) where
  abbrev filled : Moment
  filled = with_page_filled lay p content count print m

  pub fill : Frame lay (fill_reach lay p) m filled
  fill = filled_frame lay top sound apart m k p content count print x.fills

  pub fills : FillsPage lay filled p content
  fills = fills_page lay top sound apart m k p content count print x.fills

  pub free : Free lay m.world p
  free = (tells lay top sound m k).free p x.fills.is_data x.fills.free

  into_print : (a b : ℕ) → IsEdgeOf a b (fill_reach lay p).live → b ≡ lay.print_page p
  into_print a b (inl e) = e.1
  into_print a b (inr (inl e)) = e.1
  into_print a b (inr (inr e)) = absurd e

  pub can : CanNamePage lay filled.world l o p name
  can = record {
    in_range = x.in_range;
    was = fill.entries.names l x.in_range tt ∙ x.was;
    none_or_data = x.none_or_data;
    is_data = x.fills.is_data;
    other = λ e. let pos = name_counted lay top m.world k.counts l p x.in_range x.fills.is_data (x.was ∙ sym e) in let none = free.cached in omega arith;
    sets = sets_name_on lay (fill_reach lay p) m.world.cached filled.world.cached fill.entries refl name l p x.sets;
    dirty = fills.count_dirty;
    spare = fills.spare;
    opens = open_elsewhere m.world.live filled.world.live (lay.print_page p) (λ a b h. elim (fill.marks.live_new a b h) [ inl was ↦ inl was | inr new ↦ inr (into_print a b new.0) ])
        (lay.count_page p) (lay.map_page l) x.fills.opens x.opens;
  }

  -- the edges of a write to a fresh page are the mandatory ones
  pub edges : (a b : ℕ) → IsEdgeOf a b (both (fill_reach lay p) (page_name_reach lay l p)).live → Mandatory lay m.world l p a b
  edges a b (inl e) = (inr e.0, inr (e.1, x.fills.opens))
  edges a b (inr (inl e)) = (inl e.0, inr (e.1, x.fills.opens))
  edges a b (inr (inr (inl e))) = (inr e.0, inl e.1)
  edges a b (inr (inr (inr (inl e)))) = (inl e.0, inl e.1)
  edges a b (inr (inr (inr (inr e)))) = absurd e

  pub barriers : (a b : ℕ) → IsEdgeOf a b (both (fill_reach lay p) (page_name_reach lay l p)).barred → Mandatory lay m.world l p a b
  barriers a b (inl e) = (inl e.0, inr (e.1, x.fills.opens))
  barriers a b (inr (inl e)) = (inl e.0, inl e.1)
  barriers a b (inr (inr e)) = absurd e
