-- Tables that are those of the device stay so over a page that was put.
use Rattle.std.proofs.Common.{◌≡◌, ⊎_elim, ℕ, ◌+◌, ◌<◌, ◌≤◌, Bool, true, false, List, [], ◌∷◌, length, refl, sym, ◌∙◌, ap, subst, arith, slice_set, slice_index_or, Result, Ok, Err, is_err}
use Rattle.std.proofs.lemmas.List.{get_or-set_same, get_or-set_other, length-set}
use Rattle.std.proofs.lemmas.Bool.{cases_eq}
use Rattle.page_device.specs.Block.{Block, zero_block}
use Rattle.page_device.specs.declared.error.Failed.{Failed}
use Rattle.page_device.specs.Disk.{DeviceState, at_rest, written, settled}
use Rattle.page_device.specs.Possible.{newest_written, newest_at_rest}
use Rattle.page_device.specs.Meaning.{Meaning, HasCause}
use Rattle.page_device.specs.Faults.{IsCalm}
use Rattle.page_layout.specs.Shape.{ShapeView, map_pages, count_pages, first_count_page, data_page}
use Rattle.page_layout.specs.Tables.{page_of}
use Rattle.dedup_writer.specs.Core.{CachedTables, CoreView, is_pending}
use Rattle.dedup_writer.specs.Stands.{AreCached, IsInStep}
use Rattle.dedup_writer.proofs.Places.{data_page_from, prints_from_counts, data_from_prints}

-- where no fault was counted, a call was done
pub calm_done : (r : Result Unit Failed) (d e : Meaning) → HasCause r d e → IsCalm d e → r ≡ Ok tt
calm_done (Ok _) d e cause calm = refl
calm_done (Err failed) d e cause calm = absurd (omega (arith, cause.failed refl calm.few, calm.same))

-- a page that was put over a device with nothing pending
pub put_rests : (s : DeviceState) (k : ℕ) (block : Block) → s ≡ at_rest s.fixed → settled (written s k block) ≡ at_rest (slice_set s.fixed k block)
put_rests s k block rest = ap at_rest (newest_written s k block ∙ ap (λ (l : List Block). slice_set l k block) (newest_at_rest s rest))

module _ (image maps counts : List Block) (shape : ShapeView) (c : AreCached image shape maps counts) where
  -- a data page
  pub cached_data : (p : ℕ) (content : Block) → AreCached (slice_set image (data_page shape p) content) shape maps counts
  cached_data p content =
      let far = data_page_from shape p in
      let prints = prints_from_counts shape in
      let last = data_from_prints shape in
      record {
        maps_are = λ j lt. c.maps_are j lt ∙ sym (get_or-set_other image (data_page shape p) (1 + j) content zero_block (λ e. omega (arith, e, lt, far, prints, last)));
        counts_are = λ j lt. c.counts_are j lt ∙ sym (get_or-set_other image (data_page shape p) (first_count_page shape + j) content zero_block (λ e. omega (arith, e, lt, far, prints, last)));
      }

  -- a count page, in the cache and on the device
  pub cached_count_page : (i : ℕ) (page : Block) → i < length counts → first_count_page shape + i < length image → AreCached (slice_set image (first_count_page shape + i) page) shape maps (slice_set counts i page)
  cached_count_page i page within on_device = record {
    maps_are = λ j lt. c.maps_are j lt ∙ sym (get_or-set_other image (first_count_page shape + i) (1 + j) page zero_block (λ e. omega (arith, e, lt)));
    counts_are = λ j lt. ⊎_elim
        (λ here. subst (λ (n : ℕ). page_of (slice_set counts i page) n ≡ page_of (slice_set image (first_count_page shape + i) page) (first_count_page shape + n)) (sym here)
        (get_or-set_same counts i page zero_block within ∙ sym (get_or-set_same image (first_count_page shape + i) page zero_block on_device)))
        (λ other. get_or-set_other counts i j page zero_block other ∙ c.counts_are j lt ∙ sym (get_or-set_other image (first_count_page shape + i) (first_count_page shape + j) page zero_block (λ e. other (omega (arith, e)))))
        (cases_eq j i);
  }

  -- a map page
  pub cached_map_page : (i : ℕ) (page : Block) → i < length maps → i < map_pages shape → 1 + i < length image → AreCached (slice_set image (1 + i) page) shape (slice_set maps i page) counts
  cached_map_page i page within in_range on_device = record {
    maps_are = λ j lt. ⊎_elim
        (λ here. subst (λ (n : ℕ). page_of (slice_set maps i page) n ≡ page_of (slice_set image (1 + i) page) (1 + n)) (sym here)
        (get_or-set_same maps i page zero_block within ∙ sym (get_or-set_same image (1 + i) page zero_block on_device)))
        (λ other. get_or-set_other maps i j page zero_block other ∙ c.maps_are j lt ∙ sym (get_or-set_other image (1 + i) (1 + j) page zero_block (λ e. other (omega (arith, e)))))
        (cases_eq j i);
    counts_are = λ j lt. c.counts_are j lt ∙ sym (get_or-set_other image (1 + i) (first_count_page shape + j) page zero_block (λ e. omega (arith, e, in_range)));
  }

-- its flag is taken back
pub flags_clean : (shape : ShapeView) (pending : List Bool) (i : ℕ) → i < length pending → ((j : ℕ) → j < map_pages shape → slice_index_or pending j true ≡ false)
    → (j : ℕ) → j < map_pages shape → slice_index_or (slice_set (slice_set pending i true) i false) j true ≡ false
flags_clean shape pending i within clean j lt = ⊎_elim
    (λ here. subst (λ (n : ℕ). slice_index_or (slice_set (slice_set pending i true) i false) n true ≡ false) (sym here)
    (get_or-set_same (slice_set pending i true) i false true (omega (arith, within, length-set pending i true))))
    (λ other. get_or-set_other (slice_set pending i true) i j false true other ∙ get_or-set_other pending i j true true other ∙ clean j lt)
    (cases_eq j i)

-- The tables are in step with a state.
pub record InStepWith (t : CachedTables) (s : DeviceState) : Type 0 where
  pub rest : s ≡ at_rest s.fixed
  pub cached : AreCached s.fixed t.shape t.maps t.counts
  pub clean : (j : ℕ) → j < map_pages t.shape → is_pending t j ≡ false

pub in_step_with : (core : CoreView) (d : Meaning) → IsInStep core d → InStepWith core.tables d.state
in_step_with core d was = record { rest = was.rest; cached = was.cached; clean = was.clean }

pub in_step_now : (core : CoreView) (d : Meaning) → InStepWith core.tables d.state → IsInStep core d
in_step_now core d is = record { rest = is.rest; cached = is.cached; clean = is.clean }

-- over a state that a page was put to
rests : (t : CachedTables) (s : DeviceState) (image : List Block) → s ≡ at_rest image → AreCached image t.shape t.maps t.counts → ((j : ℕ) → j < map_pages t.shape → is_pending t j ≡ false) → InStepWith t s
rests t s image is cached clean = subst (InStepWith t) (sym is) (record { rest = refl; cached = cached; clean = clean })

module _ (t : CachedTables) (s s' : DeviceState) (was : InStepWith t s) where
  pub step_data : (p : ℕ) (content : Block) → s' ≡ settled (written s (data_page t.shape p) content) → InStepWith t s'
  step_data p content state = rests t s' (slice_set s.fixed (data_page t.shape p) content) (state ∙ put_rests s (data_page t.shape p) content was.rest) (cached_data s.fixed t.maps t.counts t.shape was.cached p content) was.clean

  pub step_count : (i : ℕ) (page : Block) → i < length t.counts → first_count_page t.shape + i < length s.fixed → s' ≡ settled (written s (first_count_page t.shape + i) page) → InStepWith (record t { counts = slice_set t.counts i page }) s'
  step_count i page within on_device state = rests (record t { counts = slice_set t.counts i page }) s' (slice_set s.fixed (first_count_page t.shape + i) page) (state ∙ put_rests s (first_count_page t.shape + i) page was.rest)
      (cached_count_page s.fixed t.maps t.counts t.shape was.cached i page within on_device) was.clean

  pub step_map : (i : ℕ) (page : Block) (r : Result Unit Failed) → r ≡ Ok tt → i < length t.maps → i < map_pages t.shape → i < length t.pending → 1 + i < length s.fixed → s' ≡ settled (written s (1 + i) page)
      → InStepWith (record t { maps = slice_set t.maps i page; pending = slice_set (slice_set t.pending i true) i (is_err r) }) s'
  step_map i page (Ok _) ok within in_range flag on_device state = rests (record t { maps = slice_set t.maps i page; pending = slice_set (slice_set t.pending i true) i false }) s' (slice_set s.fixed (1 + i) page) (state ∙ put_rests s (1 + i) page was.rest)
      (cached_map_page s.fixed t.maps t.counts t.shape was.cached i page within in_range on_device) (flags_clean t.shape t.pending i flag was.clean)
  step_map i page (Err _) ok within in_range flag on_device state = cc
