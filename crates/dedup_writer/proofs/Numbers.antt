-- The numbers of a store whose tables are in step with its device are those of the device's pages.
use Rattle.std.proofs.Common.{◌≡◌, inl, inr, ℕ, ◌+◌, ◌-◌, ◌<◌, ◌≤◌, ◌==◌, not, List, [], ◌∷◌, Some, refl, sym, ◌∙◌, ap, subst, arith, slice_get}
use Rattle.page_device.specs.Block.{Block}
use Rattle.page_device.specs.Disk.{DeviceState, IsImage, at_rest, newest}
use Rattle.page_device.specs.Images.{image_at_rest}
use Rattle.page_device.specs.Possible.{newest_at_rest, newest_is_image}
use Rattle.page_device.specs.Meaning.{Meaning}
use Rattle.page_device.specs.Moments.{EachImage}
use Rattle.page_layout.specs.Numbers.{entry_of}
use Rattle.page_layout.specs.Shape.{ShapeView, map_pages, map_place, count_place, count_page}
use Rattle.page_layout.specs.Tables.{page_of, shape_of, map_of, count_of}
use Rattle.trace_text.specs.declared.reply.Stat.{Stat}
use Rattle.array_model.specs.Counting.{count_below, live_of, counted_of, mapped_of}
use Rattle.array_model.proofs.CountingLemmas.{count_below-same, none_counted, sum_below-same}
use Rattle.array_model.specs.Images.{Mode, EachPage, block_of, stat_of, waste_of}
use Rattle.array_model.specs.Array.{BlockArray, IsAmong, last, flushed}
use Rattle.dedup_writer.specs.Core.{CachedTables, CoreView, shape_in, stat_in, map_index, count_index, cached_map, cached_count, is_pending}
use Rattle.dedup_writer.specs.Stands.{StandsFor, IsInStep}
use Rattle.dedup_writer.specs.Calls.{AllCounted}
use Rattle.dedup_writer.proofs.Places.{number_index}
use Rattle.dedup_writer.proofs.GoodImages.{shape_is, reads_allowed}
use Rattle.dedup_writer.proofs.Settled.{stands_flushed}

-- a state at rest has one image
pub only_image : (s : DeviceState) (image : List Block) → s ≡ at_rest s.fixed → IsImage s image → image ≡ newest s
only_image s image rest is = image_at_rest s.fixed image (subst (λ (x : DeviceState). IsImage x image) rest is) ∙ sym (newest_at_rest s rest)

module _ (mode : Mode) (core : CoreView) (d : Meaning) (a : BlockArray) (sf : StandsFor mode core d a) (was : IsInStep core d) where
  abbrev image : List Block
  image = newest d.state

  abbrev shape : ShapeView
  shape = core.tables.shape

  is_fixed : image ≡ d.state.fixed
  is_fixed = newest_at_rest d.state was.rest

  pub shape_told : shape_of image ≡ shape
  shape_told = shape_is sf.stands.uses d.state core.tables a sf.stands.stands image (newest_is_image d.state)

  map_told : (block : ℕ) → block < shape.blocks → cached_map core.tables block ≡ map_of image block
  map_told block lt = ap (λ (b : Block). entry_of b (map_place block)) (was.cached.maps_are (map_index block) (number_index block shape.blocks lt) ∙ ap (λ (l : List Block). page_of l (1 + map_index block)) (sym is_fixed))

  count_told : (p : ℕ) → 1 ≤ p → p ≤ shape.pages → cached_count core.tables p ≡ count_of image p
  count_told p one le = ap (λ (b : Block). entry_of b (count_place p)) (was.cached.counts_are (count_index p) (number_index (p - 1) shape.pages (omega (arith, one, le)))
      ∙ ap (λ (l : List Block). page_of l (count_page shape p)) (sym is_fixed) ∙ ap (λ (sh : ShapeView). page_of image (count_page sh p)) (sym shape_told))

  count_next : (k : ℕ) → k < shape.pages → cached_count core.tables (k + 1) ≡ count_of image (k + 1)
  count_next k lt = count_told (k + 1) (omega arith) (omega (arith, lt))

  live_told : live_of (cached_count core.tables) shape.pages ≡ live_of (count_of image) (shape_of image).pages
  live_told = count_below-same (λ k. not (cached_count core.tables (k + 1) == 0)) (λ k. not (count_of image (k + 1) == 0)) shape.pages (λ k lt. ap (λ (n : ℕ). not (n == 0)) (count_next k lt))
      ∙ ap (λ (sh : ShapeView). live_of (count_of image) sh.pages) (sym shape_told)

  pub waste_told : (stat_in core).waste ≡ waste_of image
  waste_told =
      let counted : counted_of (cached_count core.tables) shape.pages ≡ counted_of (count_of image) (shape_of image).pages =
      sum_below-same (λ k. cached_count core.tables (k + 1)) (λ k. count_of image (k + 1)) shape.pages count_next ∙ ap (λ (sh : ShapeView). counted_of (count_of image) sh.pages) (sym shape_told) in
      let mapped : mapped_of (cached_map core.tables) shape.blocks ≡ mapped_of (map_of image) (shape_of image).blocks =
      count_below-same (λ block. not (cached_map core.tables block == 0)) (λ block. not (map_of image block == 0)) shape.blocks (λ block lt. ap (λ (n : ℕ). not (n == 0)) (map_told block lt))
      ∙ ap (λ (sh : ShapeView). mapped_of (map_of image) sh.blocks) (sym shape_told) in
      ap (λ (n : ℕ). n - mapped_of (cached_map core.tables) shape.blocks) counted ∙ ap (λ (n : ℕ). counted_of (count_of image) (shape_of image).pages - n) mapped

  -- nothing is pending
  clean_told : (stat_in core).dirty ≡ 0
  clean_told = none_counted (is_pending core.tables) (map_pages shape) was.clean

  pub stat_told : stat_in core ≡ stat_of image
  stat_told =
      let told : ℕ → ℕ → ℕ → Stat = λ (live waste dirty : ℕ). record { live = live; waste = waste; postponed = 0; dirty = dirty } in
      ap (λ (n : ℕ). told n (stat_in core).waste (stat_in core).dirty) live_told
      ∙ ap (λ (n : ℕ). told (live_of (count_of image) (shape_of image).pages) n (stat_in core).dirty) waste_told
      ∙ ap (λ (n : ℕ). told (live_of (count_of image) (shape_of image).pages) (waste_of image) n) clean_told

  -- a data page that is counted is counted in each image that a crash may leave
  pub stored_told : AllCounted core → EachImage (λ i. EachPage i (λ p. 1 ≤ count_of i p)) d.state
  stored_told counted i is = subst (λ (j : List Block). EachPage j (λ p. 1 ≤ count_of j p)) (sym (only_image d.state i was.rest is))
      (λ p one le. let in_range : p ≤ shape.pages = subst (λ (sh : ShapeView). p ≤ sh.pages) shape_told le in omega (arith, counted p one in_range, count_told p one in_range))

  among_only : (content only : Block) → IsAmong content (only ∷ []) → content ≡ only
  unfolding IsAmong
  among_only content only (inl same) = same
  among_only content only (inr none) = absurd none

  -- each block reads its last content
  pub reads_last : (block : ℕ) → block < shape.blocks → block_of image block ≡ last a block
  reads_last block lt = among_only (block_of image block) (last a block)
      (reads_allowed sf.stands.uses d.state core.tables (flushed a) (stands_flushed sf.stands.uses d.state core.tables a was.clean sf.stands.stands) image (newest_is_image d.state) block lt)
