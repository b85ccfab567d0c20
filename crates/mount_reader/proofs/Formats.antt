-- Formatting, call by call.
use Rattle.std.proofs.Common.{◌≡◌, inl, inr, ⊎_elim, ℕ, suc, ◌-◌, ◌<◌, ◌≤◌, true, List, length, replicate, refl, sym, ◌∙◌, ap, subst, arith, slice_get, slice_set, ◌++◌, Some, Result, Ok, Err}
use Rattle.std.proofs.lemmas.Option.{slice_get-get_or, get_or_from_slice_get}
use Rattle.std.proofs.lemmas.List.{get_or-set_same, get_or-set_other}
use Rattle.std.proofs.lemmas.Bool.{cases_eq}
use Rattle.page_device.specs.declared.device.LogEntry.{LogEntry}
use Rattle.page_device.specs.Counts.{Rises}
use Rattle.page_device.specs.Block.{Block, zero_block}
use Rattle.page_device.specs.declared.error.Failed.{Failed}
use Rattle.page_device.specs.Disk.{DeviceState, IsImage, MayHold, WasWritten, newest, written, settled, at_rest, with_room, state_after}
use Rattle.page_device.specs.Possible.{Only, only_put, only_other, only_settled, after_holds, settled_holds, settled_image, length-overlay, newest_written}
use Rattle.page_device.specs.declared.device.LogEntry.{LogEntry}
use Rattle.page_device.specs.Gains.{Gains}
use Rattle.page_device.specs.Meaning.{Meaning, SameKind, OneCall, WriteEntry, FlushEntry, Grows}
use Rattle.page_device.specs.Moments.{EachImage, EachMoment, Leaves, leaves_start, leaves_call, leaves_then}
use Rattle.page_layout.specs.Shape.{ShapeView, IsSuperblock, total, first_data_page, told_shape}
use Rattle.page_layout.specs.Tables.{page_of, shape_of, count_of, IsFresh}
use Rattle.array_model.specs.Counting.{live_of}
use Rattle.dedup_writer.specs.Put.{Puts, PutsPage, refused, flushed}
use Rattle.dedup_writer.proofs.Puts.{IsUsable, usable_after, write_state, done_state, flush_state, flushed_state}
use Rattle.mount_reader.specs.Format.{IsNew, IsUnformatted, IsFormatted, IsOldFrom, MayBePartway, IsLaidOut, HoldsNew, LaysOut, KeepsFrom, IsCleared, Clears, Formats, AreFormat, MakesCalls, with_pages}
use Rattle.mount_reader.proofs.NewImages.{new_is_tight, no_name, uncounted, no_live, no_waste, reads_zeros}

-- a page of an image is one that may be there
held : (s : DeviceState) (image : List Block) → IsImage s image → (k : ℕ) → k < length s.fixed → MayHold s k (page_of image k)
held s image is k lt = is.each k (page_of image k) (slice_get-get_or image k zero_block (omega (arith, lt, is.pages)))

pub only_unformatted : (s : DeviceState) → 0 < length s.fixed → Only s 0 zero_block → EachImage IsUnformatted s
only_unformatted s some only image is = only (page_of image 0) (held s image is 0 some)

-- pages from this one on are kept by a write below it, and by a barrier
module _ (page : ℕ) where
  kept_same : (s : DeviceState) → KeepsFrom page s s
  kept_same s = record { pages = refl; each = λ k block from h. h }

  module _ (before s : DeviceState) (kept : KeepsFrom page before s) where
    kept_written : (k : ℕ) (block : Block) → k < page → KeepsFrom page before (written s k block)
    kept_written k block below = record {
      pages = kept.pages;
      each = λ j content from h. ⊎_elim (λ was. kept.each j content from was) (λ new. absurd (omega (arith, below, from, new.0))) (after_holds s k block j content h);
    }

    kept_settled : KeepsFrom page before (settled s)
    kept_settled = record {
      pages = length-overlay s.fixed s.since ∙ kept.pages;
      each = λ k block from h. kept.each k block from (settled_holds s k block h);
    }

    -- so the images have old pages there
    old_from : EachImage (IsOldFrom page before) s
    old_from image is = record { pages = is.pages ∙ kept.pages; each = λ k block from at. kept.each k block from (is.each k block at) }

    older : (image : List Block) → IsOldFrom page s image → IsOldFrom page before image
    older image old = record { pages = old.pages ∙ kept.pages; each = λ k block from at. kept.each k block from (old.each k block from at) }

    kept_then : (later : DeviceState) → KeepsFrom page s later → KeepsFrom page before later
    kept_then later more = record { pages = more.pages ∙ kept.pages; each = λ k block from h. kept.each k block from (more.each k block from h) }

-- one page was put: the images in between
pub record PutLeaves (P : List Block → Type 0) (page : ℕ) (block : Block) (result : Result Unit Failed) (old new : Meaning) : Type 0 where
  pub usable : IsUsable new
  pub leaves : Leaves old new P
  pub images : EachImage P new.state
  pub state : result ≡ Ok tt → new.state ≡ settled (written old.state page block)

module _ (P : List Block → Type 0) (page : ℕ) (block : Block) (result : Result Unit Failed) (old new : Meaning) (usable : IsUsable old) (before : EachImage P old.state) (after : EachImage P (written old.state page block)) where
  settled_images : (s : DeviceState) → EachImage P s → EachImage P (settled s)
  settled_images s h image is = h image (settled_image s image is)

  pub put_leaves : PutsPage page block result old new → PutLeaves P page block result old new
  put_leaves p = by p.puts
    where
      by : {made : List LogEntry} → Puts page block result old new made → PutLeaves P page block result old new
      by (refused r) =
          let images : EachImage P new.state = ⊎_elim
          (λ taken. subst (EachImage P) (sym taken) after)
          (λ same. subst (EachImage P) (sym same) before)
          (write_state page block (Err r.failed) old new usable.tells_pages r.write) in
          record {
            usable = usable_after (WriteEntry page block (Err r.failed)) old new r.write usable;
            leaves = leaves_call (WriteEntry page block (Err r.failed)) old new P usable.tells_pages r.write before images;
            images = images;
            state = λ ok. absurd (cc (sym ok ∙ r.answer));
          }
      by (flushed f) =
          let mid = usable_after (WriteEntry page block (Ok tt)) old f.mid f.write usable in
          let wrote : f.mid.state ≡ written old.state page block = done_state page block old f.mid usable.tells_pages f.write in
          let between : EachImage P f.mid.state = subst (EachImage P) (sym wrote) after in
          let images : EachImage P new.state = ⊎_elim
          (λ done. subst (EachImage P) (sym done) (settled_images f.mid.state between))
          (λ same. subst (EachImage P) (sym same) between)
          (flush_state result f.mid new mid.tells_pages f.flush) in
          record {
            usable = usable_after (FlushEntry result) f.mid new f.flush mid;
            leaves = leaves_then old f.mid new P P usable.tells_pages
                (leaves_call (WriteEntry page block (Ok tt)) old f.mid P usable.tells_pages f.write before between) (λ _ h. h)
                (leaves_call (FlushEntry result) f.mid new P mid.tells_pages f.flush between images);
            images = images;
            state = λ ok. flushed_state f.mid new mid.tells_pages (subst (λ (r : Result Unit Failed). OneCall (FlushEntry r) f.mid new) ok f.flush) ∙ ap settled wrote;
          }

-- the first page is cleared
module _ (shape : ShapeView) (before : DeviceState) where
  abbrev partway_kept : DeviceState → Type 0
  partway_kept s = KeepsFrom (first_data_page shape) before s

  pub before_is_partway : EachImage (MayBePartway shape before) before
  before_is_partway image is = record { is = inl is; data_kept = old_from (first_data_page shape) before before (kept_same (first_data_page shape) before) image is }

  -- page 0 is zeros, and the data pages are kept
  pub zeros_are_partway : (s : DeviceState) → 0 < length s.fixed → Only s 0 zero_block → partway_kept s → EachImage (MayBePartway shape before) s
  zeros_are_partway s some only kept image is = record { is = inr (inl (only_unformatted s some only image is)); data_kept = old_from (first_data_page shape) before s kept image is }

  first_kept : partway_kept (written before 0 zero_block)
  first_kept = kept_written (first_data_page shape) before before (kept_same (first_data_page shape) before) 0 zero_block (omega arith)

  pub cleared_is_partway : 0 < length before.fixed → EachImage (MayBePartway shape before) (written before 0 zero_block)
  cleared_is_partway some image is = record {
    is = ⊎_elim
        (λ was. inl (record { pages = is.pages; each = λ k block at. ⊎_elim (λ h. h) (λ new. old_page was k block at new.0) (after_holds before 0 zero_block k block (is.each k block at)) }))
        (λ new. inr (inl (sym new.1)))
        (after_holds before 0 zero_block 0 (page_of image 0) (held (written before 0 zero_block) image is 0 some));
    data_kept = old_from (first_data_page shape) before (written before 0 zero_block) first_kept image is;
  }
    where
      old_page : MayHold before 0 (page_of image 0) → (k : ℕ) (block : Block) → slice_get image k ≡ Some block → 0 ≡ k → MayHold before k block
      old_page was k block at same = subst (λ (n : ℕ). MayHold before n block) same
          (subst (MayHold before 0) (get_or_from_slice_get image 0 block zero_block (subst (λ (n : ℕ). slice_get image n ≡ Some block) (sym same) at)) was)

-- the superblock is written to a device whose tables are zero
pub record AreCleared (shape : ShapeView) (s : DeviceState) : Type 0 where
  pub enough : total shape ≤ length s.fixed
  pub superblock : Only s 0 zero_block
  pub tables : (k : ℕ) → 1 ≤ k → k < first_data_page shape → Only s k zero_block

module _ (shape : ShapeView) (super : Block) (is_super : IsSuperblock super) (tells : told_shape super ≡ shape) (version : shape.version ≡ 1) where
  from_fresh : (image : List Block) → shape_of image ≡ shape → IsFresh image → IsNew shape image
  from_fresh image same fresh = record {
    fresh = fresh;
    is = same;
    tight = new_is_tight image fresh;
    unmapped = λ block lt. no_name image fresh block (subst (λ (sh : ShapeView). block < sh.blocks) (sym same) lt);
    uncounted = λ p one le. uncounted image fresh p one (subst (λ (sh : ShapeView). p ≤ sh.pages) (sym same) le);
    live = ap (λ (sh : ShapeView). live_of (count_of image) sh.pages) (sym same) ∙ no_live image fresh;
    waste = no_waste image fresh;
    zeros = λ block lt. reads_zeros image fresh block (subst (λ (sh : ShapeView). block < sh.blocks) (sym same) lt);
  }

  -- an image with the superblock and tables of zeros is new
  new_image : (s : DeviceState) → total shape ≤ length s.fixed → ((k : ℕ) → 1 ≤ k → k < first_data_page shape → Only s k zero_block) → (image : List Block) → IsImage s image → page_of image 0 ≡ super → IsNew shape image
  new_image s enough tables image is first =
      let same : shape_of image ≡ shape = ap told_shape first ∙ tells in
      from_fresh image same (record {
        shape = record { superblock = subst IsSuperblock (sym first) is_super; enough = subst (λ (sh : ShapeView). total sh ≤ length image) (sym same) (omega (arith, enough, is.pages)) };
        version = ap (λ (sh : ShapeView). sh.version) same ∙ version;
        tables = λ k one lt.
            let below : k < first_data_page shape = subst (λ (sh : ShapeView). k < first_data_page sh) same lt in
            tables k one below (page_of image k) (held s image is k (omega (arith, below, enough)));
      })

  tables_written : (s : DeviceState) → AreCleared shape s → (k : ℕ) → 1 ≤ k → k < first_data_page shape → Only (written s 0 super) k zero_block
  tables_written s c k one lt = only_other s k 0 zero_block super (λ e. omega (arith, e, one)) (c.tables k one lt)

  module _ (s before : DeviceState) (c : AreCleared shape s) (kept : KeepsFrom (first_data_page shape) before s) where
    last_kept : KeepsFrom (first_data_page shape) before (written s 0 super)
    last_kept = kept_written (first_data_page shape) before s kept 0 super (omega arith)

    pub written_is_partway : EachImage (MayBePartway shape before) (written s 0 super)
    written_is_partway image is = record {
      is = ⊎_elim
          (λ was. inr (inl (c.superblock (page_of image 0) was)))
          (λ new. inr (inr (new_image (written s 0 super) c.enough (tables_written s c) image is (sym new.1))))
          (after_holds s 0 super 0 (page_of image 0) (held (written s 0 super) image is 0 (omega (arith, c.enough))));
      data_kept = old_from (first_data_page shape) before (written s 0 super) last_kept image is;
    }

    pub settled_is_new : EachImage (IsLaidOut shape before) (settled (written s 0 super))
    settled_is_new image is =
        let same : length (newest (written s 0 super)) ≡ length s.fixed = length-overlay s.fixed (written s 0 super).since in
        let enough : total shape ≤ length (settled (written s 0 super)).fixed = omega (arith, c.enough, same) in
        record {
          is_new = new_image (settled (written s 0 super)) enough (λ k one lt. only_settled (written s 0 super) k zero_block (tables_written s c k one lt)) image is
              (only_put s 0 super (omega (arith, c.enough)) (page_of image 0) (held (settled (written s 0 super)) image is 0 (omega (arith, enough))));
          data_kept = old_from (first_data_page shape) before (settled (written s 0 super)) (kept_settled (first_data_page shape) before (written s 0 super) last_kept) image is;
        }

-- pages whose newest content is zeros hold zeros alone after a barrier
pub settled_zero : (s : DeviceState) (k : ℕ) → page_of (newest s) k ≡ zero_block → Only (settled s) k zero_block
unfolding WasWritten
settled_zero s k zero b (inl h) = sym (get_or_from_slice_get (newest s) k b zero_block h) ∙ zero
settled_zero s k zero b (inr h) = absurd h

-- what clearing has done so far
pub record ClearsUpTo (shape : ShapeView) (k : ℕ) (old new : Meaning) : Type 0 where
  pub usable : IsUsable new
  pub leaves : Leaves old new (IsCleared shape old.state)
  pub kept : KeepsFrom (first_data_page shape) old.state new.state
  pub superblock : Only new.state 0 zero_block
  pub tables : (j : ℕ) → 1 ≤ j → j < k → page_of (newest new.state) j ≡ zero_block

cleared : (shape : ShapeView) (before s : DeviceState) → 0 < length s.fixed → Only s 0 zero_block → KeepsFrom (first_data_page shape) before s → EachImage (IsCleared shape before) s
cleared shape before s some only kept image is = record { unformatted = only_unformatted s some only image is; data_kept = old_from (first_data_page shape) before s kept image is }

pub clear_none : (shape : ShapeView) (d : Meaning) → IsUsable d → 0 < d.pages → Only d.state 0 zero_block → ClearsUpTo shape 1 d d
clear_none shape d u some only =
    let kept = kept_same (first_data_page shape) d.state in
    record {
      usable = u;
      leaves = leaves_start d (IsCleared shape d.state) (cleared shape d.state d.state (omega (arith, some, u.as_many)) only kept);
      kept = kept;
      superblock = only;
      tables = λ j one lt. absurd (omega (arith, one, lt));
    }

module _ (shape : ShapeView) (k : ℕ) (old mid new : Meaning) (u : IsUsable old) (so_far : ClearsUpTo shape k old mid) (one : 1 ≤ k) (table : k < first_data_page shape) (within : k < mid.pages) where
  abbrev C : List Block → Type 0
  C = IsCleared shape old.state

  cleared_at : (s : DeviceState) → length s.fixed ≡ mid.pages → Only s 0 zero_block → KeepsFrom (first_data_page shape) old.state s → EachImage C s
  cleared_at s same only kept = cleared shape old.state s (omega (arith, same, within)) only kept

  still_only : Only (written mid.state k zero_block) 0 zero_block
  still_only = only_other mid.state 0 k zero_block zero_block (λ e. omega (arith, e, one)) so_far.superblock

  still_kept : KeepsFrom (first_data_page shape) old.state (written mid.state k zero_block)
  still_kept = kept_written (first_data_page shape) old.state mid.state so_far.kept k zero_block table

  before_it : EachImage C mid.state
  before_it = cleared_at mid.state so_far.usable.as_many so_far.superblock so_far.kept

  pub clear_more : OneCall (WriteEntry k zero_block (Ok tt)) mid new → ClearsUpTo shape (suc k) old new
  clear_more call =
      let wrote : new.state ≡ written mid.state k zero_block = done_state k zero_block mid new so_far.usable.tells_pages call in
      let only : Only new.state 0 zero_block = subst (λ (s : DeviceState). Only s 0 zero_block) (sym wrote) still_only in
      let kept : KeepsFrom (first_data_page shape) old.state new.state = subst (KeepsFrom (first_data_page shape) old.state) (sym wrote) still_kept in
      let after = cleared_at new.state (ap (λ (s : DeviceState). length s.fixed) wrote ∙ so_far.usable.as_many) only kept in
      record {
        usable = usable_after (WriteEntry k zero_block (Ok tt)) mid new call so_far.usable;
        leaves = leaves_then old mid new C C u.tells_pages so_far.leaves (λ _ h. h) (leaves_call (WriteEntry k zero_block (Ok tt)) mid new C so_far.usable.tells_pages call before_it after);
        kept = kept;
        superblock = only;
        tables = λ j low lt.
            let is : newest new.state ≡ slice_set (newest mid.state) k zero_block = ap newest wrote ∙ newest_written mid.state k zero_block in
            ap (λ (l : List Block). page_of l j) is ∙ ⊎_elim
            (λ same. ap (page_of (slice_set (newest mid.state) k zero_block)) same ∙ get_or-set_same (newest mid.state) k zero_block zero_block (omega (arith, within, so_far.usable.as_many, length-overlay mid.state.fixed mid.state.since)))
            (λ apart. get_or-set_other (newest mid.state) k j zero_block zero_block apart ∙ so_far.tables j low (omega (arith, lt, apart)))
            (cases_eq j k);
      }

  pub clear_fails : (failed : Failed) → OneCall (WriteEntry k zero_block (Err failed)) mid new → Clears shape (Err failed) old new
  clear_fails failed call =
      let either = write_state k zero_block (Err failed) mid new so_far.usable.tells_pages call in
      let only : Only new.state 0 zero_block = ⊎_elim
      (λ wrote. subst (λ (s : DeviceState). Only s 0 zero_block) (sym wrote) still_only)
      (λ same. subst (λ (s : DeviceState). Only s 0 zero_block) (sym same) so_far.superblock)
      either in
      let kept : KeepsFrom (first_data_page shape) old.state new.state = ⊎_elim
      (λ wrote. subst (KeepsFrom (first_data_page shape) old.state) (sym wrote) still_kept)
      (λ same. subst (KeepsFrom (first_data_page shape) old.state) (sym same) so_far.kept)
      either in
      let later = usable_after (WriteEntry k zero_block (Err failed)) mid new call so_far.usable in
      record {
        leaves = leaves_then old mid new C C u.tells_pages so_far.leaves (λ _ h. h)
            (leaves_call (WriteEntry k zero_block (Err failed)) mid new C so_far.usable.tells_pages call before_it (cleared_at new.state (later.as_many ∙ call.pages) only kept));
        kept = kept;
        superblock = only;
        tables = λ ok. absurd (cc ok);
      }

pub clear_done : (shape : ShapeView) (k : ℕ) (old new : Meaning) → first_data_page shape ≤ k → ClearsUpTo shape k old new → Clears shape (Ok tt) old new
clear_done shape k old new all c = record { leaves = c.leaves; kept = c.kept; superblock = c.superblock; tables = λ _ j one lt. c.tables j one (omega (arith, lt, all)) }

-- all of it
module _ (shape : ShapeView) (d0 : Meaning) (u0 : IsUsable d0) (enough : total shape ≤ d0.pages) where
  abbrev P : List Block → Type 0
  P = MayBePartway shape d0.state

  abbrev KeepsData : DeviceState → Type 0
  KeepsData s = KeepsFrom (first_data_page shape) d0.state s

  some0 : 0 < length d0.state.fixed
  some0 = omega (arith, enough, u0.as_many)

  module _ (d1 : Meaning) (r1 : Result Unit Failed) (puts1 : PutsPage 0 zero_block r1 d0 d1) where
    pub first : PutLeaves P 0 zero_block r1 d0 d1
    first = put_leaves P 0 zero_block r1 d0 d1 u0 (before_is_partway shape d0.state) (cleared_is_partway shape d0.state some0) puts1

    -- it ended with the first page
    pub first_fails : (failed : Failed) → r1 ≡ Err failed → LaysOut shape (Err failed) d0 d1
    first_fails failed is = record { leaves = first.leaves; done = λ ok. absurd (cc ok) }

    pub only1 : r1 ≡ Ok tt → Only d1.state 0 zero_block
    only1 ok = subst (λ (s : DeviceState). Only s 0 zero_block) (sym (first.state ok)) (only_put d0.state 0 zero_block some0)

    kept1 : r1 ≡ Ok tt → KeepsData d1.state
    kept1 ok = subst KeepsData (sym (first.state ok)) (kept_settled (first_data_page shape) d0.state (written d0.state 0 zero_block) (first_kept shape d0.state))

    module _ (ok1 : r1 ≡ Ok tt) (d2 : Meaning) (r2 : Result Unit Failed) (clears : Clears shape r2 d1 d2) (u2 : IsUsable d2) (pages2 : d2.pages ≡ d0.pages) where
      some2 : 0 < length d2.state.fixed
      some2 = omega (arith, enough, pages2, u2.as_many)

      kept2 : KeepsData d2.state
      kept2 = kept_then (first_data_page shape) d0.state d1.state (kept1 ok1) d2.state clears.kept

      leaves2 : Leaves d0 d2 P
      leaves2 = leaves_then d0 d1 d2 P (IsCleared shape d1.state) u0.tells_pages first.leaves
          (λ image h. record { is = inr (inl h.unformatted); data_kept = older (first_data_page shape) d0.state d1.state (kept1 ok1) image h.data_kept })
          clears.leaves

      pub second_fails : (failed : Failed) → r2 ≡ Err failed → LaysOut shape (Err failed) d0 d2
      second_fails failed is = record { leaves = leaves2; done = λ ok. absurd (cc ok) }

      module _ (ok2 : r2 ≡ Ok tt) (d3 : Meaning) (r3 : Result Unit Failed) (flush : OneCall (FlushEntry r3) d2 d3) where
        u3 : IsUsable d3
        u3 = usable_after (FlushEntry r3) d2 d3 flush u2

        only3 : Only d3.state 0 zero_block
        only3 = ⊎_elim
            (λ done. subst (λ (s : DeviceState). Only s 0 zero_block) (sym done) (only_settled d2.state 0 zero_block clears.superblock))
            (λ same. subst (λ (s : DeviceState). Only s 0 zero_block) (sym same) clears.superblock)
            (flush_state r3 d2 d3 u2.tells_pages flush)

        kept3 : KeepsData d3.state
        kept3 = ⊎_elim
            (λ done. subst KeepsData (sym done) (kept_settled (first_data_page shape) d0.state d2.state kept2))
            (λ same. subst KeepsData (sym same) kept2)
            (flush_state r3 d2 d3 u2.tells_pages flush)

        some3 : 0 < length d3.state.fixed
        some3 = omega (arith, enough, pages2, u3.as_many, flush.pages)

        third : EachImage P d3.state
        third = zeros_are_partway shape d0.state d3.state some3 only3 kept3

        leaves3 : Leaves d0 d3 P
        leaves3 = leaves_then d0 d2 d3 P P u0.tells_pages leaves2 (λ _ h. h)
            (leaves_call (FlushEntry r3) d2 d3 P u2.tells_pages flush (zeros_are_partway shape d0.state d2.state some2 clears.superblock kept2) third)

        pub third_fails : (failed : Failed) → r3 ≡ Err failed → LaysOut shape (Err failed) d0 d3
        third_fails failed is = record { leaves = leaves3; done = λ ok. absurd (cc ok) }

        module _ (ok3 : r3 ≡ Ok tt) (super : Block) (is_super : IsSuperblock super) (tells : told_shape super ≡ shape) (version : shape.version ≡ 1) (d4 : Meaning) (r4 : Result Unit Failed) (puts4 : PutsPage 0 super r4 d3 d4) where
          all_cleared : AreCleared shape d3.state
          all_cleared = record {
            enough = omega (arith, enough, pages2, flush.pages, u3.as_many);
            superblock = only3;
            tables = λ k one lt. subst (λ (s : DeviceState). Only s k zero_block)
                (sym (flushed_state d2 d3 u2.tells_pages (subst (λ (r : Result Unit Failed). OneCall (FlushEntry r) d2 d3) ok3 flush)))
                (settled_zero d2.state k (clears.tables ok2 k one lt));
          }

          last : PutLeaves P 0 super r4 d3 d4
          last = put_leaves P 0 super r4 d3 d4 u3 third (written_is_partway shape super is_super tells version d3.state d0.state all_cleared kept3) puts4

          pub laid_out : LaysOut shape r4 d0 d4
          laid_out = record {
            leaves = leaves_then d0 d3 d4 P P u0.tells_pages leaves3 (λ _ h. h) last.leaves;
            done = λ ok. record {
              images = subst (EachImage (IsLaidOut shape d0.state)) (sym (last.state ok)) (settled_is_new shape super is_super tells version d3.state d0.state all_cleared kept3);
              rest = last.state ok ∙ sym (ap (λ (s : DeviceState). at_rest s.fixed) (last.state ok));
            };
          }

-- from the device before room was made
module _ (shape : ShapeView) (result : Result Unit Failed) (old mid new : Meaning) (grown : Grows (total shape) old mid) (writes : MakesCalls (AreFormat shape) result mid new)
    (lays : mid.honest ≡ true → mid.tells_pages ≡ true → LaysOut shape result mid new) where
  abbrev roomy : Meaning
  roomy = with_pages old new.pages

  laid : old.honest ≡ true → old.tells_pages ≡ true → LaysOut shape result mid new
  laid honest tells = lays (grown.kind.honest ∙ honest) (grown.kind.tells_pages ∙ tells)

  same_state : old.tells_pages ≡ true → mid.state ≡ roomy.state
  same_state tells = grown.state tells ∙ ap (λ (n : ℕ). with_room old.state (replicate (n - old.pages) zero_block)) (sym writes.only.pages)

  same_kind : SameKind old new
  same_kind = record {
    honest = writes.only.gains.kind.honest ∙ grown.kind.honest;
    tells_pages = writes.only.gains.kind.tells_pages ∙ grown.kind.tells_pages;
    tells_log = writes.only.gains.kind.tells_log ∙ grown.kind.tells_log;
    tells_reads = writes.only.gains.kind.tells_reads ∙ grown.kind.tells_reads;
  }

  from_old : old.tells_pages ≡ true → Leaves mid new (MayBePartway shape mid.state) → Leaves roomy new (MayBePartway shape roomy.state)
  from_old tells l = record {
    calls = l.calls;
    grows = λ t. subst (λ (log : List LogEntry). Rises (length l.calls) (length log) (length new.log)) (grown.log t) (l.grows (grown.kind.tells_log ∙ t));
    log = λ t counted. l.log (grown.kind.tells_log ∙ t) counted ∙ ap (λ (log : List LogEntry). log ++ l.calls) (grown.log t);
    state = λ t. l.state (grown.kind.tells_pages ∙ t) ∙ ap (λ (s : DeviceState). state_after s l.calls) (same_state t);
    each = subst (λ (s : DeviceState). EachMoment (MayBePartway shape s) s l.calls) (same_state tells) l.each;
    kind = record { honest = same_kind.honest; tells_pages = same_kind.tells_pages; tells_log = same_kind.tells_log; tells_reads = same_kind.tells_reads };
  }

  -- the same calls
  calls_from_old : (calls : List LogEntry) → Gains calls mid new → Gains calls roomy new
  calls_from_old calls h = record {
    counted = subst (λ (n : ℕ). Rises (length calls) n new.calls) grown.calls h.counted;
    grows = λ t. subst (λ (log : List LogEntry). Rises (length calls) (length log) (length new.log)) (grown.log t) (h.grows (grown.kind.tells_log ∙ t));
    log = λ t counted. h.log (grown.kind.tells_log ∙ t) counted ∙ ap (λ (log : List LogEntry). log ++ calls) (grown.log t);
    state = λ t. h.state (grown.kind.tells_pages ∙ t) ∙ ap (λ (s : DeviceState). state_after s calls) (same_state t);
    kind = record { honest = same_kind.honest; tells_pages = same_kind.tells_pages; tells_log = same_kind.tells_log; tells_reads = same_kind.tells_reads };
  }

  pub formats_from : Formats shape old new
  formats_from = record {
    enough = omega (arith, grown.enough, writes.only.pages);
    never_fewer = omega (arith, grown.never_fewer, writes.only.pages);
    already = λ tells le. writes.only.pages ∙ grown.already tells le;
    reads = λ tells. writes.only.reads (grown.kind.tells_reads ∙ tells) ∙ grown.reads tells;
    kind = same_kind;
    made = (writes.calls, calls_from_old writes.calls writes.only.gains);
    leaves = λ honest tells. from_old tells (laid honest tells).leaves;
  }

  pub formatted_from : result ≡ Ok tt → IsFormatted shape old new
  formatted_from ok = record {
    formats = formats_from;
    calls = writes.calls;
    are = writes.done ok;
    gains = calls_from_old writes.calls writes.only.gains;
    holds = λ honest tells. subst (λ (s : DeviceState). HoldsNew shape s new.state) (same_state tells) ((laid honest tells).done ok);
  }
