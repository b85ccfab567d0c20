-- A flush, page by page.
use Rattle.std.proofs.Common.{◌≡◌, ◌⊎◌, inl, inr, ⊎_elim, ℕ, suc, ◌+◌, ◌<◌, ◌≤◌, Bool, true, false, List, [], ◌∷◌, ◌++◌, length, refl, sym, ◌∙◌, ap, subst, arith, append_assoc, slice_set, Result, Ok, Err, is_err, if◌then◌else◌}
use Rattle.std.proofs.lemmas.List.{get_or-set_same, get_or-set_other}
use Rattle.std.proofs.lemmas.Bool.{cases_eq, cases_lt}
use Rattle.page_device.specs.Block.{Block}
use Rattle.page_device.specs.declared.error.Failed.{Failed}
use Rattle.page_device.specs.Disk.{DeviceState}
use Rattle.page_device.specs.Possible.{only_put, Only}
use Rattle.page_device.specs.declared.device.LogEntry.{LogEntry}
use Rattle.page_device.specs.declared.device.LogEntry.TheVariants as entry
use Rattle.page_device.specs.declared.device.End.TheVariants as end
use Rattle.page_device.specs.Faults.{calm_first, calm_next}
use Rattle.page_device.specs.Gains.{gains_then, moments_then}
use Rattle.page_device.specs.Meaning.{Meaning, IsRefused, WriteEntry}
use Rattle.page_device.specs.Moments.{EachImage, each-weaker}
use Rattle.page_layout.specs.Shape.{ShapeView, map_pages}
use Rattle.page_layout.specs.Tables.{page_of}
use Rattle.array_model.specs.Images.{Mode, left_mode}
use Rattle.array_model.specs.Array.{BlockArray, MayBeLeft, writes_nothing}
use Rattle.array_model.specs.Array as array
use Rattle.dedup_writer.specs.Core.{CachedTables, CoreView, is_pending}
use Rattle.dedup_writer.specs.Stands.{Uses, StandsWith, StandsFor}
use Rattle.dedup_writer.specs.Put.{PutsCounted, Puts, refused, flushed}
use Rattle.dedup_writer.specs.Calls.{StoreCall, Called, FlushCalled, Settles, idle, tried, IsUndone, EndUndone}
use Rattle.dedup_writer.proofs.Places.{prints_from_counts, data_from_prints}
use Rattle.dedup_writer.proofs.Raised.{counts_append}
use Rattle.dedup_writer.proofs.Steps.{maps_fit}
use Rattle.dedup_writer.proofs.Puts.{AfterPut, put_stands, puts_gain}
use Rattle.dedup_writer.proofs.Settled.{stands_unpended, stands_flushed}
use Rattle.dedup_writer.proofs.Left.{left_still}
use Rattle.dedup_writer.proofs.Quiet.{called_nothing}
use Rattle.dedup_writer.proofs.InStep.{calm_done}
use Rattle.dedup_writer.proofs.Ended.{put_undone, undone_behind, puts_all_done, done_first, done_next, done_append}

-- the same images, by another shape that is the same
same_blocks : (mode : Mode) (a : BlockArray) (other shape : ShapeView) → other ≡ shape → (image : List Block) → MayBeLeft (left_mode mode) other.blocks a writes_nothing image → MayBeLeft (left_mode mode) shape.blocks a writes_nothing image
same_blocks mode a other shape same image h = record { good = h.good; reads = λ block lt. h.reads block (subst (λ (sh : ShapeView). block < sh.blocks) (sym same) lt) }

-- one call after another that leaves the array
pub called_then : (c0 c1 c2 : CoreView) (d0 d1 d2 : Meaning) → Called c0 c1 d0 d1 (λ a. a) (λ _. writes_nothing) → Called c1 c2 d1 d2 (λ a. a) (λ _. writes_nothing) → Called c0 c2 d0 d2 (λ a. a) (λ _. writes_nothing)
called_then c0 c1 c2 d0 d1 d2 first next = record {
  calls = first.calls ++ next.calls;
  gains = gains_then first.calls next.calls d0 d1 d2 first.gains next.gains;
  counted = counts_append first.calls next.calls c0.calls c1.calls c2.calls first.counted next.counted;
  shape = next.shape ∙ first.shape;
  falls = omega (arith, first.falls, next.falls);
  calm = λ calm. done_append first.calls next.calls (first.calm (calm_first d0 d1 d2 first.falls next.falls calm)) (next.calm (calm_next d0 d1 d2 first.falls next.falls calm));
  over = λ mode a sf.
      let h = first.over mode a sf in
      let k = next.over mode a h.stands in
      let P = MayBeLeft (left_mode mode) c0.tables.shape.blocks a writes_nothing in
      let Q = MayBeLeft (left_mode mode) c1.tables.shape.blocks a writes_nothing in
      record {
        stands = k.stands;
        each = moments_then first.calls next.calls d0 d1 P sf.tells_pages first.gains h.each (each-weaker Q P d1.state next.calls (same_blocks mode a c1.tables.shape c0.tables.shape first.shape) k.each);
        in_step = λ done was. k.in_step (done_next first.calls next.calls done) (h.in_step (done_first first.calls next.calls done) was);
      };
}

refused_tables : (r : Result Unit Failed) (t u : CachedTables) → is_err r ≡ true → (if is_err r then t else u) ≡ t
refused_tables (Ok _) t u h = cc
refused_tables (Err _) t u h = refl

done_tables : (r : Result Unit Failed) (t u : CachedTables) → r ≡ Ok tt → (if is_err r then t else u) ≡ u
done_tables (Ok _) t u h = refl
done_tables (Err _) t u h = cc

module _ (mode : Mode) (a : BlockArray) (index : ℕ) (c0 : CoreView) (d0 : Meaning) (sf : StandsFor mode c0 d0 a) (in_range : index < map_pages c0.tables.shape) where
  abbrev P : List Block → Type 0
  P = MayBeLeft (left_mode mode) c0.tables.shape.blocks a writes_nothing

  abbrev uses : Uses
  uses = sf.stands.uses

  images : (s : DeviceState) → StandsWith uses s c0.tables a → EachImage P s
  images = left_still mode c0.tables.shape.blocks a writes_nothing uses sf.stands.asked c0.tables refl

  module _ (c1 : CoreView) (d1 : Meaning) (r : Result Unit Failed) where
    put : (p : PutsCounted (1 + index) (page_of c0.tables.maps index) r d0 d1 c0.calls c1.calls) → AfterPut uses c0.tables a P images (1 + index) (page_of c0.tables.maps index) r d0 d1 p.made
    put p = put_stands uses c0.tables a P images (1 + index) (page_of c0.tables.maps index) r d0 d1 p.made (record { honest = sf.honest; tells_pages = sf.tells_pages; as_many = sf.as_many }) p.puts sf.stands.stands (maps_fit uses c0.tables a index sf.stands.stands.cache in_range)

    -- the store stands for the same array, whether the page was written or not
    later : (p : PutsCounted (1 + index) (page_of c0.tables.maps index) r d0 d1 c0.calls c1.calls) (q : Result Unit Failed) → r ≡ q
        → StandsWith uses d1.state (if is_err q then c0.tables else record c0.tables { pending = slice_set c0.tables.pending index false }) a
    later p (Err _) failed = (put p).stands
    later p (Ok _) ok = stands_unpended uses d1.state c0.tables a index (put p).stands
        (subst (λ (s : DeviceState). Only s (1 + index) (page_of c0.tables.maps index)) (sym ((put p).state ok))
        (only_put d0.state (1 + index) (page_of c0.tables.maps index) (omega (arith, in_range, prints_from_counts c0.tables.shape, data_from_prints c0.tables.shape, sf.stands.stands.enough))))

    -- one map page leaves the array; it is not pending where the tables are those of the device
    pub tried_call : is_pending c0.tables index ≡ true → c1.tables ≡ (if is_err r then c0.tables else record c0.tables { pending = slice_set c0.tables.pending index false })
        → (p : PutsCounted (1 + index) (page_of c0.tables.maps index) r d0 d1 c0.calls c1.calls) → StoreCall mode p.made c0 c1 d0 d1 a a writes_nothing
    tried_call pending tables p =
        let after = put p in
        record {
          stands = record {
            honest = after.usable.honest;
            tells_pages = after.usable.tells_pages;
            as_many = after.usable.as_many;
            stands = record { uses = uses; asked = sf.stands.asked; stands = subst (λ (t : CachedTables). StandsWith uses d1.state t a) (sym tables) (later p r refl) };
          };
          each = after.each;
          in_step = λ _ was. absurd (cc (sym (was.clean index in_range) ∙ pending));
        }

-- the shape stays, and the flags of the other pages; its own is not set where that was done
pub settle_shape : (index : ℕ) (c0 c1 : CoreView) (d0 d1 : Meaning) (r : Result Unit Failed) → Settles index r c0 c1 d0 d1 → c1.tables.shape ≡ c0.tables.shape
settle_shape index c0 c1 d0 d1 r (idle _ _ same _) = ap (λ (v : CoreView). v.tables.shape) same
settle_shape index c0 c1 d0 d1 r (tried _ tables _) = ap (λ (t : CachedTables). t.shape) tables ∙ either (is_err r)
  where
    either : (b : Bool) → (if b then c0.tables else record c0.tables { pending = slice_set c0.tables.pending index false }).shape ≡ c0.tables.shape
    either true = refl
    either false = refl

pub settle_flags : (index : ℕ) (c0 c1 : CoreView) (d0 d1 : Meaning) → index < length c0.tables.pending → Settles index (Ok tt) c0 c1 d0 d1 → (j : ℕ) → (j ≡ index) ⊎ (is_pending c0.tables j ≡ false) → is_pending c1.tables j ≡ false
settle_flags index c0 c1 d0 d1 within (idle off _ same _) j (inl here) = ap (λ (v : CoreView). is_pending v.tables j) same ∙ ap (is_pending c0.tables) here ∙ off
settle_flags index c0 c1 d0 d1 within (idle off _ same _) j (inr was) = ap (λ (v : CoreView). is_pending v.tables j) same ∙ was
settle_flags index c0 c1 d0 d1 within (tried _ tables _) j h = ap (λ (t : CachedTables). is_pending t j) tables ∙ ⊎_elim
    (λ here. ap (is_pending (record c0.tables { pending = slice_set c0.tables.pending index false })) here ∙ get_or-set_same c0.tables.pending index false true within)
    (λ other. get_or-set_other c0.tables.pending index j false true other ∙ ⊎_elim (λ here. absurd (other here)) (λ was. was) h)
    (cases_eq j index)

-- with no page pending the store stands for the last contents
pub all_settled : (mode : Mode) (core : CoreView) (d : Meaning) (a : BlockArray) → ((j : ℕ) → j < map_pages core.tables.shape → is_pending core.tables j ≡ false) → StandsFor mode core d a → StandsFor mode core d (array.flushed a)
all_settled mode core d a none sf = record {
  honest = sf.honest;
  tells_pages = sf.tells_pages;
  as_many = sf.as_many;
  stands = record { uses = sf.stands.uses; asked = sf.stands.asked; stands = stands_flushed sf.stands.uses d.state core.tables a none sf.stands.stands };
}

-- the number of device pages stays
pub settle_pages : (index : ℕ) (c0 c1 : CoreView) (d0 d1 : Meaning) (r : Result Unit Failed) → Settles index r c0 c1 d0 d1 → d1.pages ≡ d0.pages
settle_pages index c0 c1 d0 d1 r (idle _ _ _ quiet) = ap (λ (m : Meaning). m.pages) quiet
settle_pages index c0 c1 d0 d1 r (tried _ _ p) = by p.puts
  where
    by : {made : List LogEntry} → Puts (1 + index) (page_of c0.tables.maps index) r d0 d1 made → d1.pages ≡ d0.pages
    by (refused f) = f.write.pages
    by (flushed f) = f.flush.pages ∙ f.write.pages

-- one map page, over whatever device
pub settle_called : (index : ℕ) (c0 c1 : CoreView) (d0 d1 : Meaning) (r : Result Unit Failed) → index < map_pages c0.tables.shape → Settles index r c0 c1 d0 d1 → Called c0 c1 d0 d1 (λ a. a) (λ _. writes_nothing)
settle_called index c0 c1 d0 d1 r in_range (idle _ _ same quiet) =
    subst (λ (v : CoreView). Called c0 v d0 d1 (λ a. a) (λ _. writes_nothing)) (sym same)
    (subst (λ (m : Meaning). Called c0 c0 d0 m (λ a. a) (λ _. writes_nothing)) (sym quiet) (called_nothing c0 d0 (λ _. writes_nothing)))
settle_called index c0 c1 d0 d1 r in_range (tried pending tables p) = record {
  calls = p.made;
  gains = puts_gain (1 + index) (page_of c0.tables.maps index) r d0 d1 p.made p.puts;
  counted = p.counted;
  shape = settle_shape index c0 c1 d0 d1 r (tried pending tables p);
  falls = p.cause.never_falls;
  calm = λ calm. puts_all_done (1 + index) (page_of c0.tables.maps index) r d0 d1 p.made p.puts (calm_done r d0 d1 p.cause calm);
  over = λ mode a sf. tried_call mode a index c0 d0 sf in_range c1 d1 r pending tables p;
}

-- what a flush has done so far
pub record FlushedUpTo (index : ℕ) (c0 c1 : CoreView) (d0 d1 : Meaning) : Type 0 where
  pub call : Called c0 c1 d0 d1 (λ a. a) (λ _. writes_nothing)
  pub flags : (mode : Mode) (a : BlockArray) → StandsFor mode c0 d0 a → (j : ℕ) → j < index → is_pending c1.tables j ≡ false

pub flushed_none : (c : CoreView) (d : Meaning) → FlushedUpTo 0 c c d d
flushed_none c d = record { call = called_nothing c d (λ _. writes_nothing); flags = λ mode a sf j lt. absurd (omega (arith, lt)) }

-- one page more
pub settle_more : (index : ℕ) (c0 c1 c2 : CoreView) (d0 d1 d2 : Meaning) → FlushedUpTo index c0 c1 d0 d1 → index < map_pages c1.tables.shape → Settles index (Ok tt) c1 c2 d1 d2 → FlushedUpTo (suc index) c0 c2 d0 d2
settle_more index c0 c1 c2 d0 d1 d2 so_far in_range settles = record {
  call = called_then c0 c1 c2 d0 d1 d2 so_far.call (settle_called index c1 c2 d1 d2 (Ok tt) in_range settles);
  flags = λ mode a sf j lt.
      let was = so_far.call.over mode a sf in
      settle_flags index c1 c2 d1 d2 (omega (arith, in_range, was.stands.stands.stands.cache.pages.pending)) settles j
      (⊎_elim (λ below. inr (so_far.flags mode a sf j below)) (λ above. let e : j ≡ index = omega arith in inl e) (cases_lt j index));
}

-- a flush that is done
pub flush_done : (n : ℕ) (c0 c1 : CoreView) (d0 d1 : Meaning) → FlushedUpTo n c0 c1 d0 d1 → map_pages c1.tables.shape ≤ n → FlushCalled (Ok tt) c0 c1 d0 d1
flush_done n c0 c1 d0 d1 done all = record {
  call = record {
    calls = done.call.calls;
    gains = done.call.gains;
    counted = done.call.counted;
    shape = done.call.shape;
    falls = done.call.falls;
    calm = done.call.calm;
    over = λ mode a sf.
        let h = done.call.over mode a sf in
        record {
          stands = all_settled mode c1 d1 a (λ j lt. done.flags mode a sf j (omega (arith, lt, all))) h.stands;
          each = h.each;
          in_step = h.in_step;
        };
  };
  stopped = λ err. absurd (cc err);
}

settle_undone : (index : ℕ) (c0 c1 : CoreView) (d0 d1 : Meaning) (failed : Failed) (in_range : index < map_pages c0.tables.shape) (settles : Settles index (Err failed) c0 c1 d0 d1)
    → EndUndone (settle_called index c0 c1 d0 d1 (Err failed) in_range settles).calls
unfolding settle_called
settle_undone index c0 c1 d0 d1 failed in_range (idle _ is _ _) = absurd (cc is)
settle_undone index c0 c1 d0 d1 failed in_range (tried pending tables p) = put_undone (1 + index) (page_of c0.tables.maps index) failed d0 d1 p.made p.puts

-- a flush that stopped at a page which could not be put
pub flush_fails : (index : ℕ) (c0 c1 c2 : CoreView) (d0 d1 d2 : Meaning) (failed : Failed) → FlushedUpTo index c0 c1 d0 d1 → index < map_pages c1.tables.shape → Settles index (Err failed) c1 c2 d1 d2
    → FlushCalled (Err failed) c0 c2 d0 d2
unfolding called_then
flush_fails index c0 c1 c2 d0 d1 d2 failed so_far in_range settles =
    let next = settle_called index c1 c2 d1 d2 (Err failed) in_range settles in
    record {
      call = called_then c0 c1 c2 d0 d1 d2 so_far.call next;
      stopped = λ _. undone_behind so_far.call.calls next.calls (settle_undone index c1 c2 d1 d2 failed in_range settles);
    }
