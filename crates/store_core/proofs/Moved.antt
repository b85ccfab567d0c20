-- Moments that a core is after an edit.
use Rattle.std.proofs.Common.{arith, ◌≡◌, ◌≢◌, ◌↔◌, inl, inr, ◌<◌, ◌≤◌, ◌-◌, ◌/◌, ◌%◌, ◌&&◌, ◌||◌, not, ℕ, suc, Bool, true, false, cond, refl, sym, ap, ◌∙◌, subst, List, [], ◌∷◌, ◌++◌, Option, Some, None, is_some, map, take, drop, eqb, eqb-true, eq-eqb, ne_eqb}
use Rattle.std.specs.Prelude.{slice_get}
use Rattle.std.proofs.lemmas.Bool.{and_from, and_parts, cases_Bool, cases_eq, not-true, or_left, true≢false}
use Rattle.std.proofs.lemmas.List.{map-append}
use Rattle.page_device.specs.Block.{Block}
use Rattle.page_device.specs.Meaning.{Meaning}
use Rattle.page_layout.specs.Formed.{is_formed}
use Rattle.page_layout.specs.Shape.{ShapeView, count_page, data_page, map_page, print_page, print_place}
use Rattle.page_layout.specs.Tables.{print_entry_of}
use Rattle.page_layout.proofs.FormedPages.{formed_count}
use Rattle.page_cache.specs.View.{holds_in, is_there}
use Rattle.order_model.specs.declared.Slot.{Slot}
use Rattle.order_model.specs.declared.Slot.TheVariants.{Name, Print}
use Rattle.order_model.specs.Calls.{same_slot}
use Rattle.order_model.specs.Pool.{Told, after_zeroed}
use Rattle.order_model.specs.World as plain
use Rattle.order_model.specs.World.{IsData, Layout, Queued, World}
use Rattle.dep_graph.specs.Lists.{dirty_in, hung_in}
use Rattle.birth_marks.specs.Births.{Remembers, is_unborn_in, recorded_in}
use Rattle.birth_marks.specs.Births as marks
use Rattle.birth_marks.proofs.CallLemmas.{changed_remembered, unborn_remembered}
use Rattle.birth_marks.proofs.TableLemmas.{slot_is, slot_same}
use Rattle.page_alloc.specs.Pool.{told_of}
use Rattle.ref_counts.specs.Counts.{count_in}
use Rattle.release_queue.specs.declared.Release.{Release}
use Rattle.engine_model.specs.AnyDevice.{FewerQueued, IsOrdered}
use Rattle.engine_model.proofs.Ordering.{give_up_order, put_order, queue_order}
use Rattle.engine_model.specs.Births.{IsSlot, cached_value, has_print}
use Rattle.engine_model.specs.Births as births
use Rattle.engine_model.specs.Entries.{IsTable, cached_count, cached_print}
use Rattle.engine_model.specs.Invariant.{Moment, ToldZero, known_at}
use Rattle.engine_model.specs.Releases.{IsLastPrint}
use Rattle.engine_model.specs.SmallPass.{map_edge}
use Rattle.engine_model.specs.SmallRuns.{in_state, with_print, with_release_out}
use Rattle.engine_model.specs.SmallSteps.{SetsCount, SetsPrint, given_up, lowered, ordered, ordered_after, ordered_by_barrier, put, touched}
use Rattle.store_core.specs.declared.Core.{Core}
use Rattle.store_core.specs.declared.ledger.Ledger.{Ledger}
use Rattle.store_core.specs.Layout.{lay_of, place_of}
use Rattle.store_core.specs.Views.{page_in, plain_release, world_of}
use Rattle.store_core.specs.Whole.{IsPlaced}
use Rattle.store_core.specs.Applied.{count_of_release, is_last_print, is_print_unborn}
use Rattle.store_core.specs.Edits.{LowersCount, Makes}
use Rattle.store_core.specs.Moments.{IsMomentOf}
use Rattle.store_core.specs.Printed.{PrintsPage}
use Rattle.store_core.proofs.AppliedStands.{cached_held, some_print}
use Rattle.store_core.proofs.Clean.{apart_pages}
use Rattle.store_core.proofs.CountedStands.{sets_count}
use Rattle.store_core.proofs.Edited.{cached_there}
use Rattle.store_core.proofs.PrintedStands.{sets_print}
use Rattle.store_core.proofs.Queued.{split_at}

-- the parts of a moment of the new core, over the old shape
pub moment_of_parts : (d : Meaning) (old new : Core) → new.shape ≡ old.shape → (n : Moment) → world_of d new ≡ n.world → Remembers (place_of old.shape) new.ledger.births n.calls
    → ((s : Slot) → IsSlot (lay_of old.shape) s → recorded_in new.ledger.births s ≡ true → marks.value_in new.ledger.births s ≡ cached_value (lay_of old.shape) n.world s)
    → ((p : ℕ) → IsData (lay_of old.shape) p → told_of new.ledger.pool p ≡ n.pool p) → ((page : ℕ) → IsTable (lay_of old.shape) page → is_formed old.shape page (n.world.cached page) ≡ true)
    → IsOrdered (lay_of old.shape) n.world → ((a : ℕ) → n.world.dirty a ≡ false → n.world.cached a ≡ n.world.newest a) → IsMomentOf d new n
moment_of_parts d old new shape n world remembers values pool formed staged clean = record {
  world = world;
  births = subst (λ (x : ShapeView). Remembers (place_of x) new.ledger.births n.calls) (sym shape) remembers;
  values = subst (λ (x : ShapeView). (s : Slot) → IsSlot (lay_of x) s → recorded_in new.ledger.births s ≡ true → marks.value_in new.ledger.births s ≡ cached_value (lay_of x) n.world s) (sym shape) values;
  pool = subst (λ (x : ShapeView). (p : ℕ) → IsData (lay_of x) p → told_of new.ledger.pool p ≡ n.pool p) (sym shape) pool;
  formed = subst (λ (x : ShapeView). (page : ℕ) → IsTable (lay_of x) page → is_formed x page (n.world.cached page) ≡ true) (sym shape) formed;
  staged = subst (λ (x : ShapeView). IsOrdered (lay_of x) n.world) (sym shape) staged;
  clean = clean;
}

-- the same moment, where the plain state is the same
pub moment_kept : (d : Meaning) (old new : Core) → new.shape ≡ old.shape → new.ledger.births ≡ old.ledger.births → new.ledger.pool ≡ old.ledger.pool → world_of d new ≡ world_of d old → (m : Moment) → IsMomentOf d old m → IsMomentOf d new m
moment_kept d old new shape births pool world m is = moment_of_parts d old new shape m (world ∙ is.world)
    (subst (λ b. Remembers (place_of old.shape) b m.calls) (sym births) is.births)
    (λ s slot rec. ap (λ b. marks.value_in b s) births ∙ is.values s slot (sym (ap (λ b. recorded_in b s) births) ∙ rec))
    (λ p kind. ap (λ q. told_of q p) pool ∙ is.pool p kind)
    is.formed is.staged is.clean

pub off_before : (x y : Bool) → (x ≡ true → y ≡ true) → y ≡ false → x ≡ false
off_before true y f e = sym (f refl) ∙ e
off_before false y f e = refl

-- contents and queue are the same, and what is dirty is dirty still
pub record Marks (w v : World) : Type 0 where
  pub newest : (a : ℕ) → v.newest a ≡ w.newest a
  pub cached : (a : ℕ) → v.cached a ≡ w.cached a
  pub queue : v.queue ≡ w.queue
  pub dirty : (a : ℕ) → w.dirty a ≡ true → v.dirty a ≡ true

pub marks_none : (w : World) → Marks w w
marks_none w = record { newest = λ a. refl; cached = λ a. refl; queue = refl; dirty = λ a h. h }

pub marks_touched : (page : ℕ) (w : World) → Marks w (touched page w)
marks_touched page w = record { newest = λ a. refl; cached = λ a. refl; queue = refl; dirty = λ a h. or_left _ _ h }

pub marks_ordered : (before after : ℕ) (w : World) → Marks w (ordered before after w)
marks_ordered before after w = record { newest = λ a. refl; cached = λ a. refl; queue = refl; dirty = λ a h. h }

pub marks_edge : (stage before after : ℕ) (w : World) → Marks w (map_edge stage before after w)
marks_edge stage before after w = by (eqb stage 0) (eqb stage 1)
  where
    by : (x y : Bool) → Marks w (cond x (ordered before after w) (cond y (ordered_by_barrier before after w) w))
    by true y = marks_ordered before after w
    by false true = record { newest = λ a. refl; cached = λ a. refl; queue = refl; dirty = λ a h. h }
    by false false = marks_none w

pub marks_then : (u v w : World) → Marks u v → Marks v w → Marks u w
marks_then u v w f g = record {
  newest = λ a. g.newest a ∙ f.newest a;
  cached = λ a. g.cached a ∙ f.cached a;
  queue = g.queue ∙ f.queue;
  dirty = λ a h. g.dirty a (f.dirty a h);
}

same_value : (lay : Layout) (w v : World) (s : Slot) → v.cached (births.place_of lay s) ≡ w.cached (births.place_of lay s) → cached_value lay w s ≡ cached_value lay v s
same_value lay w v s e = ap (births.value_in lay s) (sym e)

-- where marks and edges alone are others
pub marked : (d : Meaning) (old new : Core) (m : Moment) → IsMomentOf d old m → new.shape ≡ old.shape → new.ledger ≡ old.ledger → (w : World) → world_of d new ≡ w → Marks m.world w → IsOrdered (lay_of old.shape) w → IsMomentOf d new (in_state w m)
marked d old new m is shape ledger w world more staged = moment_of_parts d old new shape (in_state w m) world
    (subst (λ (l : Ledger). Remembers (place_of old.shape) l.births m.calls) (sym ledger) is.births)
    (λ s slot rec. ap (λ (l : Ledger). marks.value_in l.births s) ledger ∙ is.values s slot (sym (ap (λ (l : Ledger). recorded_in l.births s) ledger) ∙ rec) ∙ same_value (lay_of old.shape) m.world w s (more.cached (births.place_of (lay_of old.shape) s)))
    (λ p kind. ap (λ (l : Ledger). told_of l.pool p) ledger ∙ is.pool p kind)
    (λ page kind. ap (is_formed old.shape page) (more.cached page) ∙ is.formed page kind)
    staged
    (λ a off. more.cached a ∙ is.clean a (off_before (m.world.dirty a) (w.dirty a) (more.dirty a) off) ∙ sym (more.newest a))

-- the edge from the map page, as the stage asks for it
pub edge_live : (old new : Core) (r : Release) → r.stage ≡ 0 → Makes (ordered_after r.map_at r.count_at) old new → (r.stage ≡ 0 → dirty_in old.engine.graph r.map_at ≡ true) → Makes (map_edge r.stage r.map_at r.count_at) old new
edge_live old new r z makes dirty d = let w = world_of d old in
    makes d ∙ ap (λ (b : Bool). cond b (ordered r.map_at r.count_at w) (cond (w.hung r.map_at) (ordered_by_barrier r.map_at r.count_at w) w)) (dirty z) ∙ sym (ap (λ (n : ℕ). map_edge n r.map_at r.count_at w) z)

pub edge_barred : (old new : Core) (r : Release) → r.stage ≡ 1 → Makes (λ w. cond (w.hung r.map_at) (ordered_by_barrier r.map_at r.count_at w) w) old new → (r.stage ≡ 1 → hung_in old.engine.graph r.map_at ≡ true) → Makes (map_edge r.stage r.map_at r.count_at) old new
edge_barred old new r z makes hung d = let w = world_of d old in
    makes d ∙ ap (λ (b : Bool). cond b (ordered_by_barrier r.map_at r.count_at w) w) (hung z) ∙ sym (ap (λ (n : ℕ). map_edge n r.map_at r.count_at w) z)

pub edge_none : (core : Core) (r : Release) → (r.stage ≡ 0 → ⊥) → (r.stage ≡ 1 → ⊥) → Makes (map_edge r.stage r.map_at r.count_at) core core
edge_none core r first second d = let w = world_of d core in
    sym (ap (λ (b : Bool). cond b (ordered r.map_at r.count_at w) (cond (eqb r.stage 1) (ordered_by_barrier r.map_at r.count_at w) w)) (ne_eqb r.stage 0 first) ∙ ap (λ (b : Bool). cond b (ordered_by_barrier r.map_at r.count_at w) w) (ne_eqb r.stage 1 second))

-- and the edge from the print page, where the print was born
pub unborn_edge : (core : Core) (r : Release) → is_print_unborn core r ≡ true → Makes (λ w. cond (is_print_unborn core r) w (ordered r.print_at r.count_at w)) core core
unborn_edge core r unborn d = let w = world_of d core in sym (ap (λ (b : Bool). cond b w (ordered r.print_at r.count_at w)) unborn)

pub born_edge : (old new : Core) (r : Release) → is_print_unborn old r ≡ false → dirty_in old.engine.graph r.print_at ≡ true → Makes (ordered_after r.print_at r.count_at) old new → Makes (λ w. cond (is_print_unborn old r) w (ordered r.print_at r.count_at w)) old new
born_edge old new r born dirty makes d = let w = world_of d old in
    makes d ∙ ap (λ (b : Bool). cond b (ordered r.print_at r.count_at w) (cond (w.hung r.print_at) (ordered_by_barrier r.print_at r.count_at w) w)) dirty ∙ sym (ap (λ (b : Bool). cond b w (ordered r.print_at r.count_at w)) born)

-- what is cached of the pages of a release that are held
pub count_cached : (d : Meaning) (core : Core) (r : Release) → IsPlaced core.shape r → 0 < holds_in core.engine.cache r.count_at → cached_count (lay_of core.shape) (world_of d core) r.page ≡ count_of_release core r
count_cached d core r placed held = ap (λ (c : Block). count_in c r.page) (cached_held core r.count_at (count_page core.shape r.page) placed.count_at held d)

pub print_cached : (d : Meaning) (core : Core) (r : Release) → IsPlaced core.shape r → 0 < holds_in core.engine.cache r.print_at
    → cached_print (lay_of core.shape) (world_of d core) r.page ≡ print_entry_of (page_in core r.print_at) (print_place r.page)
print_cached d core r placed held = ap (λ (c : Block). print_entry_of c (print_place r.page)) (cached_held core r.print_at (print_page core.shape r.page) placed.print_at held d)

-- births answer as the moment knows
pub unborn_known : (d : Meaning) (core : Core) (m : Moment) (p : ℕ) → IsMomentOf d core m → is_unborn_in core.ledger.births (Print p) 1 ≡ (known_at (lay_of core.shape) m).unborn_print p
unborn_known d core m p is = unborn_remembered (place_of core.shape) core.ledger.births m.calls is.births (Print p) 1

pub name_known : (d : Meaning) (core : Core) (m : Moment) (l p : ℕ) → IsMomentOf d core m → is_unborn_in core.ledger.births (Name l) p ≡ (known_at (lay_of core.shape) m).unborn_name l p
name_known d core m l p is = unborn_remembered (place_of core.shape) core.ledger.births m.calls is.births (Name l) p

is_some_of : (o : Option (List ℕ)) (x : List ℕ) → o ≡ Some x → is_some o ≡ true
is_some_of o x e = ap is_some e

-- the test of the last print is that of the moment
pub last_alike : (d : Meaning) (core : Core) (m : Moment) (r : Release) → IsMomentOf d core m → IsPlaced core.shape r → 0 < holds_in core.engine.cache r.count_at → 0 < holds_in core.engine.cache r.print_at
    → (is_last_print core r ≡ true) ↔ IsLastPrint (lay_of core.shape) (known_at (lay_of core.shape) m) (world_of d core) r.page
last_alike d core m r is placed count_held print_held =
    let count = count_cached d core r placed count_held in
    let print = print_cached d core r placed print_held in
    let unborn = unborn_known d core m r.page is in (
      λ last.
          let one = and_parts _ _ last in
          let two = and_parts _ _ one.1 in
          let x = some_print (print_entry_of (page_in core r.print_at) (print_place r.page)) two.0 in
          (count ∙ eqb-true _ _ one.0, (x.0, print ∙ x.1), sym unborn ∙ not-true _ two.1),
      λ h. and_from _ _ (eq-eqb _ _ (sym count ∙ h.0)) (and_from _ _ (is_some_of _ h.1.0 (sym print ∙ h.1.1)) (ap not (unborn ∙ h.2))),
    )

-- the page of a slot is none of counts
slot_apart : (shape : ShapeView) (s : Slot) → IsSlot (lay_of shape) s → (p : ℕ) → IsData (lay_of shape) p → births.place_of (lay_of shape) s ≢ count_page shape p
slot_apart shape (Name l) lt p is = (apart_pages shape).map_count l p lt is
slot_apart shape (Print q) is_q p is = λ e. (apart_pages shape).count_print p q is is_q (sym e)

slot_table : (shape : ShapeView) (s : Slot) → IsSlot (lay_of shape) s → IsTable (lay_of shape) (births.place_of (lay_of shape) s)
slot_table shape (Name l) lt = inl (l, lt, refl)
slot_table shape (Print q) is_q = inr (q, is_q, inr refl)

put_other : (page : ℕ) (c : Block) (w : World) (a : ℕ) → a ≢ page → (put page c w).cached a ≡ w.cached a
put_other page c w a ne = ap (λ (b : Bool). cond b c (w.cached a)) (ne_eqb a page ne)

put_here : (page : ℕ) (c : Block) (w : World) (a : ℕ) → a ≡ page → (put page c w).cached a ≡ c
put_here page c w a is = ap (λ (b : Bool). cond b c (w.cached a)) (eq-eqb a page is)

put_formed : (shape : ShapeView) (page : ℕ) (c : Block) (w : World) → is_formed shape page c ≡ true → (a : ℕ) → is_formed shape a (w.cached a) ≡ true → is_formed shape a ((put page c w).cached a) ≡ true
put_formed shape page c w formed a was = elim (cases_eq a page) [
  | inl is ↦ ap (is_formed shape a) (put_here page c w a is) ∙ subst (λ (k : ℕ). is_formed shape k c ≡ true) (sym is) formed
  | inr ne ↦ ap (is_formed shape a) (put_other page c w a ne) ∙ was
]

put_clean : (page : ℕ) (c : Block) (w : World) → w.dirty page ≡ true → ((a : ℕ) → w.dirty a ≡ false → w.cached a ≡ w.newest a) → (a : ℕ) → w.dirty a ≡ false → (put page c w).cached a ≡ w.newest a
put_clean page c w dirty clean a off = put_other page c w a (λ is. true≢false (sym dirty ∙ ap w.dirty (sym is) ∙ off)) ∙ clean a off

queued_out : (xs ys : List plain.Release) (r : plain.Release) (l p stage : ℕ) → Queued (xs ++ ys) l p stage → Queued (xs ++ r ∷ ys) l p stage
queued_out [] ys r l p stage q = inr q
queued_out (x ∷ xs) ys r l p stage (inl h) = inl h
queued_out (x ∷ xs) ys r l p stage (inr t) = inr (queued_out xs ys r l p stage t)

pub split_plain : (rs : List Release) (i : ℕ) (r : Release) → slice_get rs i ≡ Some r → map plain_release rs ≡ map plain_release (take i rs) ++ plain_release r ∷ map plain_release (drop (suc i) rs)
split_plain rs i r queued = ap (map plain_release) (split_at rs i r queued) ∙ map-append plain_release (take i rs) (r ∷ drop (suc i) rs)

-- fewer are queued
pub fewer_out : (rs xs ys : List plain.Release) (r : plain.Release) → rs ≡ xs ++ r ∷ ys → FewerQueued (xs ++ ys) rs
fewer_out rs xs ys r was l p stage q = subst (λ (k : List plain.Release). Queued k l p stage) (sym was) (queued_out xs ys r l p stage q)

-- a count of a page that is well formed is none too many
few_counts : (shape : ShapeView) (p : ℕ) (c : Block) → 1 ≤ p → p ≤ shape.pages → is_formed shape (count_page shape p) c ≡ true → count_in c p ≤ 2147483647
few_counts shape p c first last formed = ((formed_count shape ((p - 1) / 1024) c (omega (arith, first, last))).0 formed).used ((p - 1) % 1024) (omega arith) (omega (arith, first, last))

-- a count is lowered, and its release leaves the queue
module _ (d : Meaning) (old new : Core) (m : Moment) (is : IsMomentOf d old m) (i : ℕ) (r : Release) (queued : slice_get old.ledger.queue.releases i ≡ Some r) (placed : IsPlaced old.shape r)
    (held : 0 < holds_in old.engine.cache r.count_at) (dirty : dirty_in old.engine.graph r.count_at ≡ true) (low : LowersCount i r old new) where
  abbrev at : ℕ
  at = count_page old.shape r.page

  abbrev left : ℕ
  left = count_of_release old r - 1

  abbrev before : List plain.Release
  before = map plain_release (take i old.ledger.queue.releases)

  abbrev after : List plain.Release
  after = map plain_release (drop (suc i) old.ledger.queue.releases)

  abbrev pub pool_left : ℕ → Told
  pool_left = cond (eqb left 0) (after_zeroed r.page m.pool) m.pool

  abbrev pub out : Moment
  out = with_release_out (lay_of old.shape) r.page low.page (before ++ after) pool_left m

  is_data : IsData (lay_of old.shape) r.page
  is_data = (placed.first, placed.last)

  cached_at : m.world.cached at ≡ page_in old r.count_at
  cached_at = ap (λ (w : World). w.cached at) (sym is.world) ∙ cached_held old r.count_at at placed.count_at held d

  dirty_at : m.world.dirty at ≡ true
  dirty_at = ap (λ (w : World). w.dirty at) (sym is.world) ∙ subst (λ (k : ℕ). dirty_in old.engine.graph k ≡ true) placed.count_at dirty

  formed_at : is_formed old.shape at (page_in old r.count_at) ≡ true
  formed_at = ap (is_formed old.shape at) (sym cached_at) ∙ is.formed at (inr (r.page, is_data, inl refl))

  pub sets_left : SetsCount (lay_of old.shape) (m.world.cached at) low.page r.page left
  sets_left = let few = few_counts old.shape r.page (page_in old r.count_at) placed.first placed.last formed_at in
      subst (λ (c : Block). SetsCount (lay_of old.shape) c low.page r.page left) (sym cached_at) (sets_count old.shape (page_in old r.count_at) low.page r.page left placed.first placed.last (omega (arith, few)) formed_at low.sets)

  pub count_left : cached_count (lay_of old.shape) out.world r.page ≡ left
  count_left = ap (λ (c : Block). count_in c r.page) (put_here at low.page m.world at refl) ∙ low.sets.here

  pub told_left : ToldZero (lay_of old.shape) r.page m out
  told_left = elim (cases_eq left 0) [
    | inl none ↦ inl (count_left ∙ none, λ q. ap (λ (b : Bool). cond b (after_zeroed r.page m.pool) m.pool q) (eq-eqb left 0 none))
    | inr some ↦ inr (inl (omega (arith, count_left, some)), λ q. ap (λ (b : Bool). cond b (after_zeroed r.page m.pool) m.pool q) (ne_eqb left 0 some))
  ]

  pool_is : (q : ℕ) → IsData (lay_of old.shape) q → told_of new.ledger.pool q ≡ pool_left q
  pool_is q kind = elim (cases_eq left 0) [
    | inl none ↦ (low.zero (low.sets.here ∙ none)).each q kind.0 kind.1 ∙ ap (λ (x : Told). after_zeroed r.page (λ a. x) q) (is.pool q kind) ∙ sym (ap (λ (b : Bool). cond b (after_zeroed r.page m.pool) m.pool q) (eq-eqb left 0 none))
    | inr some ↦ ap (λ v. told_of v q) (low.more (omega (arith, low.sets.here, some))) ∙ is.pool q kind ∙ sym (ap (λ (b : Bool). cond b (after_zeroed r.page m.pool) m.pool q) (ne_eqb left 0 some))
  ]

  queue_was : m.world.queue ≡ before ++ plain_release r ∷ after
  queue_was = ap (λ (w : World). w.queue) (sym is.world) ∙ split_plain old.ledger.queue.releases i r queued

  world_out : world_of d new ≡ out.world
  world_out = low.world d ∙ ap (λ (w : World). lowered r.count_at low.page (map plain_release (take i old.ledger.queue.releases ++ drop (suc i) old.ledger.queue.releases)) w) is.world
      ∙ ap (λ (k : ℕ). lowered k low.page (map plain_release (take i old.ledger.queue.releases ++ drop (suc i) old.ledger.queue.releases)) m.world) placed.count_at
      ∙ ap (λ (rs : List plain.Release). lowered at low.page rs m.world) (map-append plain_release (take i old.ledger.queue.releases) (drop (suc i) old.ledger.queue.releases))

  births_same : new.ledger.births ≡ old.ledger.births
  births_same = ap (λ (l : Ledger). l.births) low.ledger

  pub is_out : IsMomentOf d new out
  is_out = moment_of_parts d old new low.only.shape out world_out
      (subst (λ b. Remembers (place_of old.shape) b m.calls) (sym births_same) is.births)
      (λ s slot rec. ap (λ b. marks.value_in b s) births_same ∙ is.values s slot (sym (ap (λ b. recorded_in b s) births_same) ∙ rec)
      ∙ same_value (lay_of old.shape) m.world out.world s (put_other at low.page m.world (births.place_of (lay_of old.shape) s) (slot_apart old.shape s slot r.page is_data)))
      pool_is
      (λ page kind. put_formed old.shape at low.page m.world sets_left.formed page (is.formed page kind))
      (queue_order (lay_of old.shape) m.world is.staged at low.page (before ++ after) (fewer_out m.world.queue before after (plain_release r) queue_was))
      (put_clean at low.page m.world dirty_at is.clean)

-- a print goes
module _ (d : Meaning) (old new : Core) (m : Moment) (is : IsMomentOf d old m) (p : ℕ) (first : 1 ≤ p) (last : p ≤ old.shape.pages) (there : is_there old.engine.cache (print_page old.shape p) ≡ true) (dirty : dirty_in old.engine.graph (print_page old.shape p) ≡ true) (printed : PrintsPage p None old new)
    (print : List ℕ) (had : cached_print (lay_of old.shape) m.world p ≡ Some print) where
  abbrev print_at : ℕ
  print_at = print_page old.shape p

  abbrev pub gone : Moment
  gone = with_print (lay_of old.shape) p printed.page 1 0 m

  cached_print_at : m.world.cached print_at ≡ page_in old print_at
  cached_print_at = ap (λ (w : World). w.cached print_at) (sym is.world) ∙ cached_there d old print_at there

  print_formed : is_formed old.shape print_at (page_in old print_at) ≡ true
  print_formed = ap (is_formed old.shape print_at) (sym cached_print_at) ∙ is.formed print_at (inr (p, (first, last), inr refl))

  pub sets_none : SetsPrint (lay_of old.shape) (m.world.cached print_at) printed.page p None
  sets_none = subst (λ (c : Block). SetsPrint (lay_of old.shape) c printed.page p None) (sym cached_print_at) (sets_print old.shape (page_in old print_at) printed.page p None first last print_formed printed.sets)

  had_one : recorded_in old.ledger.births (Print p) ≡ true → marks.value_in old.ledger.births (Print p) ≡ 1
  had_one rec = is.values (Print p) (first, last) rec ∙ ap has_print had

  other_value : (s : Slot) → IsSlot (lay_of old.shape) s → same_slot (Print p) s ≡ false → cached_value (lay_of old.shape) m.world s ≡ cached_value (lay_of old.shape) gone.world s
  other_value (Name l) lt ne = same_value (lay_of old.shape) m.world gone.world (Name l) (put_other print_at printed.page m.world (map_page l) ((apart_pages old.shape).map_print l p lt (first, last)))
  other_value (Print q) kind ne = elim (cases_eq (print_page old.shape q) print_at) [
    | inl same ↦ ap has_print (sym (ap (λ (c : Block). print_entry_of c (print_place q)) (put_here print_at printed.page m.world (print_page old.shape q) same)
        ∙ sets_none.other q kind (λ e. true≢false (sym (ap (λ (k : ℕ). same_slot (Print p) (Print k)) e ∙ slot_same (Print p)) ∙ ne)) same
        ∙ ap (λ (k : ℕ). print_entry_of (m.world.cached k) (print_place q)) (sym same)))
    | inr away ↦ same_value (lay_of old.shape) m.world gone.world (Print q) (put_other print_at printed.page m.world (print_page old.shape q) away)
  ]

  value_is : (s : Slot) → IsSlot (lay_of old.shape) s → recorded_in new.ledger.births s ≡ true → marks.value_in new.ledger.births s ≡ cached_value (lay_of old.shape) gone.world s
  value_is s kind rec = let changed = printed.births had_one in elim (cases_Bool (same_slot (Print p) s)) [
    | inl here ↦ subst (λ (t : Slot). marks.value_in new.ledger.births t ≡ cached_value (lay_of old.shape) gone.world t) (slot_is (Print p) s here)
        (changed.value (Print p) ∙ ap (λ (b : Bool). cond b 0 (marks.value_in old.ledger.births (Print p))) (slot_same (Print p))
        ∙ sym (ap has_print (ap (λ (c : Block). print_entry_of c (print_place p)) (put_here print_at printed.page m.world print_at refl) ∙ sets_none.here)))
    | inr other ↦ changed.value s ∙ ap (λ (b : Bool). cond b 0 (marks.value_in old.ledger.births s)) other
        ∙ is.values s kind (sym (changed.recorded s ∙ ap (λ (b : Bool). b || recorded_in old.ledger.births s) other) ∙ rec) ∙ other_value s kind other
  ]

  pub is_gone : IsMomentOf d new gone
  is_gone = moment_of_parts d old new printed.only.shape gone (printed.world d ∙ ap (put print_at printed.page) is.world)
      (changed_remembered (place_of old.shape) old.ledger.births new.ledger.births m.calls is.births (Print p) print_at 1 0 refl (printed.births had_one))
      value_is
      (λ q kind. ap (λ (l : Ledger). told_of l.pool q) printed.ledger ∙ is.pool q kind)
      (λ page kind. put_formed old.shape print_at printed.page m.world sets_none.formed page (is.formed page kind))
      (put_order (lay_of old.shape) m.world is.staged print_at printed.page)
      (put_clean print_at printed.page m.world (ap (λ (w : World). w.dirty print_at) (sym is.world) ∙ dirty) is.clean)

-- a data page is given up
pub is_given : (d : Meaning) (old new : Core) (m : Moment) → IsMomentOf d old m → (p : ℕ) → IsData (lay_of old.shape) p → new.shape ≡ old.shape → new.ledger ≡ old.ledger → Makes (given_up (data_page old.shape p)) old new
    → IsMomentOf d new (in_state (given_up (data_page old.shape p) m.world) m)
is_given d old new m is p kind shape ledger makes =
    let at = data_page old.shape p in
    let apart = apart_pages old.shape in
    let kept : (page : ℕ) → IsTable (lay_of old.shape) page → (given_up at m.world).cached page ≡ m.world.cached page = λ page table. ap (λ (b : Bool). cond b (m.world.newest at) (m.world.cached page)) (ne_eqb page at (apart.table_data page p table kind)) in
    moment_of_parts d old new shape (in_state (given_up at m.world) m) (makes d ∙ ap (given_up at) is.world)
    (subst (λ (l : Ledger). Remembers (place_of old.shape) l.births m.calls) (sym ledger) is.births)
    (λ s slot rec. ap (λ (l : Ledger). marks.value_in l.births s) ledger ∙ is.values s slot (sym (ap (λ (l : Ledger). recorded_in l.births s) ledger) ∙ rec)
    ∙ same_value (lay_of old.shape) m.world (given_up at m.world) s (kept (births.place_of (lay_of old.shape) s) (slot_table old.shape s slot)))
    (λ q is_q. ap (λ (l : Ledger). told_of l.pool q) ledger ∙ is.pool q is_q)
    (λ page table. ap (is_formed old.shape page) (kept page table) ∙ is.formed page table)
    (give_up_order (lay_of old.shape) m.world is.staged apart p kind)
    (λ a off. elim (cases_eq a at) [
      | inl e ↦ ap (λ (b : Bool). cond b (m.world.newest at) (m.world.cached a)) (eq-eqb a at e) ∙ ap m.world.newest (sym e)
      | inr ne ↦ ap (λ (b : Bool). cond b (m.world.newest at) (m.world.cached a)) (ne_eqb a at ne) ∙ is.clean a (off_before (m.world.dirty a) (m.world.dirty a && not (eqb a at)) (λ h. and_from _ _ h (ap not (ne_eqb a at ne))) off)
    ])
