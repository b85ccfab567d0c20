-- A release that is applied, by the laws of the plain state.
use Rattle.std.proofs.Common.{arith, ◌≡◌, ◌↔◌, inl, inr, ◌<◌, ◌≤◌, ◌+◌, ◌-◌, ℕ, zero, suc, Bool, true, false, cond, refl, sym, ap, ◌∙◌, subst, List, [], ◌∷◌, ◌++◌, Some, None, map, take, drop, eqb, eq-eqb}
use Rattle.std.specs.Prelude.{slice_get}
use Rattle.std.proofs.lemmas.Bool.{cases_Bool, or_left, or_right}
use Rattle.std.proofs.lemmas.List.{map-append}
use Rattle.page_device.specs.Block.{Block}
use Rattle.page_device.specs.Meaning.{Meaning}
use Rattle.page_layout.specs.Shape.{ShapeView, count_page, data_page, map_page, print_page, print_place}
use Rattle.page_layout.specs.Tables.{print_entry_of}
use Rattle.page_cache.specs.View.{holds_in, is_there}
use Rattle.order_model.specs.Pool.{Told}
use Rattle.order_model.specs.World as plain
use Rattle.order_model.specs.World.{Queued, World, queued}
use Rattle.dep_graph.specs.Lists.{dirty_in, hung_in, live_in, waits_in}
use Rattle.dep_graph.proofs.ReadyLemmas.{none_waits}
use Rattle.order_model.specs.declared.Slot.TheVariants.{Print}
use Rattle.birth_marks.specs.Births.{Remembers, is_unborn_in, recorded_in, value_in}
use Rattle.page_alloc.specs.Pool.{told_of}
use Rattle.flush_engine.specs.View.{EngineView}
use Rattle.release_queue.specs.Needed.{IsBlocked as IsBlockedInQueue}
use Rattle.release_queue.specs.declared.Release.{Release}
use Rattle.release_queue.specs.Queued.{QueueLists}
use Rattle.engine_model.specs.AnyDevice.{IsOrdered}
use Rattle.engine_model.specs.Entries.{EdgeKind, cached_count, cached_print}
use Rattle.engine_model.specs.Invariant.{Moment, ToldZero, known_at}
use Rattle.engine_model.specs.Releases.{IsBlocked}
use Rattle.engine_model.specs.SmallPass.{Clears, ClearsLast, ClearsUnborn, GivenUp, GivesUp, NothingToClear, map_edge, print_readied, readied}
use Rattle.engine_model.specs.SmallRuns.{in_state, with_print, with_release_out}
use Rattle.engine_model.specs.SmallSteps.{SetsCount, SetsPrint, given_up, ordered, touched}
use Rattle.engine_model.proofs.Ordering.{barred_order, order_order, touch_order}
use Rattle.engine_model.proofs.AppliedFrames.{edge_cases}
use Rattle.store_core.specs.declared.Core.{Core}
use Rattle.store_core.specs.declared.ledger.Ledger.{Ledger}
use Rattle.store_core.specs.Layout.{lay_of, place_of}
use Rattle.store_core.specs.Views.{page_in, plain_release, world_in, world_of}
use Rattle.store_core.specs.Whole.{IsPlaced}
use Rattle.store_core.specs.Applied.{CanApply, count_of_release, has_print_of, is_last_print, is_print_unborn}
use Rattle.store_core.specs.Edits.{LowersCount, Makes}
use Rattle.store_core.specs.Frames.{KeepsStands}
use Rattle.store_core.specs.Moments.{AppliesByLaws, ClearsByLaws, GivesUpByLaws, IsMomentOf, LeavesByLaws, LowersByLaws}
use Rattle.store_core.specs.Printed.{PrintsPage}
use Rattle.store_core.proofs.Alike.{to_engine, to_queue}
use Rattle.store_core.proofs.AppliedStands.{print_kind, release_kind, some_print}
use Rattle.store_core.proofs.Moved.{Marks, count_cached, count_left, gone, is_given, is_gone, is_out, last_alike, marked, marks_edge, marks_ordered, marks_then, marks_touched, moment_of_parts, pool_left, print_cached, sets_left, sets_none, split_plain, fewer_out, told_left, unborn_known}
use Rattle.store_core.proofs.Queued.{queued_at}

-- a release has to wait by the test of the queue where it is blocked at the moment
pub blocked_alike_at : (d : Meaning) (core : Core) (m : Moment) (r : Release) → IsMomentOf d core m → IsPlaced core.shape r → 0 < holds_in core.engine.cache r.count_at → 0 < holds_in core.engine.cache r.print_at
    → IsBlockedInQueue (live_in core.engine.graph) r (is_last_print core r) ↔ IsBlocked (lay_of core.shape) (known_at (lay_of core.shape) m) m.world (plain_release r)
blocked_alike_at d core m r is placed count_held print_held =
    let known = known_at (lay_of core.shape) m in
    let last = last_alike d core m r is placed count_held print_held in (
      λ h. subst (λ (w : World). IsBlocked (lay_of core.shape) known w (plain_release r)) is.world (to_engine core.shape known (world_of d core) r (is_last_print core r) placed last h),
      λ h. to_queue core.shape known (world_of d core) r (is_last_print core r) placed last (subst (λ (w : World). IsBlocked (lay_of core.shape) known w (plain_release r)) (sym is.world) h),
    )

-- a queued release is counted among those of its page
abbrev one_if : Bool → ℕ
one_if b = cond b 1 0

one_queued : (xs : List Release) (i : ℕ) (r : Release) → slice_get xs i ≡ Some r → 0 < queued (map plain_release xs) r.page
one_queued [] i r e = cc
one_queued (x ∷ xs) zero r e =
    let same : x ≡ r = cc in
    let one : one_if (eqb x.page r.page) ≡ one_if true = ap one_if (eq-eqb x.page r.page (ap (λ (y : Release). y.page) same)) in
    omega (arith, one)
one_queued (x ∷ xs) (suc i) r e = let more = one_queued xs i r e in omega (arith, more)

-- nothing has to go
pub stays_cleared : (core : Core) (r : Release) → IsPlaced core.shape r → 0 < holds_in core.engine.cache r.count_at → (count_of_release core r ≡ 1 → ⊥) → ClearsByLaws r.page core core
stays_cleared core r placed held more d m is = (
  m,
  is,
  refl,
  λ count counted.
      let now : cached_count (lay_of core.shape) m.world r.page ≡ count_of_release core r = ap (λ (w : World). cached_count (lay_of core.shape) w r.page) (sym is.world) ∙ count_cached d core r placed held in
      NothingToClear (inl (some count (λ none. more (sym now ∙ sym counted ∙ ap (λ (n : ℕ). n + 1) none)))) refl,
)
  where
    some : (n : ℕ) → (n ≡ 0 → ⊥) → 0 < n
    some n ne = omega (arith, ne)

pub none_cleared : (core : Core) (r : Release) → IsPlaced core.shape r → 0 < holds_in core.engine.cache r.print_at → print_entry_of (page_in core r.print_at) (print_place r.page) ≡ None → ClearsByLaws r.page core core
none_cleared core r placed held none d m is = (
  m,
  is,
  refl,
  λ count counted.
      NothingToClear (inr (ap (λ (w : World). cached_print (lay_of core.shape) w r.page) (sym is.world) ∙ print_cached d core r placed held ∙ none)) refl,
)

-- a print goes, in its steps
module _ (a c n : Core) (r : Release) (placed : IsPlaced a.shape r) (shape : c.shape ≡ a.shape) (ledger : c.ledger ≡ a.ledger) (held_count : 0 < holds_in a.engine.cache r.count_at) (held : 0 < holds_in a.engine.cache r.print_at)
    (there : is_there c.engine.cache r.print_at ≡ true) (dirty : dirty_in c.engine.graph r.print_at ≡ true) (one : count_of_release a r ≡ 1) (had : has_print_of a r ≡ true) (world : Makes (λ w. cond (is_print_unborn a r) (touched r.print_at w) (ordered r.print_at r.count_at (touched r.print_at w))) a c) (printed : PrintsPage r.page None c n) where
  -- from whichever moment the core is then
  abbrev Goes : ShapeView → (d : Meaning) → Moment → Type 0
  Goes x d m = (k : Moment) × IsMomentOf d n k × (k.array ≡ m.array) × ((page : Block) × SetsPrint (lay_of x) (m.world.cached (print_page x r.page)) page r.page None × (k ≡ with_print (lay_of x) r.page page 1 0 m))

  goes : (d : Meaning) (m : Moment) → IsMomentOf d c m → (print : List ℕ) → cached_print (lay_of a.shape) m.world r.page ≡ Some print → Goes a.shape d m
  goes d m is print some =
      let first = placed.first in
      let last : r.page ≤ c.shape.pages = subst (λ (x : ShapeView). r.page ≤ x.pages) (sym shape) placed.last in
      let here : is_there c.engine.cache (print_page c.shape r.page) ≡ true = subst (λ (x : ShapeView). is_there c.engine.cache (print_page x r.page) ≡ true) (sym shape) (subst (λ (k : ℕ). is_there c.engine.cache k ≡ true) placed.print_at there) in
      let marked_at : dirty_in c.engine.graph (print_page c.shape r.page) ≡ true = subst (λ (x : ShapeView). dirty_in c.engine.graph (print_page x r.page) ≡ true) (sym shape) (subst (λ (k : ℕ). dirty_in c.engine.graph k ≡ true) placed.print_at dirty) in
      let at : cached_print (lay_of c.shape) m.world r.page ≡ Some print = subst (λ (x : ShapeView). cached_print (lay_of x) m.world r.page ≡ Some print) (sym shape) some in
      subst (λ (x : ShapeView). Goes x d m) shape
      (gone d c n m is r.page first last here marked_at printed print at, is_gone d c n m is r.page first last here marked_at printed print at, refl, (printed.page, sets_none d c n m is r.page first last here marked_at printed print at, refl))

  world_of_print : (d : Meaning) (m : Moment) → IsMomentOf d a m → (u : Bool) → is_print_unborn a r ≡ u
      → world_of d c ≡ cond u (touched (print_page a.shape r.page) m.world) (ordered (print_page a.shape r.page) (count_page a.shape r.page) (touched (print_page a.shape r.page) m.world))
  world_of_print d m is u unborn = world d
      ∙ ap (λ (w : World). cond (is_print_unborn a r) (touched r.print_at w) (ordered r.print_at r.count_at (touched r.print_at w))) is.world
      ∙ ap (λ (b : Bool). cond b (touched r.print_at m.world) (ordered r.print_at r.count_at (touched r.print_at m.world))) unborn
      ∙ ap (λ (k : ℕ). cond u (touched k m.world) (ordered k r.count_at (touched k m.world))) placed.print_at
      ∙ ap (λ (k : ℕ). cond u (touched (print_page a.shape r.page) m.world) (ordered (print_page a.shape r.page) k (touched (print_page a.shape r.page) m.world))) placed.count_at

  pub print_cleared : ClearsByLaws r.page a n
  print_cleared d m is =
      let lay = lay_of a.shape in
      let x = some_print (print_entry_of (page_in a r.print_at) (print_place r.page)) had in
      let some : cached_print lay m.world r.page ≡ Some x.0 = ap (λ (w : World). cached_print lay w r.page) (sym is.world) ∙ print_cached d a r placed held ∙ x.1 in
      let now : cached_count lay m.world r.page ≡ 1 = ap (λ (w : World). cached_count lay w r.page) (sym is.world) ∙ count_cached d a r placed held_count ∙ one in
      let known = unborn_known d a m r.page is in
      elim (cases_Bool (is_print_unborn a r)) [
        | inl unborn ↦
            let w = touched (print_page a.shape r.page) m.world in
            let g = goes d (in_state w m) (marked d a c m is shape ledger w (world_of_print d m is true unborn) (marks_touched (print_page a.shape r.page) m.world) (touch_order lay m.world is.staged (print_page a.shape r.page))) x.0 some in
            (g.0, g.1, g.2, λ count counted. ClearsUnborn g.3.0 x.0 (omega (arith, counted, now)) some (sym known ∙ unborn) g.3.1 g.3.2)
        | inr born ↦
            let w = print_readied lay r.page m.world in
            let more = marks_then m.world (touched (print_page a.shape r.page) m.world) w (marks_touched (print_page a.shape r.page) m.world) (marks_ordered (print_page a.shape r.page) (count_page a.shape r.page) (touched (print_page a.shape r.page) m.world)) in
            let staged = order_order lay (touched (print_page a.shape r.page) m.world) (touch_order lay m.world is.staged (print_page a.shape r.page)) (print_page a.shape r.page) (count_page a.shape r.page)
            (subst (λ (k : ℕ). EdgeKind lay (print_page a.shape r.page) k) placed.count_at (subst (λ (k : ℕ). EdgeKind lay k r.count_at) placed.print_at (print_kind a.shape r placed))) (or_right _ _ (eq-eqb (print_page a.shape r.page) (print_page a.shape r.page) refl)) in
            let g = goes d (in_state w m) (marked d a c m is shape ledger w (world_of_print d m is false born) more staged) x.0 some in
            (g.0, g.1, g.2, λ count counted. ClearsLast g.3.0 x.0 (omega (arith, counted, now)) some (sym known ∙ born) g.3.1 g.3.2)
      ]

-- the print page is dirty, and ordered where the print was born
pub print_ordered : (a b c : Core) (r : Release) → Makes (touched r.print_at) a b → b.ledger ≡ a.ledger → Makes (λ w. cond (is_print_unborn b r) w (ordered r.print_at r.count_at w)) b c
    → Makes (λ w. cond (is_print_unborn a r) (touched r.print_at w) (ordered r.print_at r.count_at (touched r.print_at w))) a c
print_ordered a b c r touches ledger orders d = orders d ∙ ap (λ (w : World). cond (is_print_unborn b r) w (ordered r.print_at r.count_at w)) (touches d)
    ∙ ap (λ (l : Ledger). cond (is_unborn_in l.births (Print r.page) 1) (touched r.print_at (world_of d a)) (ordered r.print_at r.count_at (touched r.print_at (world_of d a)))) ledger

-- a release, in its steps
module _ (a b c e n : Core) (i : ℕ) (r : Release) (can : CanApply i r a) (placed : IsPlaced a.shape r) where
  module _ (touches : Makes (touched r.count_at) a b) (dirty : (q : ℕ) → dirty_in a.engine.graph q ≡ true → dirty_in b.engine.graph q ≡ true) (hung : (q : ℕ) → hung_in b.engine.graph q ≡ hung_in a.engine.graph q)
      (orders : (r.stage ≡ 0 → dirty_in b.engine.graph r.map_at ≡ true) → (r.stage ≡ 1 → hung_in b.engine.graph r.map_at ≡ true) → Makes (map_edge r.stage r.map_at r.count_at) b c)
      (shape_c : c.shape ≡ a.shape) (ledger_c : c.ledger ≡ a.ledger) (shape_e : e.shape ≡ a.shape) (queue_e : e.ledger.queue ≡ a.ledger.queue)
      (held_e : 0 < holds_in e.engine.cache r.count_at) (dirty_e : dirty_in e.engine.graph r.count_at ≡ true) (count_e : count_of_release e r ≡ count_of_release a r) (clears : ClearsByLaws r.page c e) (low : LowersCount i r e n) where
    staged_dirty : (d : Meaning) (m : Moment) → IsMomentOf d a m → r.stage ≡ 0 → dirty_in b.engine.graph r.map_at ≡ true
    staged_dirty d m is z =
        let q : Queued m.world.queue r.block r.page 0 = subst (λ (w : World). Queued w.queue r.block r.page 0) is.world (queued_at a.ledger.queue.releases i r 0 can.queued z) in
        let at : (world_of d a).dirty (map_page r.block) ≡ true = ap (λ (w : World). w.dirty (map_page r.block)) is.world ∙ is.staged.zero_dirty r.block r.page q in
        dirty r.map_at (subst (λ (k : ℕ). dirty_in a.engine.graph k ≡ true) (sym placed.map_at) at)

    staged_hung : (d : Meaning) (m : Moment) → IsMomentOf d a m → r.stage ≡ 1 → hung_in b.engine.graph r.map_at ≡ true
    staged_hung d m is z =
        let q : Queued m.world.queue r.block r.page 1 = subst (λ (w : World). Queued w.queue r.block r.page 1) is.world (queued_at a.ledger.queue.releases i r 1 can.queued z) in
        let at : (world_of d a).hung (map_page r.block) ≡ true = ap (λ (w : World). w.hung (map_page r.block)) is.world ∙ is.staged.one_hung r.block r.page q in
        hung r.map_at ∙ subst (λ (k : ℕ). hung_in a.engine.graph k ≡ true) (sym placed.map_at) at

    abbrev lay_a : plain.Layout
    lay_a = lay_of a.shape

    abbrev ready : Moment → World
    ready m = readied lay_a (plain_release r) m.world

    world_c : (d : Meaning) (m : Moment) → IsMomentOf d a m → world_of d c ≡ ready m
    world_c d m is = orders (staged_dirty d m is) (staged_hung d m is) d
        ∙ ap (map_edge r.stage r.map_at r.count_at) (touches d ∙ ap (touched r.count_at) is.world)
        ∙ ap (λ (k : ℕ). map_edge r.stage k r.count_at (touched r.count_at m.world)) placed.map_at
        ∙ ap (λ (k : ℕ). map_edge r.stage (map_page r.block) k (touched k m.world)) placed.count_at

    marks_ready : (m : Moment) → Marks m.world (ready m)
    marks_ready m = marks_then m.world (touched (count_page a.shape r.page) m.world) (ready m) (marks_touched (count_page a.shape r.page) m.world) (marks_edge r.stage (map_page r.block) (count_page a.shape r.page) (touched (count_page a.shape r.page) m.world))

    order_ready : (m : Moment) → IsOrdered lay_a m.world → Queued m.world.queue r.block r.page r.stage → IsOrdered lay_a (ready m)
    order_ready m k q =
        let kind : EdgeKind lay_a (map_page r.block) (count_page a.shape r.page) = subst (λ (x : ℕ). EdgeKind lay_a (map_page r.block) x) placed.count_at (subst (λ (x : ℕ). EdgeKind lay_a x r.count_at) placed.map_at (release_kind a.shape r placed)) in
        let begun = touched (count_page a.shape r.page) m.world in
        let old = touch_order lay_a m.world k (count_page a.shape r.page) in
        edge_cases (IsOrdered lay_a) r.stage (map_page r.block) (count_page a.shape r.page) begun
        (λ z. order_order lay_a begun old (map_page r.block) (count_page a.shape r.page) kind (or_left _ _ (k.zero_dirty r.block r.page (subst (λ (s : ℕ). Queued m.world.queue r.block r.page s) z q))))
        (λ o. barred_order lay_a begun old (map_page r.block) (count_page a.shape r.page) kind) old

    -- the count that is left, from whichever moment the core is then
    record Lowered (x : ShapeView) (d : Meaning) (k : Moment) : Type 0 where
      pub page : Block
      pub pool : ℕ → Told
      pub sets : SetsCount (lay_of x) (k.world.cached (count_page x r.page)) page r.page (count_of_release e r - 1)
      pub left : cached_count (lay_of x) (with_release_out (lay_of x) r.page page (map plain_release (take i e.ledger.queue.releases) ++ map plain_release (drop (suc i) e.ledger.queue.releases)) pool k).world r.page ≡ count_of_release e r - 1
      pub told : ToldZero (lay_of x) r.page k (with_release_out (lay_of x) r.page page (map plain_release (take i e.ledger.queue.releases) ++ map plain_release (drop (suc i) e.ledger.queue.releases)) pool k)
      pub is : IsMomentOf d n (with_release_out (lay_of x) r.page page (map plain_release (take i e.ledger.queue.releases) ++ map plain_release (drop (suc i) e.ledger.queue.releases)) pool k)

    lowers : (d : Meaning) (k : Moment) → IsMomentOf d e k → Lowered a.shape d k
    lowers d k is =
        let there : IsPlaced e.shape r = subst (λ (x : ShapeView). IsPlaced x r) (sym shape_e) placed in
        let queued : slice_get e.ledger.queue.releases i ≡ Some r = subst (λ (q : QueueLists). slice_get q.releases i ≡ Some r) (sym queue_e) can.queued in
        subst (λ (x : ShapeView). Lowered x d k) shape_e (record {
          page = low.page;
          pool = pool_left d e n k is i r queued there held_e dirty_e low;
          sets = sets_left d e n k is i r queued there held_e dirty_e low;
          left = count_left d e n k is i r queued there held_e dirty_e low;
          told = told_left d e n k is i r queued there held_e dirty_e low;
          is = is_out d e n k is i r queued there held_e dirty_e low;
        })

    cleared_at : (d : Meaning) (m : Moment) → IsMomentOf d c m → (k : Moment) × IsMomentOf d e k × (k.array ≡ m.array) × ((count : ℕ) → count + 1 ≡ cached_count lay_a m.world r.page → Clears lay_a r.page count m k)
    cleared_at d m is = subst (λ (x : ShapeView). (k : Moment) × IsMomentOf d e k × (k.array ≡ m.array) × ((count : ℕ) → count + 1 ≡ cached_count (lay_of x) m.world r.page → Clears (lay_of x) r.page count m k)) shape_c (clears d m is)

    not_blocked : (d : Meaning) (m : Moment) → IsMomentOf d a m → IsBlocked lay_a (known_at lay_a m) m.world (plain_release r) → ⊥
    not_blocked d m is blocked = can.opens ((blocked_alike_at d a m r is placed can.count_held can.print_held).1 blocked)

    pub release_lowered : LowersByLaws i r a n
    release_lowered d m is =
        let is_c = marked d a c m is shape_c ledger_c (ready m) (world_c d m is) (marks_ready m) (order_ready m is.staged (subst (λ (w : World). Queued w.queue r.block r.page r.stage) is.world (queued_at a.ledger.queue.releases i r r.stage can.queued refl))) in
        let cl = cleared_at d (in_state (ready m) m) is_c in
        let lo = lowers d cl.0 cl.1 in
        let same_count : cached_count lay_a (ready m) r.page ≡ cached_count lay_a m.world r.page = ap (λ (x : Block). lay_a.count_in x r.page) ((marks_ready m).cached (count_page a.shape r.page)) in
        let now : cached_count lay_a m.world r.page ≡ count_of_release a r = ap (λ (w : World). cached_count lay_a w r.page) (sym is.world) ∙ count_cached d a r placed can.count_held in
        let counted : (count_of_release e r - 1) + 1 ≡ cached_count lay_a m.world r.page = let some = can.counted in omega (arith, some, count_e, now) in
        let queues : map plain_release (take i e.ledger.queue.releases) ++ map plain_release (drop (suc i) e.ledger.queue.releases) ≡ map plain_release (take i a.ledger.queue.releases) ++ map plain_release (drop (suc i) a.ledger.queue.releases)
        = ap (λ (q : QueueLists). map plain_release (take i q.releases) ++ map plain_release (drop (suc i) q.releases)) queue_e in
        let before = map plain_release (take i a.ledger.queue.releases) in
        let after = map plain_release (drop (suc i) a.ledger.queue.releases) in
        let at = λ (rs : List plain.Release). with_release_out lay_a r.page lo.page rs lo.pool cl.0 in
        let o = at (before ++ after) in (
          o,
          subst (λ (rs : List plain.Release). IsMomentOf d n (at rs)) queues lo.is,
          cl.2,
          λ k gives. record {
            not_blocked = not_blocked d m is;
            count = count_of_release e r - 1;
            counted = counted;
            cleared = cl.0;
            clears = cl.3 (count_of_release e r - 1) (counted ∙ sym same_count);
            content = lo.page;
            sets = lo.sets;
            pool = lo.pool;
            told = subst (λ (rs : List plain.Release). ToldZero lay_a r.page cl.0 (at rs)) queues lo.told;
            gives_up = subst (λ (count : ℕ). GivesUp lay_a r.page count o k) (subst (λ (rs : List plain.Release). cached_count lay_a (at rs).world r.page ≡ count_of_release e r - 1) queues lo.left) gives;
          },
        )

-- the data page goes
pub goes_away : (old new : Core) (r : Release) → IsPlaced old.shape r → 0 < holds_in old.engine.cache r.count_at → count_of_release old r ≡ 0 → waits_in old.engine.graph (data_page old.shape r.page) ≡ false → new.shape ≡ old.shape → new.ledger ≡ old.ledger
    → Makes (given_up (data_page old.shape r.page)) old new → GivesUpByLaws r.page old new
goes_away old new r placed held none alone shape ledger makes d m is = (
  in_state (given_up (data_page old.shape r.page) m.world) m,
  is_given d old new m is r.page (placed.first, placed.last) shape ledger makes,
  refl,
  GivenUp (ap (λ (w : World). cached_count (lay_of old.shape) w r.page) (sym is.world) ∙ count_cached d old r placed held ∙ none)
      (λ a. subst (λ (w : World). w.live a (data_page old.shape r.page) ≡ false) is.world ((none_waits old.engine.graph (data_page old.shape r.page)).0 alone a).0) refl,
)

-- both, one after the other
pub laws_compose : (a b c : Core) (i : ℕ) (r : Release) → b.shape ≡ a.shape → LowersByLaws i r a b → GivesUpByLaws r.page b c → AppliesByLaws i r a c
laws_compose a b c i r shape lowers gives d m is =
    let o = lowers d m is in
    let g = subst (λ (x : ShapeView). (k : Moment) × IsMomentOf d c k × (k.array ≡ o.0.array) × GivesUp (lay_of x) r.page (cached_count (lay_of x) o.0.world r.page) o.0 k) shape (gives d o.0 o.1) in
    (g.0, g.1, g.2 ∙ o.2, o.3 g.0 g.3)

-- a release on a count of 0 leaves the queue
pub leaves_queue : (old new : Core) (i : ℕ) (r : Release) → slice_get old.ledger.queue.releases i ≡ Some r → IsPlaced old.shape r → 0 < holds_in old.engine.cache r.count_at → count_of_release old r ≡ 0 → new.shape ≡ old.shape → new.engine ≡ old.engine
    → new.ledger ≡ record old.ledger { queue = record old.ledger.queue { releases = take i old.ledger.queue.releases ++ drop (suc i) old.ledger.queue.releases } } → LeavesByLaws i r old new
leaves_queue old new i r queued placed held none shape engine ledger d m is =
    let before = map plain_release (take i old.ledger.queue.releases) in
    let after = map plain_release (drop (suc i) old.ledger.queue.releases) in
    let w = record m.world { queue = before ++ after } in
    let queue : map plain_release new.ledger.queue.releases ≡ before ++ after = ap (λ (l : Ledger). map plain_release l.queue.releases) ledger ∙ map-append plain_release (take i old.ledger.queue.releases) (drop (suc i) old.ledger.queue.releases) in
    let world : world_of d new ≡ w = ap (λ (x : EngineView). world_in d x.cache x.graph new.ledger.queue) engine ∙ ap (λ (rs : List plain.Release). record (world_of d old) { queue = rs }) queue ∙ ap (λ (x : World). record x { queue = before ++ after }) is.world in
    let was : m.world.queue ≡ before ++ plain_release r ∷ after = ap (λ (x : World). x.queue) (sym is.world) ∙ split_plain old.ledger.queue.releases i r queued in
    let fewer = fewer_out m.world.queue before after (plain_release r) was in (
      in_state w m,
      moment_of_parts d old new shape (in_state w m) world
          (subst (λ (l : Ledger). Remembers (place_of old.shape) l.births m.calls) (sym ledger) is.births)
          (λ s slot rec. ap (λ (l : Ledger). value_in l.births s) ledger ∙ is.values s slot (sym (ap (λ (l : Ledger). recorded_in l.births s) ledger) ∙ rec))
          (λ p kind. ap (λ (l : Ledger). told_of l.pool p) ledger ∙ is.pool p kind)
          is.formed
          (record {
            live_before = is.staged.live_before;
            edge_kinds = is.staged.edge_kinds;
            zero_dirty = λ l p q. is.staged.zero_dirty l p (fewer l p 0 q);
            one_hung = λ l p q. is.staged.one_hung l p (fewer l p 1 q);
            in_range = λ l p stage q. is.staged.in_range l p stage (fewer l p stage q);
          })
          is.clean,
      refl,
      record { no_count = ap (λ (x : World). cached_count (lay_of old.shape) x r.page) (sym is.world) ∙ count_cached d old r placed held ∙ none; is = refl },
    )

-- and no array stands then, since each queued release has its count
pub leaves_stands : (old new : Core) (i : ℕ) (r : Release) → slice_get old.ledger.queue.releases i ≡ Some r → IsPlaced old.shape r → 0 < holds_in old.engine.cache r.count_at → count_of_release old r ≡ 0 → KeepsStands old new
leaves_stands old new i r queued placed held none = λ sound d array s.
    let enough = (s.kept.counts.count_balance r.page (placed.first, placed.last)).enough in
    let zero : cached_count (lay_of old.shape) (world_of d old) r.page ≡ 0 = count_cached d old r placed held ∙ none in
    let some = one_queued old.ledger.queue.releases i r queued in
    absurd (omega (arith, enough, zero, some))
