-- What a look at one release does, as a part of a pass: it stays, it is passed over, or it left.
use Rattle.std.proofs.Common.{arith, ◌≡◌, inl, inr, ◌+◌, ◌<◌, ◌≤◌, ℕ, zero, suc, Bool, true, false, not, ◌&&◌, ◌||◌, cond, refl, sym, ap, ◌∙◌, subst, List, [], ◌∷◌, ◌++◌, length, map, take, drop, None, Some, eqb, eq-eqb, ne_eqb}
use Rattle.std.proofs.lemmas.Bool.{cases_eq}
use Rattle.std.proofs.lemmas.List.{map-append}
use Rattle.std.proofs.lemmas.Option.{slice_get-get_or}
use Rattle.std.specs.Prelude.{get_or, slice_get}
use Rattle.std.specs.List.{remove}
use Rattle.page_device.specs.Meaning.{Meaning}
use Rattle.page_cache.specs.View.{content_in, holds_in}
use Rattle.dep_graph.specs.Pages.{holds}
use Rattle.finger_table.specs.Index.{PrintsView}
use Rattle.order_model.specs.World as plain
use Rattle.order_model.specs.World.{IsData, World}
use Rattle.birth_marks.specs.Births.{Remembers, recorded_in, value_in}
use Rattle.page_alloc.specs.Pool.{told_of}
use Rattle.release_queue.specs.Queued.{QueueLists, is_marked, unmarked}
use Rattle.release_queue.specs.declared.Release.{Release}
use Rattle.release_queue.proofs.LookLemmas.{unmarked_length}
use Rattle.flush_engine.specs.View.{EngineView}
use Rattle.engine_model.specs.Entries.{cached_count, cached_print}
use Rattle.engine_model.specs.Invariant.{Moment, known_at}
use Rattle.engine_model.specs.Releases.{IsBlocked}
use Rattle.engine_model.specs.SmallPass.{SmallPass}
use Rattle.engine_model.specs.Tight.{live_pages}
use Rattle.store_core.specs.declared.Core.{Core}
use Rattle.store_core.specs.declared.ledger.Ledger.{Ledger}
use Rattle.store_core.specs.Applied.{Takes, is_last_print}
use Rattle.store_core.specs.Frames.{KeepsStands}
use Rattle.store_core.specs.Layout.{lay_of, place_of}
use Rattle.store_core.specs.Moments.{IsMomentOf, queued_after, queued_before}
use Rattle.store_core.specs.Orderly.{HasToWait, IsLooked, IsOrderly}
use Rattle.store_core.specs.Owed.{IsProvided, held_for, held_for_all}
use Rattle.store_core.specs.Passing.{Forgets, Frees, PassFrame, looked, was_freed}
use Rattle.store_core.specs.PassParts.{LeavesFrom, PartLeaves, PassPart, TakesOut, freed_pages}
use Rattle.store_core.specs.Views.{plain_release, world_in, world_of}
use Rattle.store_core.specs.Whole.{IsPlaced}
use Rattle.store_core.proofs.Alike.{to_engine}
use Rattle.store_core.proofs.Clean.{apart_pages}
use Rattle.store_core.proofs.Grown.{takes_none}
use Rattle.store_core.proofs.Moved.{last_alike, moment_of_parts}
use Rattle.store_core.proofs.OrderlyReleases.{plain_unmarked}
use Rattle.store_core.proofs.Owing.{HasPages, all_at, held_removed, length_removed, pages_held}
use Rattle.store_core.proofs.PartLemmas.{forgets_none, frees_none, part_then}
use Rattle.store_core.proofs.Queued.{placed_at}
use Rattle.store_core.proofs.QueueParts.{drop_at, drop_looked, drop_removed, held_looked, leaves_looked, leaves_removed, marked_is, take_looked, take_removed, unmarked_same}
use Rattle.store_core.proofs.Spending.{spends_none}
use Rattle.store_core.proofs.TakenOut.{taken_live, taken_lower, taken_other, taken_print}

-- the same parts, but for marks
abbrev pub SameButLooks : ℕ → Core → Core → Type 0
SameButLooks i a b = (b.shape ≡ a.shape) × (b.engine ≡ a.engine) × (b.ledger ≡ record a.ledger { queue = record a.ledger.queue { releases = unmarked i a.ledger.queue.releases } })

-- the pages of a queued release are held
pub count_held : (core : Core) (i : ℕ) (r : Release) → IsProvided core → slice_get core.ledger.queue.releases i ≡ Some r → 0 < holds_in core.engine.cache r.count_at
count_held core i r provided at = (all_at (HasPages (holds_in core.engine.cache)) core.ledger.queue.releases i r at (pages_held core.ledger.queue.releases (holds_in core.engine.cache) provided.holds_owed)).0

pub print_held : (core : Core) (i : ℕ) (r : Release) → IsProvided core → slice_get core.ledger.queue.releases i ≡ Some r → 0 < holds_in core.engine.cache r.print_at
print_held core i r provided at = (all_at (HasPages (holds_in core.engine.cache)) core.ledger.queue.releases i r at (pages_held core.ledger.queue.releases (holds_in core.engine.cache) provided.holds_owed)).1

module _ (a b : Core) (i : ℕ) (same : SameButLooks i a b) where
  pub releases_looked : b.ledger.queue.releases ≡ unmarked i a.ledger.queue.releases
  releases_looked = ap (λ (l : Ledger). l.queue.releases) same.2

  pub world_looked : (d : Meaning) → world_of d b ≡ world_of d a
  world_looked d = ap (λ (e : EngineView). world_in d e.cache e.graph b.ledger.queue) same.1
      ∙ ap (λ (rs : List plain.Release). record (world_of d a) { queue = rs }) (ap (map plain_release) releases_looked ∙ plain_unmarked a b same.0 same.1 (ap (λ (l : Ledger). l.births) same.2) i a.ledger.queue.releases)

  moment_looked : (d : Meaning) (m : Moment) → IsMomentOf d a m → IsMomentOf d b m
  moment_looked d m is = moment_of_parts d a b same.0 m (world_looked d ∙ is.world)
      (subst (λ (l : Ledger). Remembers (place_of a.shape) l.births m.calls) (sym same.2) is.births)
      (λ s slot rec. ap (λ (l : Ledger). value_in l.births s) same.2 ∙ is.values s slot (sym (ap (λ (l : Ledger). recorded_in l.births s) same.2) ∙ rec))
      (λ p kind. ap (λ (l : Ledger). told_of l.pool p) same.2 ∙ is.pool p kind)
      is.formed is.staged is.clean

  pub frame_looked : PassFrame 0 a b
  frame_looked =
      let held : (q : ℕ) → held_for_all b.ledger.queue.releases q ≡ held_for_all a.ledger.queue.releases q = λ q. ap (λ (l : List Release). held_for_all l q) releases_looked ∙ held_looked a.ledger.queue.releases i q in
      let births : b.ledger.births.spare ≡ a.ledger.births.spare = ap (λ (l : Ledger). l.births.spare) same.2 in
      record {
        shape = same.0;
        limit = ap (λ (l : Ledger). l.queue.limit) same.2;
        left = let e : length b.ledger.queue.releases ≡ length a.ledger.queue.releases = ap (λ (l : List Release). length l) releases_looked ∙ unmarked_length a.ledger.queue.releases i in omega (arith, e);
        holds = record { holds = λ q. let h = held q in let e : holds_in b.engine.cache q ≡ holds_in a.engine.cache q = ap (λ (e : EngineView). holds_in e.cache q) same.1 in omega (arith, h, e) };
        fewer = λ q. let h = held q in omega (arith, h);
        held = λ q some none. ap (λ (e : EngineView). content_in e.cache q) same.1;
        spends = record { engine = subst (λ (e : EngineView). Takes 0 0 a.engine e) (sym same.1) (takes_none a.engine); births = omega (arith, births) };
      }

  -- a release that has to wait
  module _ (r : Release) (at : slice_get a.ledger.queue.releases i ≡ Some r) (provided : IsProvided a) (waits : HasToWait a r) where
    blocked_at : (d : Meaning) (m : Moment) → IsMomentOf d a m → IsBlocked (lay_of a.shape) (known_at (lay_of a.shape) m) m.world (plain_release r)
    blocked_at d m is =
        let placed = placed_at a.shape a.ledger.queue.releases i r at a.whole.placed in
        subst (λ (w : World). IsBlocked (lay_of a.shape) (known_at (lay_of a.shape) m) w (plain_release r)) is.world
        (to_engine a.shape (known_at (lay_of a.shape) m) (world_of d a) r (is_last_print a r) placed (last_alike d a m r is placed (count_held a i r provided at) (print_held a i r provided at)) waits)

    kept_looked : map plain_release (take (suc i) b.ledger.queue.releases) ≡ map plain_release (take i a.ledger.queue.releases) ++ plain_release r ∷ []
    kept_looked = ap (λ (l : List Release). map plain_release (take (suc i) l)) releases_looked ∙ ap (map plain_release) (take_looked a.ledger.queue.releases i r at) ∙ map-append plain_release (take i a.ledger.queue.releases) (looked r ∷ [])

    todo_looked : map plain_release (drop (suc i) b.ledger.queue.releases) ≡ map plain_release (drop (suc i) a.ledger.queue.releases)
    todo_looked = ap (λ (l : List Release). map plain_release (drop (suc i) l)) releases_looked ∙ ap (map plain_release) (drop_looked a.ledger.queue.releases i)

    pass_looked : (d : Meaning) (m : Moment) → IsMomentOf d a m → (end : Moment)
        → SmallPass (lay_of a.shape) m (map plain_release (take (suc i) b.ledger.queue.releases)) (map plain_release (drop (suc i) b.ledger.queue.releases)) end
        → SmallPass (lay_of a.shape) m (map plain_release (take i a.ledger.queue.releases)) (map plain_release (drop i a.ledger.queue.releases)) end
    pass_looked d m is end p = subst (λ (l : List Release). SmallPass (lay_of a.shape) m (map plain_release (take i a.ledger.queue.releases)) (map plain_release l) end) (sym (drop_at a.ledger.queue.releases i r at))
        (inl (
          blocked_at d m is,
          subst (λ (l : List plain.Release). SmallPass (lay_of a.shape) m l (map plain_release (drop (suc i) a.ledger.queue.releases)) end) kept_looked
              (subst (λ (l : List plain.Release). SmallPass (lay_of a.shape) m (map plain_release (take (suc i) b.ledger.queue.releases)) l end) todo_looked p),
        ))

    pub part_looked : (x : PrintsView) → KeepsStands a b → PassPart i (suc i) 0 [] a b x x
    part_looked x stands = record {
      stands = stands;
      frame = frame_looked;
      order = subst (λ (l : List Release). PartLeaves i (suc i) a.ledger.queue.releases l) (sym releases_looked) (leaves_looked a.ledger.queue.releases i r at);
      forgets = forgets_none x;
      laws = λ d m is. record { n = m; is = moment_looked d m is; array = refl; pass = pass_looked d m is; frees = frees_none (lay_of a.shape) m.world };
    }

-- releases that are passed over, each of which has to wait
same_unlooked : (a : Core) (i : ℕ) → is_marked a.ledger.queue.releases i ≡ false → SameButLooks i a a
same_unlooked a i off = (refl, refl, ap (λ (l : List Release). record a.ledger { queue = record a.ledger.queue { releases = l } }) (sym (unmarked_same a.ledger.queue.releases i off)))

pub part_none : (a : Core) (x : PrintsView) (i : ℕ) → PassPart i i 0 [] a a x x
part_none a x i = record {
  stands = λ sound d array s. s;
  frame = record {
    shape = refl;
    limit = refl;
    left = omega arith;
    holds = record { holds = λ q. refl };
    fewer = λ q. omega arith;
    held = λ q some none. refl;
    spends = spends_none a;
  };
  order = λ zs left. (zs, left, refl);
  forgets = forgets_none x;
  laws = λ d m is. record { n = m; is = is; array = refl; pass = λ end p. p; frees = frees_none (lay_of a.shape) m.world };
}

-- an unmarked release that a pass comes to has to wait
waits_at : (a : Core) (i : ℕ) (r : Release) → IsOrderly a → slice_get a.ledger.queue.releases i ≡ Some r → is_marked a.ledger.queue.releases i ≡ false → HasToWait a r
waits_at a i r orderly at off = all_at (IsLooked a) a.ledger.queue.releases i r at orderly.looked (sym (marked_is a.ledger.queue.releases i r at) ∙ off)

pub part_over : (a : Core) (x : PrintsView) (provided : IsProvided a) (orderly : IsOrderly a) (more from : ℕ) → from + more ≤ length a.ledger.queue.releases
    → ((k : ℕ) → from ≤ k → k < from + more → is_marked a.ledger.queue.releases k ≡ false) → PassPart from (from + more) 0 [] a a x x
part_over a x provided orderly zero from le off = subst (λ (to : ℕ). PassPart from to 0 [] a a x x) (let e : from ≡ from + 0 = omega arith in e) (part_none a x from)
part_over a x provided orderly (suc more) from le off =
    let r = get_or a.ledger.queue.releases from (record { block = 0; page = 0; map_at = 0; count_at = 0; print_at = 0; stage = 0; look = false }) in
    let at : slice_get a.ledger.queue.releases from ≡ Some r = slice_get-get_or a.ledger.queue.releases from _ (omega (arith, le)) in
    let unlooked = off from (omega arith) (omega arith) in
    let rest = part_over a x provided orderly more (suc from) (omega (arith, le)) (λ k ge lt. off k (omega (arith, ge)) (omega (arith, lt))) in
    let first = part_looked a a from (same_unlooked a from unlooked) r at provided (waits_at a from r orderly at unlooked) x (λ sound d array s. s) in
    subst (λ (to : ℕ). PassPart from to 0 [] a a x x) (let e : suc from + more ≡ from + suc more = omega arith in e)
    (part_then from (suc from) (suc from + more) 0 0 [] [] a a a x x x first rest)

pub freed_length : (freed : Bool) (p : ℕ) → length (freed_pages freed p) ≡ cond freed 1 0
freed_length true p = refl
freed_length false p = refl

holds_freed : (freed : Bool) (p q : ℕ) → holds (freed_pages freed p) q ≡ (freed && eqb p q)
holds_freed true p q = one (eqb p q)
  where
    one : (b : Bool) → (b || false) ≡ b
    one true = refl
    one false = refl
holds_freed false p q = refl

-- a release that left
module _ (a b : Core) (i : ℕ) (r : Release) (freed : Bool) (at : slice_get a.ledger.queue.releases i ≡ Some r) (out : TakesOut i r freed a b) where
  releases_out : b.ledger.queue.releases ≡ remove a.ledger.queue.releases i
  releases_out = ap (λ (q : QueueLists). q.releases) out.queue

  pub frame_out : PassFrame 1 a b
  frame_out =
      let held : (q : ℕ) → held_for_all a.ledger.queue.releases q ≡ held_for_all b.ledger.queue.releases q + held_for r q =
      λ q. held_removed a.ledger.queue.releases i r q at ∙ ap (λ (l : List Release). held_for_all l q + held_for r q) (sym releases_out) in
      record {
        shape = out.shape;
        limit = ap (λ (q : QueueLists). q.limit) out.queue;
        left = let e : length b.ledger.queue.releases ≡ length (remove a.ledger.queue.releases i) = ap (λ (l : List Release). length l) releases_out in let less = length_removed a.ledger.queue.releases i r at in omega (arith, e, less);
        holds = record { holds = λ q. let h = held q in let back = out.holds q in omega (arith, h, back) };
        fewer = λ q. let h = held q in omega (arith, h);
        held = λ q some none. out.held q some (let h = held q in omega (arith, h, none));
        spends = out.spends;
      }

  module _ (d : Meaning) (m : Moment) (is : IsMomentOf d a m) where
    abbrev step : LeavesFrom d m i r freed a b
    step = out.laws d m is

    placed : IsPlaced a.shape r
    placed = placed_at a.shape a.ledger.queue.releases i r at a.whole.placed

    is_data : IsData (lay_of a.shape) r.page
    is_data = (placed.first, placed.last)

    freed_here : (p : ℕ) → IsData (lay_of a.shape) p → holds (freed_pages freed r.page) p ≡ was_freed (lay_of a.shape) m.world step.n.world p
    freed_here p kind = holds_freed freed r.page p ∙ elim (cases_eq r.page p) [
      | inl e ↦ ap (λ (t : Bool). freed && t) (eq-eqb r.page p e) ∙ and_true freed ∙ step.frees ∙ ap (was_freed (lay_of a.shape) m.world step.n.world) e
      | inr ne ↦ ap (λ (t : Bool). freed && t) (ne_eqb r.page p ne) ∙ and_false freed
          ∙ sym (ap (λ (n : ℕ). not (eqb (cached_count (lay_of a.shape) m.world p) 0) && eqb n 0) (taken_other (lay_of a.shape) m step.n (plain_release r) (queued_before i a) (queued_after i a) (apart_pages a.shape) is_data step.leaves p kind (λ e. ne (sym e)))
          ∙ none (eqb (cached_count (lay_of a.shape) m.world p) 0))
    ]
      where
        and_true : (b : Bool) → (b && true) ≡ b
        and_true true = refl
        and_true false = refl

        and_false : (b : Bool) → (b && false) ≡ false
        and_false true = refl
        and_false false = refl

        none : (b : Bool) → (not b && b) ≡ false
        none true = refl
        none false = refl

    frees_out : Frees (lay_of a.shape) (freed_pages freed r.page) m.world step.n.world
    frees_out = record {
      freed = freed_here;
      live = taken_live (lay_of a.shape) m step.n (plain_release r) (queued_before i a) (queued_after i a) (apart_pages a.shape) is_data step.leaves
          ∙ ap (λ (t : Bool). live_pages (lay_of a.shape) step.n.world + cond t 1 0) (sym step.frees) ∙ ap (λ (n : ℕ). live_pages (lay_of a.shape) step.n.world + n) (sym (freed_length freed r.page));
      lower = λ p kind. taken_lower (lay_of a.shape) m step.n (plain_release r) (queued_before i a) (queued_after i a) (apart_pages a.shape) is_data step.leaves p kind;
      prints = λ p kind. taken_print (lay_of a.shape) m step.n (plain_release r) (queued_before i a) (queued_after i a) (apart_pages a.shape) is_data step.leaves p kind
          ∙ ap (λ (t : Bool). cond t None (cached_print (lay_of a.shape) m.world p)) (sym (freed_here p kind));
    }

    pass_out : (end : Moment) → SmallPass (lay_of a.shape) step.n (map plain_release (take i b.ledger.queue.releases)) (map plain_release (drop i b.ledger.queue.releases)) end
        → SmallPass (lay_of a.shape) m (map plain_release (take i a.ledger.queue.releases)) (map plain_release (drop i a.ledger.queue.releases)) end
    pass_out end p = subst (λ (l : List Release). SmallPass (lay_of a.shape) m (queued_before i a) (map plain_release l) end) (sym (drop_at a.ledger.queue.releases i r at))
        (inr (
          step.n,
          step.leaves,
          subst (λ (l : List Release). SmallPass (lay_of a.shape) step.n (map plain_release l) (queued_after i a) end) (take_removed a.ledger.queue.releases i r at)
              (subst (λ (l : List Release). SmallPass (lay_of a.shape) step.n (map plain_release (take i (remove a.ledger.queue.releases i))) (map plain_release l) end) (drop_removed a.ledger.queue.releases i r at)
              (subst (λ (l : List Release). SmallPass (lay_of a.shape) step.n (map plain_release (take i l)) (map plain_release (drop i l)) end) releases_out p)),
        ))

  pub part_out : (x y : PrintsView) → Forgets (freed_pages freed r.page) x y → PassPart i i 1 (freed_pages freed r.page) a b x y
  part_out x y forgets = record {
    stands = out.stands;
    frame = frame_out;
    order = subst (λ (l : List Release). PartLeaves i i a.ledger.queue.releases l) (sym releases_out) (leaves_removed a.ledger.queue.releases i r at);
    forgets = forgets;
    laws = λ d m is. record { n = (step d m is).n; is = (step d m is).is; array = (step d m is).array; pass = pass_out d m is; frees = frees_out d m is };
  }
