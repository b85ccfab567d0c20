-- What leaves all that a core stands for: one after another, and given back.
use Rattle.std.proofs.Common.{arith, ◌≡◌, inl, inr, ◌<◌, ◌+◌, ◌-◌, ◌||◌, ℕ, Bool, true, false, cond, refl, sym, ap, ◌∙◌, subst, List, [], Option, None, eq-eqb, ne_eqb, is_some}
use Rattle.std.proofs.lemmas.List.Elements.{All-nil}
use Rattle.std.proofs.lemmas.Bool.{cases_eq, cases_Bool}
use Rattle.page_device.specs.Block.{Block}
use Rattle.page_device.specs.Meaning.{Meaning}
use Rattle.page_device.specs.Gains.{gains_none}
use Rattle.page_layout.specs.Shape.{total, ShapeView}
use Rattle.page_layout.specs.Formed.{is_formed}
use Rattle.page_cache.specs.View as cached
use Rattle.page_cache.specs.View.{CacheView, content_in, holds_in, in_table, is_recent, is_there}
use Rattle.page_cache.specs.Calls.{Held, Same as SameCache, Unheld}
use Rattle.order_model.specs.declared.Slot.{Slot}
use Rattle.order_model.specs.Edges.{Edge}
use Rattle.order_model.specs.World.{IsData, World}
use Rattle.dep_graph.specs.Lists.{GraphLists, barred_in, dirty_in, live_in, node_count}
use Rattle.dep_graph.specs.Pages.{holds}
use Rattle.page_alloc.specs.Pool.{told_of}
use Rattle.birth_marks.specs.Births.{BirthsView, Remembers, Same, recorded_in, value_in}
use Rattle.birth_marks.proofs.CallLemmas.{same_remembered}
use Rattle.engine_model.specs.AnyDevice.{IsOrdered}
use Rattle.engine_model.specs.Births.{IsSlot, cached_value}
use Rattle.engine_model.specs.Disk.{newest_on}
use Rattle.engine_model.specs.Entries.{IsTable}
use Rattle.engine_model.specs.Invariant.{Moment}
use Rattle.engine_model.proofs.Same.{same_is}
use Rattle.flush_engine.specs.View.{EngineView}
use Rattle.store_core.specs.declared.Core.{Core}
use Rattle.store_core.specs.declared.ledger.Ledger.{Ledger}
use Rattle.store_core.specs.Layout.{lay_of, place_of}
use Rattle.store_core.specs.Views.{IsKnown, IsOver, held_or, world_in, world_of}
use Rattle.store_core.specs.Whole.{IsWhole}
use Rattle.store_core.specs.Moments.{IsMomentOf}
use Rattle.store_core.specs.Stands.{EndsDone, IsFit, Passes, StandsFor}
use Rattle.store_core.specs.Quiet.{Flows, GivesBack, Quiet, SameCached, SameGraph, SameReleases, SameRest, none, once}
use Rattle.store_core.proofs.Calls.{counts_none, no_moment}
use Rattle.store_core.proofs.Clean.{over}
use Rattle.store_core.proofs.Flowed.{room_then, same_room, table_held}
use Rattle.store_core.proofs.Stood.{images_fit, passes_same, passes_then, stands_then}
use Rattle.store_core.proofs.Worlds.{table_dirty}

pub same_graph : (g : GraphLists) → SameGraph g g
same_graph g = record { dirty = refl; hung = refl; edges = refl }

same_births : (b : BirthsView) → Same b b
same_births b = record { slots = record { recorded = λ s. refl; place = λ s. refl; value = λ s. refl }; met = λ s v. refl; written = λ p. refl }

births_then : (a b c : BirthsView) → Same a b → Same b c → Same a c
births_then a b c h k = record {
  slots = record { recorded = λ s. k.slots.recorded s ∙ h.slots.recorded s; place = λ s. k.slots.place s ∙ h.slots.place s; value = λ s. k.slots.value s ∙ h.slots.value s };
  met = λ s v. k.met s v ∙ h.met s v;
  written = λ p. k.written p ∙ h.written p;
}

-- all but the cache and the room: none, and one after another
pub same_rest : (a : Core) → SameRest a a
same_rest a = record { shape = refl; queue = refl; pool = refl; births = same_births a.ledger.births; graph = same_graph a.engine.graph; tallies = refl; room = same_room a a refl refl }

-- nothing but the cache of the engine changed
pub rest_cache : (old new : Core) → new.shape ≡ old.shape → new.engine ≡ record old.engine { cache = new.engine.cache } → new.ledger ≡ old.ledger → SameRest old new
rest_cache old new shape engine ledger =
    let graph : new.engine.graph ≡ old.engine.graph = ap (λ (e : EngineView). e.graph) engine in
    record {
      shape = shape;
      queue = ap (λ (l : Ledger). l.queue) ledger;
      pool = ap (λ (l : Ledger). l.pool) ledger;
      births = subst (λ (l : Ledger). Same old.ledger.births l.births) (sym ledger) (same_births old.ledger.births);
      graph = subst (SameGraph old.engine.graph) (sym graph) (same_graph old.engine.graph);
      tallies = ap (λ (e : EngineView). e.tallies) engine;
      room = record {
        spare_nodes = omega (arith, ap (λ (g : GraphLists). g.spare_nodes) graph);
        spare_edges = omega (arith, ap (λ (g : GraphLists). g.spare_edges) graph);
        changes = omega (arith, ap (λ (l : Ledger). l.births.spare) ledger);
        nodes = omega (arith, ap node_count graph);
        room = ap (λ (e : EngineView). e.room) engine;
      };
    }

pub rest_then : (a b c : Core) → SameRest a b → SameRest b c → SameRest a c
rest_then a b c h k = record {
  shape = k.shape ∙ h.shape;
  queue = k.queue ∙ h.queue;
  pool = k.pool ∙ h.pool;
  births = births_then a.ledger.births b.ledger.births c.ledger.births h.births k.births;
  graph = record { dirty = k.graph.dirty ∙ h.graph.dirty; hung = k.graph.hung ∙ h.graph.hung; edges = k.graph.edges ∙ h.graph.edges };
  tallies = k.tallies ∙ h.tallies;
  room = room_then a b c h.room k.room;
}

-- the same plain state, and the same array over it
pub rest_world : (d e : Meaning) (old new : Core) → SameRest old new → e.state ≡ d.state
    → ((q : ℕ) → held_or (content_in new.engine.cache q) (newest_on d.state q) ≡ held_or (content_in old.engine.cache q) (newest_on d.state q)) → world_of e new ≡ world_of d old
rest_world d e old new rest state same = ap (λ x. world_of (record d { state = x }) new) state ∙ same_is (world_of d old) (world_of d new) (record {
  newest = λ a. refl;
  older = λ a. refl;
  cached = same;
  dirty = λ a. ap (λ (l : List ℕ). holds l a) rest.graph.dirty;
  hung = λ a. ap (λ (l : List ℕ). holds l a) rest.graph.hung;
  live = λ a b. ap (λ (l : List Edge). live_in (record old.engine.graph { edges = l }) a b) rest.graph.edges;
  barred = λ a b. ap (λ (l : List Edge). barred_in (record old.engine.graph { edges = l }) a b) rest.graph.edges;
  queue = ap (λ q. (world_in d old.engine.cache old.engine.graph q).queue) rest.queue;
})

pub rest_stands : (sound : Bool) (d e : Meaning) (old new : Core) (array : ℕ → List Block) → StandsFor sound d old array → IsKnown e → e.pages ≡ d.pages → SameRest old new → world_of e new ≡ world_of d old → StandsFor sound e new array
rest_stands sound d e old new array s known pages rest world = stands_then sound d e old new array s known pages rest.shape s.calls s.told (world_of d old) world refl s.kept
    (same_remembered (place_of old.shape) old.ledger.births new.ledger.births s.calls s.births rest.births) (λ p is. ap (λ q. told_of q p) rest.pool ∙ s.pool p is)

-- no call of the device
pub still_passes : (d : Meaning) (old new : Core) → SameRest old new → new.engine.cache.calls ≡ old.engine.cache.calls
    → (IsOver d old → (q : ℕ) → held_or (content_in new.engine.cache q) (newest_on d.state q) ≡ held_or (content_in old.engine.cache q) (newest_on d.state q)) → Passes d d old new
still_passes d old new rest calls same = record {
  calls = [];
  gains = gains_none d;
  counted = counts_none old.engine.cache.calls new.engine.cache.calls calls;
  falls = omega arith;
  calm = λ _. All-nil EndsDone;
  stands = λ sound array s. rest_stands sound d d old new array s s.known refl rest (rest_world d d old new rest refl (same (over sound d old array s)));
  each = λ sound array s. no_moment (IsFit old.shape sound array) d.state (images_fit sound d old array s);
  shape = rest.shape;
}

-- each page is cached as before, where no call of the device was made
pub still_cached : (d : Meaning) (old new : Core)
    → (IsOver d old → (q : ℕ) → held_or (content_in new.engine.cache q) (newest_on d.state q) ≡ held_or (content_in old.engine.cache q) (newest_on d.state q)) → SameCached d d old new
still_cached d old new same sound array s = same (over sound d old array s)

cached_then : (d e f : Meaning) (a b c : Core) → Passes d e a b → SameCached d e a b → SameCached e f b c → SameCached d f a c
cached_then d e f a b c p h k sound array s q = k sound array (p.stands sound array s) q ∙ h sound array s q

-- quiet parts: none, and one after another
pub quiet_none : (d : Meaning) (a : Core) → Quiet none d d a a
quiet_none d a = record { passes = passes_same d a a refl refl refl; cached = λ sound array s q. refl; pages = refl; rest = same_rest a; holds = λ q. omega arith; held = λ q h. refl }

pub quiet_then : (m n : ℕ → ℕ) (d e f : Meaning) (a b c : Core) → Quiet m d e a b → Quiet n e f b c → Quiet (λ q. m q + n q) d f a c
quiet_then m n d e f a b c h k = record {
  passes = passes_then d e f a b c h.passes k.passes;
  cached = cached_then d e f a b c h.passes h.cached k.cached;
  pages = k.pages ∙ h.pages;
  rest = rest_then a b c h.rest k.rest;
  holds = λ q. omega (arith, h.holds q, k.holds q);
  held = λ q p. k.held q (omega (arith, p, h.holds q)) ∙ h.held q p;
}

-- after a part that took no hold
pub quiet_on : (m : ℕ → ℕ) (d e f : Meaning) (a b c : Core) → Quiet none d e a b → Quiet m e f b c → Quiet m d f a c
quiet_on m d e f a b c h k = record {
  passes = passes_then d e f a b c h.passes k.passes;
  cached = cached_then d e f a b c h.passes h.cached k.cached;
  pages = k.pages ∙ h.pages;
  rest = rest_then a b c h.rest k.rest;
  holds = λ q. omega (arith, h.holds q, k.holds q);
  held = λ q p. k.held q (omega (arith, p, h.holds q)) ∙ h.held q p;
}

pub quiet_as : (m n : ℕ → ℕ) (d e : Meaning) (a b : Core) → ((q : ℕ) → m q ≡ n q) → Quiet m d e a b → Quiet n d e a b
quiet_as m n d e a b same h = record { passes = h.passes; cached = h.cached; pages = h.pages; rest = h.rest; holds = λ q. h.holds q ∙ ap (λ (x : ℕ). holds_in a.engine.cache q + x) (same q); held = h.held }

-- and given back
pub back_then : (m n : ℕ → ℕ) (a b c : Core) → GivesBack m a b → GivesBack n b c → GivesBack (λ q. m q + n q) a c
back_then m n a b c h k = record {
  passes = λ d. passes_then d d d a b c (h.passes d) (k.passes d);
  cached = λ d. cached_then d d d a b c (h.passes d) (h.cached d) (k.cached d);
  moments = λ d m is. k.moments d m (h.moments d m is);
  rest = rest_then a b c h.rest k.rest;
  holds = λ q. omega (arith, h.holds q, k.holds q);
  held = λ q p. k.held q p ∙ h.held q (omega (arith, p, k.holds q));
  stay = λ q there. k.stay q there ∙ h.stay q (ap is_some (sym (k.stay q there)) ∙ there);
}

pub quiet_back : (m : ℕ → ℕ) (d e : Meaning) (a b c : Core) → Quiet m d e a b → GivesBack m b c → Quiet none d e a c
quiet_back m d e a b c h k = record {
  passes = passes_then d e e a b c h.passes (k.passes e);
  cached = cached_then d e e a b c h.passes h.cached (k.cached e);
  pages = h.pages;
  rest = rest_then a b c h.rest k.rest;
  holds = λ q. omega (arith, h.holds q, k.holds q);
  held = λ q p. k.held q (omega (arith, p, h.holds q, k.holds q)) ∙ h.held q p;
}

-- what is quiet flows
pub flows_quiet : (d e : Meaning) (a b : Core) → Quiet none d e a b → Flows d e a b
flows_quiet d e a b q = record {
  passes = q.passes;
  cached = q.cached;
  pages = q.pages;
  holds = λ x. omega (arith, q.holds x);
  held = q.held;
  queue = subst (SameReleases a.ledger.queue) (sym q.rest.queue) (record { releases = refl; limit = refl });
  room = q.rest.room;
  recorded = λ s r. sym (q.rest.births.slots.recorded s) ∙ r;
}

-- the cache is as before, or has the same contents, or a page is held once more
module _ (d : Meaning) (old new : Core) (rest : SameRest old new) where
  plus_none : (n : ℕ) → n ≡ n + 0
  plus_none n = omega arith

  same_contents : new.engine.cache.calls ≡ old.engine.cache.calls → ((q : ℕ) → content_in new.engine.cache q ≡ content_in old.engine.cache q) → Passes d d old new
  same_contents calls same = still_passes d old new rest calls (λ _ q. ap (λ (o : Option Block). held_or o (newest_on d.state q)) (same q))

  same_held : ((q : ℕ) → content_in new.engine.cache q ≡ content_in old.engine.cache q) → SameCached d d old new
  same_held same = still_cached d old new (λ _ q. ap (λ (o : Option Block). held_or o (newest_on d.state q)) (same q))

  pub quiet_same : new.engine.cache ≡ old.engine.cache → Quiet none d d old new
  quiet_same cache = record {
    passes = same_contents (ap (λ (c : CacheView). c.calls) cache) (λ q. ap (λ (c : CacheView). content_in c q) cache);
    cached = same_held (λ q. ap (λ (c : CacheView). content_in c q) cache);
    pages = refl;
    rest = rest;
    holds = λ q. ap (λ (c : CacheView). holds_in c q) cache ∙ plus_none (holds_in old.engine.cache q);
    held = λ q h. ap (λ (c : CacheView). content_in c q) cache;
  }

  pub quiet_contents : SameCache old.engine.cache new.engine.cache → Quiet none d d old new
  quiet_contents same = record {
    passes = same_contents same.numbers.calls same.content;
    cached = same_held same.content;
    pages = refl;
    rest = rest;
    holds = λ q. same.marks.holds q ∙ plus_none (holds_in old.engine.cache q);
    held = λ q h. same.content q;
  }

  pub quiet_held : (page : ℕ) → Held old.engine.cache new.engine.cache page → Quiet (once page) d d old new
  quiet_held page h = record { passes = same_contents h.numbers.calls h.content; cached = same_held h.content; pages = refl; rest = rest; holds = h.holds; held = λ q p. h.content q }

-- a page is held once less
dropped_or_not : (b : Bool) (o : Option Block) (n : Block) → held_or o n ≡ n → held_or (cond b o None) n ≡ held_or o n
dropped_or_not true o n clean = refl
dropped_or_not false o n clean = sym clean

held_less : (q page was now : ℕ) → now ≡ was - once page q → (q ≡ page → 0 < was) → was ≡ now + once page q
held_less q page was now e some = elim (cases_eq q page) [
  | inl is ↦ let one : once page q ≡ 1 = rw (eq-eqb q page is) refl in omega (arith, e, one, some is)
  | inr ne ↦ let zero : once page q ≡ 0 = rw (ne_eqb q page ne) refl in omega (arith, e, zero)
]

-- what may go is cached as the device has it
unheld_contents : (d : Meaning) (old new : Core) (page : ℕ) → Unheld old.engine.cache new.engine.cache page → ((a : ℕ) → dirty_in old.engine.graph a ≡ false → (world_of d old).cached a ≡ newest_on d.state a)
    → (q : ℕ) → held_or (content_in new.engine.cache q) (newest_on d.state q) ≡ held_or (content_in old.engine.cache q) (newest_on d.state q)
unheld_contents d old new page u clean q = elim (cases_Bool (dirty_in old.engine.graph q)) [
  | inl is ↦ ap (λ (o : Option Block). held_or o (newest_on d.state q)) (u.kept q (table_dirty new.engine.cache q (u.dirty q ∙ old.whole.engine_whole.dirty q ∙ is)))
  | inr off ↦ ap (λ (o : Option Block). held_or o (newest_on d.state q)) (u.content q)
      ∙ dropped_or_not (in_table new.engine.cache q || is_recent new.engine.cache q) (content_in old.engine.cache q) (newest_on d.state q) (clean q off)
]

-- the same moment, where the plain state is the same
pub same_moment : (d : Meaning) (old new : Core) → SameRest old new → world_of d new ≡ world_of d old → (m : Moment) → IsMomentOf d old m → IsMomentOf d new m
same_moment d old new rest world m is =
    let births = rest.births in
    let pool : (p : ℕ) → IsData (lay_of old.shape) p → told_of new.ledger.pool p ≡ m.pool p = λ p kind. ap (λ q. told_of q p) rest.pool ∙ is.pool p kind in
    record {
      world = world ∙ is.world;
      births = subst (λ (x : ShapeView). Remembers (place_of x) new.ledger.births m.calls) (sym rest.shape) (same_remembered (place_of old.shape) old.ledger.births new.ledger.births m.calls is.births births);
      values = subst (λ (x : ShapeView). (s : Slot) → IsSlot (lay_of x) s → recorded_in new.ledger.births s ≡ true → value_in new.ledger.births s ≡ cached_value (lay_of x) m.world s) (sym rest.shape)
          (λ s slot rec. births.slots.value s ∙ is.values s slot (sym (births.slots.recorded s) ∙ rec));
      pool = subst (λ (x : ShapeView). (p : ℕ) → IsData (lay_of x) p → told_of new.ledger.pool p ≡ m.pool p) (sym rest.shape) pool;
      formed = subst (λ (x : ShapeView). (page : ℕ) → IsTable (lay_of x) page → is_formed x page (m.world.cached page) ≡ true) (sym rest.shape) is.formed;
      staged = subst (λ (x : ShapeView). IsOrdered (lay_of x) m.world) (sym rest.shape) is.staged;
      clean = is.clean;
    }

-- where what is not dirty is cached as the device has it
pub back_moment : (d : Meaning) (old new : Core) → SameRest old new
    → (((a : ℕ) → dirty_in old.engine.graph a ≡ false → (world_of d old).cached a ≡ newest_on d.state a) → (q : ℕ) → held_or (content_in new.engine.cache q) (newest_on d.state q) ≡ held_or (content_in old.engine.cache q) (newest_on d.state q))
    → (m : Moment) → IsMomentOf d old m → IsMomentOf d new m
back_moment d old new rest same m is = same_moment d old new rest
    (rest_world d d old new rest refl (same (λ a off. ap (λ (w : World). w.cached a) is.world ∙ is.clean a (ap (λ (w : World). w.dirty a) (sym is.world) ∙ off) ∙ ap (λ (w : World). w.newest a) (sym is.world)))) m is

pub gives_back : (old new : Core) (page : ℕ) → 0 < holds_in old.engine.cache page → SameRest old new → Unheld old.engine.cache new.engine.cache page → GivesBack (once page) old new
gives_back old new page some rest u = record {
  passes = λ d. still_passes d old new rest u.numbers.calls (λ is_over. unheld_contents d old new page u is_over.clean);
  cached = λ d. still_cached d old new (λ is_over. unheld_contents d old new page u is_over.clean);
  moments = λ d m is. back_moment d old new rest (unheld_contents d old new page u) m is;
  rest = rest;
  holds = λ q. held_less q page (holds_in old.engine.cache q) (holds_in new.engine.cache q) (u.holds q) (λ z. subst (λ x. 0 < holds_in old.engine.cache x) (sym z) some);
  held = λ q h. u.kept q (table_held new.engine.cache q h);
  stay = λ q there. u.content q ∙ cond_some (in_table new.engine.cache q || is_recent new.engine.cache q) (content_in old.engine.cache q) (ap is_some (sym (u.content q)) ∙ there);
}
  where
    cond_some : (b : Bool) (o : Option Block) → is_some (cond b o None) ≡ true → cond b o None ≡ o
    cond_some true o h = refl
    cond_some false o h = cc

-- what every core keeps, with another cache
pub whole_cache : (old : Core) (e : EngineView) (cache : CacheView) → e ≡ record old.engine { cache = cache } → ((q : ℕ) → cached.dirty_in cache q ≡ cached.dirty_in old.engine.cache q)
    → ((a : ℕ) → is_there cache a ≡ true → a < total old.shape) → IsWhole old.shape e old.ledger
whole_cache old e cache is dirty within = subst (λ (x : EngineView). IsWhole old.shape x old.ledger) (sym is) (record {
  engine_whole = record {
    dirty = λ q. dirty q ∙ old.whole.engine_whole.dirty q;
    graph = old.whole.engine_whole.graph;
    tallies = old.whole.engine_whole.tallies;
    room = old.whole.engine_whole.room;
  };
  within = within;
  placed = old.whole.placed;
  pool_shape = old.whole.pool_shape;
  slots = old.whole.slots;
})

some_before : (b : Bool) (o : Option Block) → is_some (cond b o None) ≡ true → is_some o ≡ true
some_before true o h = h
some_before false o h = cc

pub held_within : (old : Core) (cache : CacheView) (page : ℕ) → Held old.engine.cache cache page → (a : ℕ) → is_there cache a ≡ true → a < total old.shape
held_within old cache page h a t = old.whole.within a (ap is_some (sym (h.content a)) ∙ t)

pub unheld_within : (old : Core) (cache : CacheView) (page : ℕ) → Unheld old.engine.cache cache page → (a : ℕ) → is_there cache a ≡ true → a < total old.shape
unheld_within old cache page u a t = old.whole.within a (some_before _ _ (ap is_some (sym (u.content a)) ∙ t))

pub same_within : (old : Core) (cache : CacheView) → SameCache old.engine.cache cache → (a : ℕ) → is_there cache a ≡ true → a < total old.shape
same_within old cache same a t = old.whole.within a (ap is_some (sym (same.content a)) ∙ t)
