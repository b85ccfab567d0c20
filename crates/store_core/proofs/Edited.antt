-- A page that is edited in the cache, and what a core stands for after any edit.
use Rattle.std.proofs.Common.{arith, ◌≡◌, inl, inr, ◌<◌, ℕ, Bool, true, false, cond, ◌||◌, refl, sym, ap, ◌∙◌, subst, List, Option, Some, None, eqb, eq-eqb, ne_eqb, is_some}
use Rattle.std.proofs.lemmas.Bool.{cases_eq}
use Rattle.page_device.specs.Meaning.{Meaning}
use Rattle.page_device.specs.Block.{Block, zero_block}
use Rattle.page_layout.specs.Shape.{ShapeView}
use Rattle.page_cache.specs.declared.entries.Entry.{Entry}
use Rattle.page_cache.specs.Entries.{content_of, holds_of}
use Rattle.page_cache.specs.Lending.{with_content}
use Rattle.page_cache.specs.View.{CacheView, content_in, holds_in, is_there}
use Rattle.page_cache.specs.Calls.{Edited}
use Rattle.dep_graph.specs.Lists.{dirty_in}
use Rattle.birth_marks.specs.Births.{Remembers}
use Rattle.page_alloc.specs.Pool.{told_of}
use Rattle.order_model.specs.Calls.{Call}
use Rattle.order_model.specs.Pool.{Told}
use Rattle.order_model.specs.World.{IsData, World}
use Rattle.flush_engine.specs.View.{EngineView}
use Rattle.flush_engine.specs.View.{IsWhole as IsWholeEngine}
use Rattle.engine_model.specs.Disk.{newest_on}
use Rattle.engine_model.specs.Invariant.{EngineInvariant}
use Rattle.engine_model.specs.SmallSteps.{put}
use Rattle.engine_model.proofs.Same.{same_is}
use Rattle.store_core.specs.declared.Core.{Core}
use Rattle.store_core.specs.Layout.{lay_of, place_of, top}
use Rattle.store_core.specs.Views.{held_or, page_in, world_in, world_of}
use Rattle.store_core.specs.Frames.{OnlyPage, SameHolds}
use Rattle.store_core.specs.Stands.{HasShapeOf, StandsFor, moment_of}

-- a page that is held is there
held_entry : (o : Option Entry) → 0 < holds_of o → is_some (content_of o) ≡ true
held_entry None h = absurd (omega (arith, h))
held_entry (Some e) h = refl

pub held_there : (c : CacheView) (q : ℕ) → 0 < holds_in c q → is_there c q ≡ true
held_there c q h = held_entry _ h

there_some : (o : Option Block) → is_some o ≡ true → (b : Block) → o ≡ Some (held_or o b)
there_some None h b = cc
there_some (Some c) h b = refl

-- a page that is there is cached as it is held
pub cached_there : (d : Meaning) (core : Core) (at : ℕ) → is_there core.engine.cache at ≡ true → (world_of d core).cached at ≡ page_in core at
cached_there d core at h = ap (λ o. held_or o (newest_on d.state at)) (there_some _ h _)

pub page_is : (core : Core) (at : ℕ) (block : Block) → content_in core.engine.cache at ≡ Some block → block ≡ page_in core at
page_is core at block e = sym (ap (λ (o : Option Block). held_or o zero_block) e)

held_cond : (b : Bool) (c : Block) (o : Option Block) (n : Block) → held_or (cond b (Some c) o) n ≡ cond b c (held_or o n)
held_cond true c o n = refl
held_cond false c o n = refl

-- the page has other content
pub put_world : (d : Meaning) (old : Core) (cache : CacheView) (page : ℕ) (block : Block) → Edited old.engine.cache cache page block → world_in d cache old.engine.graph old.ledger.queue ≡ put page block (world_of d old)
put_world d old cache page block e = same_is (put page block (world_of d old)) (world_in d cache old.engine.graph old.ledger.queue) (record {
  newest = λ a. refl;
  older = λ a. refl;
  cached = λ a. ap (λ o. held_or o (newest_on d.state a)) (e.content a) ∙ held_cond (eqb a page) block (content_in old.engine.cache a) (newest_on d.state a);
  dirty = λ a. refl;
  hung = λ a. refl;
  live = λ a b. refl;
  barred = λ a b. refl;
  queue = refl;
})

-- a page that is lent by a cache that is lent
pub lent_edit : (cache lent : CacheView) (page at : ℕ) (block : Block) → ((c : CacheView) (page : ℕ) (block : Block) → 0 < holds_in c page → Edited c (with_content c page block) page block)
    → lent ≡ cache → at ≡ page → 0 < holds_in cache page → Edited cache (with_content lent at block) page block
lent_edit cache lent page at block law is here held = subst (λ (c : CacheView). Edited cache (with_content c at block) page block) (sym is) (subst (λ (n : ℕ). Edited cache (with_content cache n block) page block) (sym here) (law cache page block held))

-- and what it was, as a page of the core
pub lent_is : (core : Core) (lent : CacheView) (at page : ℕ) (block : Block) → lent ≡ core.engine.cache → at ≡ page → content_in lent at ≡ Some block → block ≡ page_in core page
lent_is core lent at page block is here value = page_is core page block (ap (λ (c : CacheView). content_in c page) (sym is) ∙ ap (content_in lent) (sym here) ∙ value)

-- the content of each page, after an edit with the same content
pub kept_content : (old cache : CacheView) (page : ℕ) (block : Block) → content_in old page ≡ Some block → Edited old cache page block → (a : ℕ) → content_in cache a ≡ content_in old a
kept_content old cache page block held e a = elim (cases_eq a page) [
  | inl is ↦ e.content a ∙ rw (eq-eqb a page is) (sym held ∙ ap (content_in old) (sym is))
  | inr ne ↦ e.content a ∙ rw (ne_eqb a page ne) refl
]

already : (f : ℕ → Bool) (page a : ℕ) → f page ≡ true → f a ≡ (f a || eqb a page)
already f page a h = elim (cases_eq a page) [
  | inl is ↦ rw (is, h)
  | inr ne ↦ rw (ne_eqb a page ne) (same (f a))
]
  where
    same : (x : Bool) → x ≡ (x || false)
    same x = grind arith

pub within_edited : (old new : CacheView) (page : ℕ) (block : Block) → Edited old new page block → is_there old page ≡ true → (a : ℕ) → is_there new a ≡ true → is_there old a ≡ true
within_edited old new page block e there a h = elim (cases_eq a page) [
  | inl is ↦ ap (is_there old) is ∙ there
  | inr ne ↦ let same : content_in new a ≡ content_in old a = e.content a ∙ rw (ne_eqb a page ne) refl in ap is_some (sym same) ∙ h
]

-- an engine is whole still where the content of a dirty page is another
pub engine_put : (e : EngineView) (cache : CacheView) (page : ℕ) (block : Block) → IsWholeEngine e → Edited e.cache cache page block → dirty_in e.graph page ≡ true → IsWholeEngine (record e { cache = cache })
engine_put e cache page block w edited dirty = record {
  dirty = λ a. edited.dirty a ∙ ap (λ (b : Bool). b || eqb a page) (w.dirty a) ∙ sym (already (dirty_in e.graph) page a dirty);
  graph = w.graph;
  tallies = w.tallies;
  room = w.room;
}

some_cond : (b : Bool) (c : Block) (o : Option Block) → (b ≡ true → is_some o ≡ true) → is_some (cond b (Some c) o) ≡ is_some o
some_cond true c o h = sym (h refl)
some_cond false c o h = refl

pub same_holds : (old new : Core) (page : ℕ) (block : Block) → Edited old.engine.cache new.engine.cache page block → is_there old.engine.cache page ≡ true → SameHolds old new
same_holds old new page block e there = record {
  holds = e.holds;
  there = λ q. ap is_some (e.content q) ∙ some_cond (eqb q page) block (content_in old.engine.cache q) (λ h. elim (cases_eq q page) [ inl is ↦ ap (is_there old.engine.cache) is ∙ there | inr ne ↦ absurd (cc (ne_eqb q page ne)) ]);
  calls = e.numbers.calls;
}

pub same_pages : (old : Core) (cache : CacheView) (page : ℕ) (block : Block) → content_in old.engine.cache page ≡ Some block → Edited old.engine.cache cache page block → (q : ℕ) → held_or (content_in cache q) zero_block ≡ page_in old q
same_pages old cache page block held e q = ap (λ (o : Option Block). held_or o zero_block) (kept_content old.engine.cache cache page block held e q)

-- one page has another content
pub only_page : (old new : Core) (page : ℕ) (block : Block) → Edited old.engine.cache new.engine.cache page block → 0 < holds_in old.engine.cache page → new.shape ≡ old.shape
    → new.engine ≡ record old.engine { cache = new.engine.cache } → OnlyPage page block old new
only_page old new page block e held shape engine = record {
  shape = shape;
  engine = engine;
  same = same_holds old new page block e (held_there old.engine.cache page held);
  here = e.content page ∙ ap (λ (b : Bool). cond b (Some block) (content_in old.engine.cache page)) (eq-eqb page page refl);
  others = λ q ne. ap (λ (o : Option Block). held_or o zero_block) (e.content q ∙ ap (λ (b : Bool). cond b (Some block) (content_in old.engine.cache q)) (ne_eqb q page ne));
}

-- What the core stands for after an edit, which leaves the device: the moment over the old shape is one of the new core.
module _ (sound : Bool) (d : Meaning) (old new : Core) (array : ℕ → List Block) (s : StandsFor sound d old array) (shape : new.shape ≡ old.shape) where
  pub edit_stands : (after : ℕ → List Block) (calls : List Call) (told : ℕ → Told) (w : World) → world_of d new ≡ w
      → EngineInvariant (lay_of old.shape) top sound (record { world = w; array = after; calls = calls; pool = told })
      → Remembers (place_of old.shape) new.ledger.births calls → ((p : ℕ) → IsData (lay_of old.shape) p → told_of new.ledger.pool p ≡ told p) → StandsFor sound d new after
  edit_stands after calls told w is kept births pool = record {
    known = s.known;
    of_shape = subst (λ (x : ShapeView). HasShapeOf d x) (sym shape) s.of_shape;
    calls = calls;
    told = told;
    kept = subst (λ (x : ShapeView). EngineInvariant (lay_of x) top sound (moment_of d new after calls told)) (sym shape)
        (subst (λ (x : World). EngineInvariant (lay_of old.shape) top sound (record { world = x; array = after; calls = calls; pool = told })) (sym is) kept);
    births = subst (λ (x : ShapeView). Remembers (place_of x) new.ledger.births calls) (sym shape) births;
    pool = subst (λ (x : ShapeView). (p : ℕ) → IsData (lay_of x) p → told_of new.ledger.pool p ≡ told p) (sym shape) pool;
  }

  -- where births and pool stay, and so do array and calls
  pub state_stands : new.ledger.births ≡ old.ledger.births → new.ledger.pool ≡ old.ledger.pool → (w : World) → world_of d new ≡ w
      → EngineInvariant (lay_of old.shape) top sound (record (moment_of d old array s.calls s.told) { world = w }) → StandsFor sound d new array
  state_stands births pool w is kept = edit_stands array s.calls s.told w is kept (subst (λ b. Remembers (place_of old.shape) b s.calls) (sym births) s.births) (λ p data_page. ap (λ q. told_of q p) pool ∙ s.pool p data_page)
