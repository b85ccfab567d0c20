-- A data page that gets its content: the state, and what the core stands for.
use Rattle.std.proofs.Common.{arith, ◌≡◌, ◌≢◌, inl, inr, ◌<◌, ◌≤◌, ◌+◌, ◌^◌, ℕ, Bool, true, false, cond, refl, sym, ap, ◌∙◌, subst, Option, Some, None, Result, Ok, Err, OnOk, eqb, eq-eqb, ne_eqb, is_some, nat_lt}
use Rattle.std.proofs.lemmas.Bool.{cases_eq, cases_Bool, or_left, true≢false}
use Rattle.page_device.specs.Block.{Block}
use Rattle.page_device.specs.Meaning.{Meaning}
use Rattle.page_layout.specs.Shape.{data_page, total}
use Rattle.page_cache.specs.View as cached
use Rattle.page_cache.specs.View.{CacheView, content_in, holds_in, in_table, is_there}
use Rattle.page_cache.specs.Calls.{Brought, Edited, Held, Replaced, SameMarks, is_dropped}
use Rattle.dep_graph.specs.Lists.{dirty_in, entered}
use Rattle.dep_graph.proofs.CountLemmas.{holds_placed}
use Rattle.flush_engine.specs.View.{EngineView}
use Rattle.flush_engine.specs.View.{IsWhole as IsWholeEngine}
use Rattle.engine_model.specs.Disk.{newest_on}
use Rattle.engine_model.specs.SmallSteps.{placed}
use Rattle.engine_model.proofs.Quiet.{placed_keeps}
use Rattle.engine_model.proofs.Same.{same_is}
use Rattle.store_core.specs.declared.Core.{Core}
use Rattle.store_core.specs.declared.ledger.Ledger.{Ledger}
use Rattle.store_core.specs.Layout.{lay_of, top}
use Rattle.store_core.specs.Views.{IsOver, held_or, world_in, world_of}
use Rattle.store_core.specs.Frames.{OnlyEngine}
use Rattle.store_core.specs.Placed.{MakesOver, PlaceStands, TakenIn}
use Rattle.store_core.specs.Stands.{moment_of}
use Rattle.store_core.proofs.Edited.{state_stands}
use Rattle.store_core.proofs.Clean.{apart_pages, over}
use Rattle.store_core.proofs.Worlds.{table_dirty}

pub ok_of : {T E : Type 0} {P : Type 0} (r : Result T E) (v : T) → r ≡ Ok v → OnOk r P → P
ok_of (Ok w) v e h = h
ok_of (Err x) v e h = cc

-- the marks stay while the page is brought, whichever way it came
pub same_marks : (old mid : CacheView) (page : ℕ) (block : Block) → (is_there old page ≡ true → Replaced old mid page block) → (is_there old page ≡ false → Brought old mid page (Some block)) → SameMarks old mid
same_marks old mid page block replaced brought = elim (cases_Bool (is_there old page)) [ inl there ↦ (replaced there).marks | inr absent ↦ (brought absent).marks ]

-- so one hold more is none too many
pub not_full : (old mid : CacheView) (page : ℕ) → SameMarks old mid → holds_in old page ≡ 0 → holds_in mid page + 1 ≡ 2 ^ 32 → ⊥
not_full old mid page marks free full = let e = marks.holds page in absurd (omega (arith, e, free, full))

pub taken_in : (old mid new : CacheView) (page : ℕ) (block : Block) → (is_there old page ≡ true → Replaced old mid page block) → (is_there old page ≡ false → Brought old mid page (Some block)) → Held mid new page → TakenIn page block old new
taken_in old mid new page block replaced brought h = elim (cases_Bool (is_there old page)) [
  | inl there ↦ let r = replaced there in record {
    here = h.content page ∙ r.each page ∙ rw (eq-eqb page page refl) refl;
    kept = λ q ne t. h.content q ∙ r.each q ∙ rw (ne_eqb q page ne) refl;
    gone = λ q. false;
    others = λ q ne. h.content q ∙ r.each q ∙ rw (ne_eqb q page ne) refl;
    holds = λ q. h.holds q ∙ ap (λ (n : ℕ). n + cond (eqb q page) 1 0) (r.marks.holds q);
    dirty = λ q. h.dirty q ∙ r.marks.dirty q;
    calls = h.numbers.calls ∙ r.numbers.calls;
  }
  | inr absent ↦ let b = brought absent in record {
    here = h.content page ∙ b.each page ∙ rw (eq-eqb page page refl) refl;
    kept = λ q ne t. h.content q ∙ b.kept q t;
    gone = is_dropped old mid;
    others = λ q ne. h.content q ∙ b.each q ∙ rw (ne_eqb q page ne) refl;
    holds = λ q. h.holds q ∙ ap (λ (n : ℕ). n + cond (eqb q page) 1 0) (b.marks.holds q);
    dirty = λ q. h.dirty q ∙ b.marks.dirty q;
    calls = h.numbers.calls ∙ b.numbers.calls;
  }
]

-- by a cache that was lent
pub taken_lent : (cache lent new : CacheView) (at page : ℕ) (block : Block) → lent ≡ cache → at ≡ page → TakenIn at block lent new → TakenIn page block cache new
taken_lent cache lent new at page block is here t = subst (λ (c : CacheView). TakenIn page block c new) is (subst (λ (n : ℕ). TakenIn n block lent new) here t)

-- an engine is whole still where no dirty mark of its cache changed
pub engine_lent : (e : EngineView) (cache : CacheView) → ((q : ℕ) → cached.dirty_in cache q ≡ cached.dirty_in e.cache q) → IsWholeEngine e → IsWholeEngine (record e { cache = cache })
engine_lent e cache same w = record { dirty = λ q. same q ∙ w.dirty q; graph = w.graph; tallies = w.tallies; room = w.room }

pub one_hold : (old new : CacheView) (page : ℕ) (block : Block) → TakenIn page block old new → 0 < holds_in new page
one_hold old new page block t = let e : holds_in new page ≡ holds_in old page + 1 = t.holds page ∙ rw (eq-eqb page page refl) refl in omega (arith, e)

some_is : (a b : Block) → Some a ≡ Some b → a ≡ b
some_is a b e = cc

-- what is there was not let go
pub some_kept : (gone : Bool) (was now : Option Block) → now ≡ cond gone None was → is_some now ≡ true → now ≡ was
some_kept true was now e h = absurd (true≢false (sym h ∙ ap is_some e))
some_kept false was now e h = e

module _ (old : Core) (mid new : CacheView) (page : ℕ) (block now : Block) (t : TakenIn page block old.engine.cache mid) (value : content_in mid page ≡ Some now) (e : Edited mid new page now) where
  now_is : now ≡ block
  now_is = some_is now block (sym value ∙ t.here)

  other : (q : ℕ) → q ≢ page → content_in new q ≡ content_in mid q
  other q ne = e.content q ∙ rw (ne_eqb q page ne) refl

  pub placed_world : (d : Meaning) → IsOver d old → world_in d new (entered page old.engine.graph) old.ledger.queue ≡ placed page block (world_of d old)
  placed_world d over = same_is (placed page block (world_of d old)) (world_in d new (entered page old.engine.graph) old.ledger.queue) (record {
    newest = λ a. refl;
    older = λ a. refl;
    cached = λ a. elim (cases_eq a page) [
      | inl is ↦ let at : content_in new a ≡ Some now = e.content a ∙ rw (eq-eqb a page is) refl in rw (eq-eqb a page is) (ap (λ (o : Option Block). held_or o (newest_on d.state a)) at ∙ now_is)
      | inr ne ↦ rw (ne_eqb a page ne) (ap (λ (o : Option Block). held_or o (newest_on d.state a)) (other a ne) ∙ stays a ne)
    ];
    dirty = λ a. holds_placed page old.engine.graph.dirty a;
    hung = λ a. refl;
    live = λ a b. refl;
    barred = λ a b. refl;
    queue = refl;
  })
    where
      gone_or_not : (g : Bool) (o : Option Block) (n : Block) → held_or o n ≡ n → held_or (cond g None o) n ≡ held_or o n
      gone_or_not true o n clean = sym clean
      gone_or_not false o n clean = refl

      stays : (a : ℕ) → a ≢ page → held_or (content_in mid a) (newest_on d.state a) ≡ held_or (content_in old.engine.cache a) (newest_on d.state a)
      stays a ne = elim (cases_Bool (dirty_in old.engine.graph a)) [
        | inl is ↦ ap (λ (o : Option Block). held_or o (newest_on d.state a)) (t.kept a ne (table_dirty old.engine.cache a (old.whole.engine_whole.dirty a ∙ is)))
        | inr off ↦ ap (λ (o : Option Block). held_or o (newest_on d.state a)) (t.others a ne) ∙ gone_or_not (t.gone a) (content_in old.engine.cache a) (newest_on d.state a) (over.clean a off)
      ]

  some_old : (g : Bool) (o : Option Block) → is_some (cond g None o) ≡ true → is_some o ≡ true
  some_old true o h = cc
  some_old false o h = h

  pub within_placed : page < total old.shape → (a : ℕ) → is_there new a ≡ true → a < total old.shape
  within_placed lt a h = elim (cases_eq a page) [
    | inl is ↦ subst (λ x. x < total old.shape) (sym is) lt
    | inr ne ↦ old.whole.within a (some_old (t.gone a) (content_in old.engine.cache a) (ap is_some (sym (other a ne ∙ t.others a ne)) ∙ h))
  ]

  -- no other page came in
  pub placed_came : (q : ℕ) → q ≢ page → is_there new q ≡ true → content_in new q ≡ content_in old.engine.cache q
  placed_came q ne there = some_kept (t.gone q) (content_in old.engine.cache q) (content_in new q) (other q ne ∙ t.others q ne) there

  -- who holds what, and what is there
  pub placed_holds : (q : ℕ) → holds_in new q ≡ holds_in old.engine.cache q + cond (eqb q page) 1 0
  placed_holds q = e.holds q ∙ t.holds q

  pub placed_content : content_in new page ≡ Some block
  placed_content = e.content page ∙ rw (eq-eqb page page refl) (ap Some now_is)

  pub placed_held : holds_in old.engine.cache page ≡ 0 → (q : ℕ) → 0 < holds_in old.engine.cache q → content_in new q ≡ content_in old.engine.cache q
  placed_held none q some =
      let ne : q ≢ page = λ is. absurd (let same = ap (holds_in old.engine.cache) is in omega (arith, some, none, same)) in
      other q ne ∙ t.kept q ne (or_left _ _ (positive (holds_in old.engine.cache q) some))
    where
      positive : (n : ℕ) → 0 < n → nat_lt 0 n ≡ true
      positive n h = grind (arith, h)

pub place_stands : (old new : Core) (p : ℕ) (block : Block) → OnlyEngine old new → 1 ≤ p → p ≤ old.shape.pages → MakesOver (placed (data_page old.shape p) block) old new → PlaceStands p old new
place_stands old new p block rest first last world = λ sound d array s free.
    state_stands sound d old new array s rest.shape (ap (λ (l : Ledger). l.births) rest.ledger) (ap (λ (l : Ledger). l.pool) rest.ledger) (placed (data_page old.shape p) block (world_of d old)) (world d (over sound d old array s))
    (placed_keeps (lay_of old.shape) top sound (apart_pages old.shape) (moment_of d old array s.calls s.told) s.kept p block (first, last) free)
