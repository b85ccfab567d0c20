-- A page that is fetched: a clean page comes in, and maybe another is dropped.
use Rattle.std.proofs.Common.{arith, not, ◌+◌, ◌≡◌, inl, inr, ◌<◌, ℕ, zero, suc, Bool, true, false, cond, refl, sym, ap, ◌∙◌, subst, List, [], ◌∷◌, Option, None, Ok, Err, Result, eqb, eqb-true, get_or, length, is_some, ◌⊎◌}
use Rattle.std.proofs.lemmas.List.Elements.{All-nil}
use Rattle.std.specs.Prelude.{slice_get, OnErr}
use Rattle.std.proofs.lemmas.Bool.{cases_Bool}
use Rattle.page_device.specs.Block.{Block}
use Rattle.page_device.specs.Disk.{DeviceState, newest}
use Rattle.page_device.specs.Meaning.{Meaning, OneRead}
use Rattle.page_device.specs.Gains.{Gains, gains_none, gains_read}
use Rattle.page_layout.specs.Shape.{ShapeView, total}
use Rattle.page_cache.specs.View as cached
use Rattle.page_cache.specs.View.{CacheView, content_in, holds_in, is_there}
use Rattle.page_cache.specs.Calls.{Brought, FetchCall, HasFetchCause, SameMarks, is_dropped, Same}
use Rattle.page_cache.specs.declared.cache.FetchError.{FetchError}
use Rattle.page_cache.specs.declared.cache.FetchError.TheVariants.{Device, NoMemory}
use Rattle.order_model.specs.World.{World}
use Rattle.dep_graph.specs.Lists.{dirty_in}
use Rattle.engine_model.specs.Disk.{InRange, newest_on}
use Rattle.engine_model.proofs.Disks.{flush_newest}
use Rattle.store_core.specs.declared.Core.{Core}
use Rattle.store_core.specs.Fetching.{Fetches}
use Rattle.store_core.specs.Quiet.{Quiet, SameRest, none}
use Rattle.store_core.specs.Stands.{EndsDone, IsFit}
use Rattle.store_core.specs.Views.{IsKnown, IsOver, held_or}
use Rattle.store_core.proofs.Calls.{counts_none, no_moment}
use Rattle.store_core.proofs.Clean.{over}
use Rattle.store_core.proofs.Flowed.{table_held}
use Rattle.store_core.proofs.Quieted.{rest_stands, rest_world}
use Rattle.store_core.proofs.Stood.{images_fit}
use Rattle.store_core.proofs.Worlds.{table_dirty}

pub read_known : (d e : Meaning) → OneRead d e → IsKnown d → IsKnown e
read_known d e r k =
    let s = r.state k.tells_pages in
    record {
      honest = r.kind.honest ∙ k.honest;
      tells_pages = r.kind.tells_pages ∙ k.tells_pages;
      counts = ap (λ (x : DeviceState). length x.fixed) s ∙ k.counts ∙ sym r.pages;
      in_range = subst (λ (n : ℕ). InRange n e.state.since) (sym r.pages) (subst (λ (x : DeviceState). InRange d.pages x.since) (sym s) k.in_range);
    }

-- what is read is the newest content
held_get : (xs : List Block) (k : ℕ) → held_or (slice_get xs k) (get_or xs k []) ≡ get_or xs k []
held_get [] k = refl
held_get (x ∷ xs) zero = refl
held_get (x ∷ xs) (suc k) = held_get xs k

pub read_content : (d : Meaning) (page : ℕ) → IsKnown d → held_or (slice_get (newest d.state) page) (newest_on d.state page) ≡ newest_on d.state page
read_content d page k =
    let is : get_or (newest d.state) page [] ≡ newest_on d.state page = flush_newest d.state page (subst (λ (n : ℕ). InRange n d.state.since) (sym k.counts) k.in_range) in
    subst (λ n. held_or (slice_get (newest d.state) page) n ≡ n) is (held_get (newest d.state) page)

three : (x y : Bool) (new was : Option Block) (n : Block) → (x ≡ true → held_or new n ≡ n) → held_or was n ≡ n → held_or (cond x new (cond y None was)) n ≡ held_or was n
three true y new was n fresh clean = fresh refl ∙ sym clean
three false true new was n fresh clean = sym clean
three false false new was n fresh clean = refl

pub not-true' : (b : Bool) → not b ≡ true → b ≡ false
not-true' true h = cc
not-true' false h = refl

pub not-false' : (b : Bool) → not b ≡ false → b ≡ true
not-false' true h = refl
not-false' false h = cc

-- each page is cached as before
module _ (d e : Meaning) (old new : Core) (page : ℕ) (is_over : IsOver d old) where
  abbrev Cached : Type 0
  Cached = (q : ℕ) → held_or (content_in new.engine.cache q) (newest_on d.state q) ≡ held_or (content_in old.engine.cache q) (newest_on d.state q)

  same_cached : ((q : ℕ) → content_in new.engine.cache q ≡ content_in old.engine.cache q) → Cached
  same_cached contents q = ap (λ (o : Option Block). held_or o (newest_on d.state q)) (contents q)

  brought_cached : Brought old.engine.cache new.engine.cache page (content_in new.engine.cache page) → held_or (content_in new.engine.cache page) (newest_on d.state page) ≡ newest_on d.state page → Cached
  brought_cached b fresh q = elim (cases_Bool (dirty_in old.engine.graph q)) [
    | inl is ↦ ap (λ (o : Option Block). held_or o (newest_on d.state q)) (b.kept q (table_dirty old.engine.cache q (old.whole.engine_whole.dirty q ∙ is)))
    | inr off ↦ ap (λ (o : Option Block). held_or o (newest_on d.state q)) (b.each q) ∙ three (eqb q page) (is_dropped old.engine.cache new.engine.cache q) (content_in new.engine.cache page) (content_in old.engine.cache q) (newest_on d.state q)
        (λ h. subst (λ x. held_or (content_in new.engine.cache page) (newest_on d.state x) ≡ newest_on d.state x) (sym (eqb-true q page h)) fresh) (is_over.clean q off)
  ]

  pub fetched_cached : (r : Result Bool FetchError) → Fetches page r d e old.engine.cache new.engine.cache → Cached
  fetched_cached (Ok true) f =
      brought_cached (f.read (not-true' _ (sym f.answer)))
      (subst (λ (o : Option Block). held_or o (newest_on d.state page) ≡ newest_on d.state page) (sym (f.newest refl is_over.known.honest is_over.known.tells_pages)) (read_content d page is_over.known))
  fetched_cached (Ok false) f = same_cached (f.there (not-false' _ (sym f.answer))).1.content
  fetched_cached (Err x) f = same_cached f.err.content

-- at most one read of the device
fetch_state : (d e : Meaning) (r : Result Bool FetchError) → FetchCall r d e → IsKnown d → IsKnown e × (e.state ≡ d.state)
fetch_state d e (Ok true) call k = (read_known d e call k, call.state k.tells_pages)
fetch_state d e (Ok false) call k = (subst IsKnown (sym call) k, ap (λ (m : Meaning). m.state) call)
fetch_state d e (Err Device) call k = (read_known d e call k, call.state k.tells_pages)
fetch_state d e (Err NoMemory) call k = elim call [
  | inl same ↦ (subst IsKnown (sym same) k, ap (λ (m : Meaning). m.state) same)
  | inr r ↦ (read_known d e r k, r.state k.tells_pages)
]

fetch_gains : (d e : Meaning) (r : Result Bool FetchError) → FetchCall r d e → Gains [] d e
fetch_gains d e (Ok true) call = gains_read d e call
fetch_gains d e (Ok false) call = subst (Gains [] d) (sym call) (gains_none d)
fetch_gains d e (Err Device) call = gains_read d e call
fetch_gains d e (Err NoMemory) call = elim call [
  | inl same ↦ subst (Gains [] d) (sym same) (gains_none d)
  | inr r ↦ gains_read d e r
]

fetch_pages : (d e : Meaning) (r : Result Bool FetchError) → FetchCall r d e → e.pages ≡ d.pages
fetch_pages d e (Ok true) call = call.pages
fetch_pages d e (Ok false) call = ap (λ (m : Meaning). m.pages) call
fetch_pages d e (Err Device) call = call.pages
fetch_pages d e (Err NoMemory) call = elim call [ inl same ↦ ap (λ (m : Meaning). m.pages) same | inr r ↦ r.pages ]

-- the marks of each page stay, and so does what is held
module _ (d e : Meaning) (old new : CacheView) (page : ℕ) where
  fetch_marks : (r : Result Bool FetchError) → Fetches page r d e old new → SameMarks old new
  fetch_marks (Ok read) f = elim (cases_Bool (is_there old page)) [ inl t ↦ (f.there t).1.marks | inr off ↦ (f.read off).marks ]
  fetch_marks (Err x) f = f.err.marks

  fetch_held : (r : Result Bool FetchError) → Fetches page r d e old new → (q : ℕ) → 0 < holds_in old q → content_in new q ≡ content_in old q
  fetch_held (Ok read) f q h = elim (cases_Bool (is_there old page)) [ inl t ↦ (f.there t).1.content q | inr off ↦ (f.read off).kept q (table_held old q h) ]
  fetch_held (Err x) f q h = f.err.content q

  came_in : (x y : Bool) (in_ was : Option Block) → is_some (cond x in_ (cond y None was)) ≡ true → x ≡ false → is_some was ≡ true
  came_in true y in_ was h off = absurd (cc)
  came_in false true in_ was h off = absurd (cc)
  came_in false false in_ was h off = h

  -- each page that is there is that one, or was there
  pub fetch_within : (r : Result Bool FetchError) (shape : ShapeView) → Fetches page r d e old new → page < total shape → ((a : ℕ) → is_there old a ≡ true → a < total shape) → (a : ℕ) → is_there new a ≡ true → a < total shape
  fetch_within (Ok read) shape f lt was a h = elim (cases_Bool (is_there old page)) [
    | inl t ↦ was a (ap is_some (sym ((f.there t).1.content a)) ∙ h)
    | inr off ↦ elim (cases_Bool (eqb a page)) [
      | inl here ↦ subst (λ (n : ℕ). n < total shape) (sym (eqb-true a page here)) lt
      | inr other ↦ was a (came_in (eqb a page) (is_dropped old new a) (content_in new page) (content_in old a) (ap is_some (sym ((f.read off).each a)) ∙ h) other)
    ]
  ]
  fetch_within (Err x) shape f lt was a h = was a (ap is_some (sym (f.err.content a)) ∙ h)

  -- what came in, and what did not
  came : (x y : Bool) (in_ was : Option Block) → is_some (cond x in_ (cond y None was)) ≡ true → (x ≡ true) ⊎ (cond x in_ (cond y None was) ≡ was)
  came true y in_ was h = inl refl
  came false true in_ was h = absurd (cc)
  came false false in_ was h = inr refl

  pub only_brings : (r : Result Bool FetchError) → Fetches page r d e old new → (q : ℕ) → is_there new q ≡ true → (content_in new q ≡ content_in old q) ⊎ ((q ≡ page) × (is_there old page ≡ false))
  only_brings (Ok read) f q there = elim (cases_Bool (is_there old page)) [
    | inl t ↦ inl ((f.there t).1.content q)
    | inr off ↦
        let each = (f.read off).each q in
        elim (came (eqb q page) (is_dropped old new q) (content_in new page) (content_in old q) (ap is_some (sym each) ∙ there)) [
          | inl here ↦ inr (eqb-true q page here, off)
          | inr was ↦ inl (each ∙ was)
        ]
  ]
  only_brings (Err x) f q there = inl (f.err.content q)

  pub fetch_dirty : (r : Result Bool FetchError) → Fetches page r d e old new → (q : ℕ) → cached.dirty_in new q ≡ cached.dirty_in old q
  fetch_dirty r f = (fetch_marks r f).dirty

  fetch_calls : (r : Result Bool FetchError) → Fetches page r d e old new → new.calls ≡ old.calls
  fetch_calls (Ok read) f = elim (cases_Bool (is_there old page)) [ inl t ↦ (f.there t).1.numbers.calls | inr off ↦ (f.read off).numbers.calls ]
  fetch_calls (Err x) f = f.err.numbers.calls

  pub fetch_holds : (r : Result Bool FetchError) → Fetches page r d e old new → (q : ℕ) → holds_in new q ≡ holds_in old q
  fetch_holds r f = (fetch_marks r f).holds

-- after an error the contents are as before
pub fetch_kept : (old new : CacheView) (r : Result Bool FetchError) → OnErr r (Same old new) → OnErr r ((q : ℕ) → content_in new q ≡ content_in old q)
fetch_kept old new (Ok read) err = tt
fetch_kept old new (Err x) err = err.content

pub quiet_fetched : (d e : Meaning) (old new : Core) (page : ℕ) (r : Result Bool FetchError) → HasFetchCause r d e → Fetches page r d e old.engine.cache new.engine.cache → SameRest old new → Quiet none d e old new
quiet_fetched d e old new page r cause f rest = record {
  passes = record {
    calls = [];
    gains = fetch_gains d e r f.call;
    counted = counts_none old.engine.cache.calls new.engine.cache.calls (fetch_calls d e old.engine.cache new.engine.cache page r f);
    falls = cause.never_falls;
    calm = λ _. All-nil EndsDone;
    stands = λ sound array s.
        let is_over = over sound d old array s in
        let state = fetch_state d e r f.call s.known in
        rest_stands sound d e old new array s state.0 (fetch_pages d e r f.call) rest (rest_world d e old new rest state.1 (fetched_cached d e old new page is_over r f));
    each = λ sound array s. no_moment (IsFit old.shape sound array) d.state (images_fit sound d old array s);
    shape = rest.shape;
  };
  cached = λ sound array s q.
      let is_over = over sound d old array s in
      ap (λ (w : World). w.cached q) (rest_world d e old new rest (fetch_state d e r f.call s.known).1 (fetched_cached d e old new page is_over r f));
  pages = fetch_pages d e r f.call;
  rest = rest;
  holds = λ q. fetch_holds d e old.engine.cache new.engine.cache page r f q ∙ plus_none (holds_in old.engine.cache q);
  held = fetch_held d e old.engine.cache new.engine.cache page r f;
}
  where
    plus_none : (n : ℕ) → n ≡ n + 0
    plus_none n = omega arith
