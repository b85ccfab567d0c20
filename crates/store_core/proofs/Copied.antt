-- A page that is copied: one that is there was used, and of any other the cache keeps nothing.
use Rattle.std.proofs.Common.{arith, ◌≡◌, inl, inr, ◌<◌, ◌+◌, ℕ, Bool, true, false, refl, sym, ap, ◌∙◌, subst, List, [], Option, Some, None, Ok, Err, OnOk, Result, is_some, IsOk}
use Rattle.std.specs.Prelude.{slice_get}
use Rattle.std.proofs.lemmas.Bool.{cases_Bool}
use Rattle.std.proofs.lemmas.List.Elements.{All-nil}
use Rattle.page_device.specs.Block.{Block}
use Rattle.page_device.specs.Disk.{newest}
use Rattle.page_device.specs.Meaning.{HasCause, Meaning, OneRead}
use Rattle.page_device.specs.declared.error.Failed.{Failed}
use Rattle.page_device.specs.Gains.{Gains, gains_none, gains_read}
use Rattle.page_layout.specs.Shape.{total}
use Rattle.page_cache.specs.View as cached
use Rattle.page_cache.specs.View.{CacheView, content_in, holds_in, is_there}
use Rattle.page_cache.specs.Calls.{Same, SameMarks, SameNumbers, Used}
use Rattle.order_model.specs.World.{World}
use Rattle.engine_model.specs.Disk.{newest_on}
use Rattle.store_core.specs.declared.Core.{Core}
use Rattle.store_core.specs.Fetching.{Copies}
use Rattle.store_core.specs.Orderly.{KeepsFormed}
use Rattle.store_core.specs.Quiet.{Quiet, SameRest, none}
use Rattle.store_core.specs.Stands.{EndsDone, IsFit, StandsFor}
use Rattle.store_core.specs.Views.{IsKnown, held_or, world_of}
use Rattle.store_core.proofs.Calls.{counts_none, no_moment}
use Rattle.store_core.proofs.Fetched.{read_content, read_known}
use Rattle.store_core.proofs.OrderlySteps.{formed_fewer}
use Rattle.store_core.proofs.Quieted.{rest_stands, rest_world}
use Rattle.store_core.proofs.Stood.{images_fit}

-- what was read, and what of the cache stays
pub copies : (page : ℕ) (d e : Meaning) (old new : CacheView) (r : Result Unit Failed) (c : Block)
    → (is_there old page ≡ true → IsOk r × (e ≡ d) × Used old new page × (content_in old page ≡ Some c))
    → (is_there old page ≡ false → OneRead d e × Same old new) → Copies page d e old new
copies page d e old new r c there absent = record {
  there = λ t. let h = there t in (h.2, h.1);
  absent = λ off. let h = absent off in (h.1, h.0);
}

none_of : (o : Option Block) (n : Block) → is_some o ≡ false → held_or o n ≡ n
none_of None n h = refl
none_of (Some c) n h = cc

pub copied_content : (page : ℕ) (d e : Meaning) (old new : CacheView) (r : Result Unit Failed) (c : Block)
    → (is_there old page ≡ true → IsOk r × (e ≡ d) × Used old new page × (content_in old page ≡ Some c))
    → (is_there old page ≡ false → OnOk r (d.honest ≡ true → d.tells_pages ≡ true → slice_get (newest d.state) page ≡ Some c))
    → OnOk r (IsKnown d → held_or (content_in old page) (newest_on d.state page) ≡ c)
copied_content page d e old new (Err x) c there absent = tt
copied_content page d e old new (Ok x) c there absent = λ known. elim (cases_Bool (is_there old page)) [
  | inl t ↦ ap (λ (o : Option Block). held_or o (newest_on d.state page)) (there t).3
  | inr off ↦ none_of (content_in old page) (newest_on d.state page) off
      ∙ sym (read_content d page known) ∙ ap (λ (o : Option Block). held_or o (newest_on d.state page)) (absent off known.honest known.tells_pages)
]

-- the contents, marks and numbers of the cache stay
module _ (page : ℕ) (d e : Meaning) (old new : CacheView) (k : Copies page d e old new) where
  pub copy_contents : (q : ℕ) → content_in new q ≡ content_in old q
  copy_contents q = elim (cases_Bool (is_there old page)) [ inl t ↦ (k.there t).0.content q | inr off ↦ (k.absent off).0.content q ]

  copy_marks : SameMarks old new
  copy_marks = elim (cases_Bool (is_there old page)) [ inl t ↦ (k.there t).0.marks | inr off ↦ (k.absent off).0.marks ]

  pub copy_dirty : (q : ℕ) → cached.dirty_in new q ≡ cached.dirty_in old q
  copy_dirty = copy_marks.dirty

  copy_numbers : SameNumbers old new
  copy_numbers = elim (cases_Bool (is_there old page)) [ inl t ↦ (k.there t).0.numbers | inr off ↦ (k.absent off).0.numbers ]

  copy_gains : Gains [] d e
  copy_gains = elim (cases_Bool (is_there old page)) [ inl t ↦ subst (Gains [] d) (sym (k.there t).1) (gains_none d) | inr off ↦ gains_read d e (k.absent off).1 ]

  copy_pages : e.pages ≡ d.pages
  copy_pages = elim (cases_Bool (is_there old page)) [ inl t ↦ ap (λ (m : Meaning). m.pages) (k.there t).1 | inr off ↦ (k.absent off).1.pages ]

  copy_state : IsKnown d → IsKnown e × (e.state ≡ d.state)
  copy_state known = elim (cases_Bool (is_there old page)) [
    | inl t ↦ (subst IsKnown (sym (k.there t).1) known, ap (λ (m : Meaning). m.state) (k.there t).1)
    | inr off ↦ (read_known d e (k.absent off).1 known, (k.absent off).1.state known.tells_pages)
  ]

pub copy_within : (page : ℕ) (d e : Meaning) (core : Core) (new : CacheView) → Copies page d e core.engine.cache new → (a : ℕ) → is_there new a ≡ true → a < total core.shape
copy_within page d e core new k a there = core.whole.within a (ap is_some (sym (copy_contents page d e core.engine.cache new k a)) ∙ there)

pub quiet_copied : (page : ℕ) (d e : Meaning) (old new : Core) (r : Result Unit Failed) → HasCause r d e → Copies page d e old.engine.cache new.engine.cache → SameRest old new → Quiet none d e old new
quiet_copied page d e old new r cause k rest =
    let same : (q : ℕ) → content_in new.engine.cache q ≡ content_in old.engine.cache q = copy_contents page d e old.engine.cache new.engine.cache k in
    let cached_same : (q : ℕ) → held_or (content_in new.engine.cache q) (newest_on d.state q) ≡ held_or (content_in old.engine.cache q) (newest_on d.state q) =
    λ q. ap (λ (o : Option Block). held_or o (newest_on d.state q)) (same q) in
    record {
      passes = record {
        calls = [];
        gains = copy_gains page d e old.engine.cache new.engine.cache k;
        counted = counts_none old.engine.cache.calls new.engine.cache.calls (copy_numbers page d e old.engine.cache new.engine.cache k).calls;
        falls = cause.never_falls;
        calm = λ _. All-nil EndsDone;
        stands = λ sound array s. let state = copy_state page d e old.engine.cache new.engine.cache k s.known in
            rest_stands sound d e old new array s state.0 (copy_pages page d e old.engine.cache new.engine.cache k) rest (rest_world d e old new rest state.1 cached_same);
        each = λ sound array s. no_moment (IsFit old.shape sound array) d.state (images_fit sound d old array s);
        shape = rest.shape;
      };
      cached = λ sound array s q. ap (λ (w : World). w.cached q) (rest_world d e old new rest (copy_state page d e old.engine.cache new.engine.cache k s.known).1 cached_same);
      pages = copy_pages page d e old.engine.cache new.engine.cache k;
      rest = rest;
      holds = λ q. (copy_marks page d e old.engine.cache new.engine.cache k).holds q ∙ plus_none (holds_in old.engine.cache q);
      held = λ q h. same q;
    }
  where
    plus_none : (n : ℕ) → n ≡ n + 0
    plus_none n = omega arith

-- what was copied is what is cached
pub copied_bytes : (page at : ℕ) (d : Meaning) (old : Core) (r : Result Unit Failed) (c : Block) → at ≡ page
    → OnOk r (IsKnown d → held_or (content_in old.engine.cache at) (newest_on d.state at) ≡ c)
    → OnOk r ((sound : Bool) (array : ℕ → List Block) → StandsFor sound d old array → c ≡ (world_of d old).cached page)
copied_bytes page at d old (Err x) c is h = tt
copied_bytes page at d old (Ok x) c is h = λ sound array s. sym (h s.known) ∙ ap (λ n. (world_of d old).cached n) is

pub formed_copied : (page : ℕ) (d e : Meaning) (old new : Core) → Quiet none d e old new → Copies page d e old.engine.cache new.engine.cache → KeepsFormed old new
formed_copied page d e old new quiet k = formed_fewer old new quiet.rest.shape (λ q there. copy_contents page d e old.engine.cache new.engine.cache k q)
