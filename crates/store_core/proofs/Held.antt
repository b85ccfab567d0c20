-- A page is held once more, or not for want of a number.
use Rattle.std.proofs.Common.{OnOk, OnErr, ◌≡◌, inl, inr, ◌<◌, ℕ, Bool, true, false, ap, ◌∙◌, Ok, Err, Result, is_some}
use Rattle.page_device.specs.Meaning.{Meaning}
use Rattle.page_device.specs.declared.error.NoMemory.{NoMemory}
use Rattle.page_layout.specs.Shape.{total}
use Rattle.page_cache.specs.View as cached
use Rattle.page_cache.specs.View.{CacheView, content_in, is_there}
use Rattle.page_cache.specs.Calls.{FetchCall, Held, Same as SameCache}
use Rattle.page_cache.specs.declared.cache.FetchError.TheVariants as fetch
use Rattle.store_core.specs.declared.Core.{Core}
use Rattle.store_core.specs.Quiet.{Quiet, SameRest, none, once}
use Rattle.store_core.proofs.Quieted.{held_within, quiet_contents, quiet_held, same_within}

module _ (old : Core) (cache : CacheView) (page : ℕ) where
  pub hold_dirty : (r : Result Unit NoMemory) → OnOk r (Held old.engine.cache cache page) → OnErr r (SameCache old.engine.cache cache) → (q : ℕ) → cached.dirty_in cache q ≡ cached.dirty_in old.engine.cache q
  hold_dirty (Ok _) ok err = ok.dirty
  hold_dirty (Err _) ok err = err.marks.dirty

  pub hold_within : (r : Result Unit NoMemory) → OnOk r (Held old.engine.cache cache page) → OnErr r (SameCache old.engine.cache cache) → (a : ℕ) → is_there cache a ≡ true → a < total old.shape
  hold_within (Ok _) ok err = held_within old cache page ok
  hold_within (Err _) ok err = same_within old cache err

  pub hold_same : (r : Result Unit NoMemory) → OnOk r (Held old.engine.cache cache page) → OnErr r (SameCache old.engine.cache cache) → (q : ℕ) → content_in cache q ≡ content_in old.engine.cache q
  hold_same (Ok _) ok err = ok.content
  hold_same (Err _) ok err = err.content

  pub hold_there : (r : Result Unit NoMemory) → OnOk r (Held old.engine.cache cache page) → is_there old.engine.cache page ≡ true → OnOk r (is_there cache page ≡ true)
  hold_there (Ok _) ok t = ap is_some (ok.content page) ∙ t
  hold_there (Err _) ok t = tt

module _ (old new : Core) (page : ℕ) (rest : SameRest old new) where
  pub hold_done : (r : Result Unit NoMemory) → OnOk r (Held old.engine.cache new.engine.cache page) → OnOk r ((d : Meaning) → Quiet (once page) d d old new)
  hold_done (Ok _) ok = λ d. quiet_held d old new rest page ok
  hold_done (Err _) ok = tt

  pub hold_failed : (r : Result Unit NoMemory) → OnErr r (SameCache old.engine.cache new.engine.cache) → OnErr r ((d : Meaning) → Quiet none d d old new)
  hold_failed (Ok _) err = tt
  hold_failed (Err _) err = λ d. quiet_contents d old new rest err

-- a fetch that was done is one for which no memory was found then
pub no_memory_after : (d e : Meaning) (read : Bool) → FetchCall (Ok read) d e → FetchCall (Err fetch.NoMemory) d e
no_memory_after d e true call = inr call
no_memory_after d e false call = inl call
