-- What each call makes of a cache.
use Rattle.std.specs.Prelude.{◌≡◌, ◌⊎◌, ℕ, ◌+◌, ◌-◌, ◌<◌, ◌≤◌, ◌^◌, ◌&&◌, ◌||◌, not, Bool, true, false, cond, eqb, min, List, [], ◌∷◌, ◌++◌, take, reverse, Option, Some, None, Result, Ok, Err}
use Rattle.page_device.specs.Block.{Block}
use Rattle.page_device.specs.declared.error.Failed.{Failed}
use Rattle.page_device.specs.Meaning.{Meaning, OneCall, OneRead, WriteEntry}
use Rattle.page_cache.specs.declared.cache.FetchError.{FetchError}
use Rattle.page_cache.specs.declared.cache.FetchError.TheVariants.{Device, NoMemory}
use Rattle.page_cache.specs.Recent.{has, used, without, IsRising}
use Rattle.page_cache.specs.View.{CacheView, content_in, dirty_in, holds_in, in_table, is_recent, written_in}

-- a cache that was just made
pub record IsFresh (limit : ℕ) (c : CacheView) : Type 0 where
  pub content : (q : ℕ) → content_in c q ≡ None
  pub holds : (q : ℕ) → holds_in c q ≡ 0
  pub dirty : (q : ℕ) → dirty_in c q ≡ false
  pub written : (q : ℕ) → written_in c q ≡ false
  pub recent : c.recent ≡ []
  pub limit_is : c.limit ≡ limit
  pub calls : c.calls ≡ 0

-- the marks of each page stay
pub record SameMarks (old new : CacheView) : Type 0 where
  pub holds : (q : ℕ) → holds_in new q ≡ holds_in old q
  pub dirty : (q : ℕ) → dirty_in new q ≡ dirty_in old q
  pub written : (q : ℕ) → written_in new q ≡ written_in old q

-- the length of the list and the number of calls stay
pub record SameNumbers (old new : CacheView) : Type 0 where
  pub limit : new.limit ≡ old.limit
  pub calls : new.calls ≡ old.calls

-- nothing changed
pub record Same (old new : CacheView) : Type 0 where
  pub content : (q : ℕ) → content_in new q ≡ content_in old q
  pub marks : SameMarks old new
  pub recent : new.recent ≡ old.recent
  pub numbers : SameNumbers old new

-- a page that is there was used: it comes to the front where it stands in the list
pub record Used (old new : CacheView) (page : ℕ) : Type 0 where
  pub content : (q : ℕ) → content_in new q ≡ content_in old q
  pub marks : SameMarks old new
  pub recent : new.recent ≡ used page old.recent
  pub listed : (q : ℕ) → is_recent new q ≡ is_recent old q
  pub numbers : SameNumbers old new

-- it was in the list, and is there no longer
abbrev pub is_dropped : CacheView → CacheView → ℕ → Bool
is_dropped old new q = is_recent old q && not (is_recent new q)

-- A page that was not there came in with this content: it is at the front, and a full list dropped its last page for it.
pub record Brought (old new : CacheView) (page : ℕ) (content : Option Block) : Type 0 where
  pub each : (q : ℕ) → content_in new q ≡ cond (eqb q page) content (cond (is_dropped old new q) None (content_in old q))
  pub kept : (q : ℕ) → in_table old q ≡ true → content_in new q ≡ content_in old q
  pub marks : SameMarks old new
  pub recent : new.recent ≡ take old.limit (page ∷ old.recent)
  pub front : is_recent new page ≡ true
  pub listed : (q : ℕ) → is_recent new q ≡ true → (eqb q page || is_recent old q) ≡ true
  pub numbers : SameNumbers old new

-- a page that was there has this content now, and was used
pub record Replaced (old new : CacheView) (page : ℕ) (block : Block) : Type 0 where
  pub each : (q : ℕ) → content_in new q ≡ cond (eqb q page) (Some block) (content_in old q)
  pub marks : SameMarks old new
  pub recent : new.recent ≡ used page old.recent
  pub listed : (q : ℕ) → is_recent new q ≡ is_recent old q
  pub numbers : SameNumbers old new

-- a page that nobody holds is there no longer
pub record TakenOut (old new : CacheView) (page : ℕ) : Type 0 where
  pub content : (q : ℕ) → content_in new q ≡ cond (eqb q page) None (content_in old q)
  pub holds : (q : ℕ) → holds_in new q ≡ holds_in old q
  pub dirty : (q : ℕ) → dirty_in new q ≡ (dirty_in old q && not (eqb q page))
  pub written : (q : ℕ) → written_in new q ≡ (written_in old q && not (eqb q page))
  pub recent : new.recent ≡ without page old.recent
  pub listed : (q : ℕ) → is_recent new q ≡ (is_recent old q && not (eqb q page))
  pub numbers : SameNumbers old new

-- a page that is there is held once more, and stands in the table
pub record Held (old new : CacheView) (page : ℕ) : Type 0 where
  pub content : (q : ℕ) → content_in new q ≡ content_in old q
  pub holds : (q : ℕ) → holds_in new q ≡ holds_in old q + cond (eqb q page) 1 0
  pub dirty : (q : ℕ) → dirty_in new q ≡ dirty_in old q
  pub written : (q : ℕ) → written_in new q ≡ written_in old q
  pub recent : new.recent ≡ without page old.recent
  pub listed : (q : ℕ) → is_recent new q ≡ (is_recent old q && not (eqb q page))
  pub numbers : SameNumbers old new

-- A held page is held once less. Where it stands in the table no longer, it is at the front of the list, or let go for want of memory.
pub record Unheld (old new : CacheView) (page : ℕ) : Type 0 where
  pub content : (q : ℕ) → content_in new q ≡ cond (in_table new q || is_recent new q) (content_in old q) None
  pub kept : (q : ℕ) → in_table new q ≡ true → content_in new q ≡ content_in old q
  pub holds : (q : ℕ) → holds_in new q ≡ holds_in old q - cond (eqb q page) 1 0
  pub dirty : (q : ℕ) → dirty_in new q ≡ dirty_in old q
  pub written : (q : ℕ) → written_in new q ≡ written_in old q
  pub stays : in_table new page ≡ true → new.recent ≡ old.recent
  pub moves : in_table new page ≡ false → (new.recent ≡ take old.limit (page ∷ old.recent)) ⊎ (new.recent ≡ old.recent)
  pub listed : (q : ℕ) → is_recent new q ≡ true → (eqb q page || is_recent old q) ≡ true
  pub numbers : SameNumbers old new

-- a held page is dirty, and has this content
pub record Edited (old new : CacheView) (page : ℕ) (block : Block) : Type 0 where
  pub content : (q : ℕ) → content_in new q ≡ cond (eqb q page) (Some block) (content_in old q)
  pub holds : (q : ℕ) → holds_in new q ≡ holds_in old q
  pub dirty : (q : ℕ) → dirty_in new q ≡ (dirty_in old q || eqb q page)
  pub written : (q : ℕ) → written_in new q ≡ written_in old q
  pub recent : new.recent ≡ old.recent
  pub numbers : SameNumbers old new

-- the next number of calls; the last one stands still
abbrev pub after_call : ℕ → ℕ
after_call calls = min (calls + 1) 18446744073709551615

-- one more call was made, and nothing else changed
pub record Tried (old new : CacheView) : Type 0 where
  pub content : (q : ℕ) → content_in new q ≡ content_in old q
  pub marks : SameMarks old new
  pub recent : new.recent ≡ old.recent
  pub limit : new.limit ≡ old.limit
  pub calls : new.calls ≡ after_call old.calls

-- a page was written: it is clean, and stands in the table until the next barrier
pub record WrittenOut (old new : CacheView) (page : ℕ) : Type 0 where
  pub content : (q : ℕ) → content_in new q ≡ content_in old q
  pub holds : (q : ℕ) → holds_in new q ≡ holds_in old q
  pub dirty : (q : ℕ) → dirty_in new q ≡ (dirty_in old q && not (eqb q page))
  pub written : (q : ℕ) → written_in new q ≡ (written_in old q || eqb q page)
  pub recent : new.recent ≡ without page old.recent
  pub listed : (q : ℕ) → is_recent new q ≡ (is_recent old q && not (eqb q page))
  pub limit : new.limit ≡ old.limit
  pub calls : new.calls ≡ after_call old.calls

-- a barrier lets it go from the table
abbrev pub is_freed : CacheView → ℕ → Bool
is_freed c q = written_in c q && (not (dirty_in c q) && eqb (holds_in c q) 0)

-- A barrier was made: no page counts as written. The pages that stand in the table no longer went to the front of the list one after another, the lower numbers first, but for those that were let go for want of memory.
pub record Fixed (old new : CacheView) : Type 0 where
  pub content : (q : ℕ) → content_in new q ≡ cond (in_table new q || is_recent new q) (content_in old q) None
  pub kept : (q : ℕ) → in_table new q ≡ true → content_in new q ≡ content_in old q
  pub holds : (q : ℕ) → holds_in new q ≡ holds_in old q
  pub dirty : (q : ℕ) → dirty_in new q ≡ dirty_in old q
  pub written : (q : ℕ) → written_in new q ≡ false
  pub moved : List ℕ
  pub rising : IsRising moved
  pub freed : (q : ℕ) → has moved q ≡ true → is_freed old q ≡ true
  pub recent : new.recent ≡ take old.limit (reverse moved ++ old.recent)
  pub listed : (q : ℕ) → is_recent new q ≡ true → (is_freed old q || is_recent old q) ≡ true
  pub limit : new.limit ≡ old.limit
  pub calls : new.calls ≡ after_call old.calls

-- a fetch that the device failed is a counted fault; a count at its end may stand still
pub record HasFetchCause (result : Result Bool FetchError) (old new : Meaning) : Type 0 where
  pub never_falls : old.faults ≤ new.faults
  pub failed : result ≡ Err Device → old.faults + 1 < 2 ^ 64 → old.faults < new.faults

-- what a fetch did to the device: one read where it answered that or failed there, and none where the page was there
abbrev pub FetchCall : Result Bool FetchError → Meaning → Meaning → Type 0
FetchCall (Ok true) old new = OneRead old new
FetchCall (Ok false) old new = new ≡ old
FetchCall (Err Device) old new = OneRead old new
FetchCall (Err NoMemory) old new = (new ≡ old) ⊎ OneRead old new

-- the whole content of that moment was handed to the device, and nothing else
pub record WritesPage (content : Option Block) (page : ℕ) (result : Result Unit Failed) (old new : Meaning) : Type 0 where
  pub block : Block
  pub is : content ≡ Some block
  pub call : OneCall (WriteEntry page block result) old new
