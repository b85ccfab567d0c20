-- What a fetch of a page does to a cache and to the device.
use Rattle.std.specs.Prelude.{◌≡◌, ◌⊎◌, ℕ, Bool, true, false, not, slice_get, Result, Ok, IsOk, IfOk, OnOk, OnErr}
use Rattle.page_device.specs.Disk.{newest}
use Rattle.page_device.specs.Meaning.{Meaning, OneRead}
use Rattle.page_cache.specs.declared.cache.FetchError.{FetchError}
use Rattle.page_cache.specs.View.{CacheView, content_in, is_there}
use Rattle.page_cache.specs.Calls.{Brought, FetchCall, Same, Used}
use Rattle.store_core.specs.declared.Core.{Core}

-- The page that was there was used, or else it came in with what an honest device has there; after an error the cache is as before.
pub record Fetches (page : ℕ) (result : Result Bool FetchError) (d e : Meaning) (old new : CacheView) : Type 0 where
  pub call : FetchCall result d e
  pub answer : IfOk result (λ read. read ≡ not (is_there old page))
  pub there : is_there old page ≡ true → IsOk result × Used old new page
  pub read : is_there old page ≡ false → OnOk result (Brought old new page (content_in new page))
  pub now : OnOk result (is_there new page ≡ true)
  pub newest : result ≡ Ok true → d.honest ≡ true → d.tells_pages ≡ true → content_in new page ≡ slice_get (newest d.state) page
  pub err : OnErr result (Same old new)

-- Of the pages that are there each was there before as it is, but for this one where it came in.
pub record OnlyBrings (page : ℕ) (old new : Core) : Type 0 where
  pub each : (q : ℕ) → is_there new.engine.cache q ≡ true
      → (content_in new.engine.cache q ≡ content_in old.engine.cache q) ⊎ ((q ≡ page) × (is_there old.engine.cache page ≡ false))

-- a page that is there was used, and of any other the cache keeps nothing
pub record Copies (page : ℕ) (d e : Meaning) (old new : CacheView) : Type 0 where
  pub there : is_there old page ≡ true → Used old new page × (e ≡ d)
  pub absent : is_there old page ≡ false → Same old new × OneRead d e
