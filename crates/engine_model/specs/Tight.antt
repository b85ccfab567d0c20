-- No waste: each count is owed, each counted page has a print, no two of them have the same content, and in version 2 none has a block of zeros.
use Rattle.std.specs.Prelude.{List, Some, [], eqb, false, not, ℕ, ◌+◌, ◌<◌, ◌≡◌, ◌≢◌}
use Rattle.order_model.specs.Counting.{count_below}
use Rattle.order_model.specs.Pool.{is_free}
use Rattle.order_model.specs.World.{Layout, World, queued, IsData}
use Rattle.engine_model.specs.Contents.{Last}
use Rattle.engine_model.specs.Entries.{cached_count, cached_name, cached_names, cached_print}
use Rattle.engine_model.specs.Invariant.{Moment}
use Rattle.engine_model.specs.Pool.{PoolExact}
use Rattle.engine_model.specs.Schedule.{Fold, NoNode, Step, Write}

pub record IsTight (lay : Layout) (version : ℕ) (w : World) : Type 0 where
  pub owed : (p : ℕ) → IsData lay p → cached_count lay w p ≡ cached_names lay w p + queued w.queue p
  pub printed : (p : ℕ) → IsData lay p → 0 < cached_count lay w p → (print : List ℕ) × (cached_print lay w p ≡ Some print)
  pub distinct : (p q : ℕ) → IsData lay p → IsData lay q → p ≢ q → 0 < cached_count lay w p → 0 < cached_count lay w q
      → w.cached (lay.data_page p) ≢ w.cached (lay.data_page q)
  pub no_zeros : version ≡ 2 → (p : ℕ) → IsData lay p → 0 < cached_count lay w p → w.cached (lay.data_page p) ≢ lay.zero_block

-- no page's count can come to the limit
abbrev pub HasRoom : Layout → ℕ → World → Type 0
HasRoom lay top w = (p : ℕ) → IsData lay p → cached_names lay w p + queued w.queue p < top

-- each page with this print that holds the content has its count at the limit
abbrev pub NoneUsable : Layout → ℕ → World → List ℕ → Type 0
NoneUsable lay top w content = (q : ℕ) → IsData lay q → cached_print lay w q ≡ Some (lay.finger content) → w.cached (lay.data_page q) ≡ content → cached_count lay w q ≡ top

-- no counted page holds the content: each that might is at the limit, and none can come to it
pub record IsNew (lay : Layout) (top : ℕ) (w : World) (content : List ℕ) : Type 0 where
  pub none_usable : NoneUsable lay top w content
  pub room : HasRoom lay top w

-- a content that wants a fresh page: it is new, and in version 2 it is no block of zeros
pub record WantsPage (lay : Layout) (top version : ℕ) (w : World) (content : List ℕ) : Type 0 where
  pub is_new : IsNew lay top w content
  pub not_zeros : version ≡ 2 → content ≢ lay.zero_block

-- a fresh page is chosen only for such a content
abbrev pub ChoosesWell : {lay : Layout} {top : ℕ} {m n : Moment} → ℕ → Step lay top m n → Type 0
ChoosesWell {lay} {top} {m} version (Write l o p content x c g b e) = cached_count lay m.world p ≡ 0 → WantsPage lay top version m.world content
ChoosesWell {lay} {top} {m} version (Fold l o p i x c e b z) = cached_count lay m.world p ≡ 0 → IsNew lay top m.world (m.world.cached (lay.data_page o))
ChoosesWell version step = Unit {0}

-- how many data pages are counted, and how many are named
abbrev pub live_pages : Layout → World → ℕ
live_pages lay w = count_below (λ i. not (eqb (cached_count lay w (i + 1)) 0)) lay.pages

abbrev pub named_pages : Layout → World → ℕ
named_pages lay w = count_below (λ i. not (eqb (cached_names lay w (i + 1)) 0)) lay.pages

-- the pool has no page to give
abbrev pub NoneFree : Layout → Moment → Type 0
NoneFree lay m = (p : ℕ) → IsData lay p → is_free (m.pool p) ≡ false

-- the content is the last one of no block that has a name
abbrev pub HeldByNone : Layout → Moment → List ℕ → Type 0
HeldByNone lay m content = (l p : ℕ) → l < lay.blocks → IsData lay p → cached_name lay m.world l ≡ p → Last (m.array l) content → ⊥

-- nothing waits: no page is a node, no release is queued, and the pool knows each free page, as it does where no write of a count page failed
pub record IsSettled (lay : Layout) (m : Moment) : Type 0 where
  pub none : NoNode m
  pub queue : m.world.queue ≡ []
  pub exact : (p : ℕ) → IsData lay p → PoolExact lay m.world (m.pool p) p
