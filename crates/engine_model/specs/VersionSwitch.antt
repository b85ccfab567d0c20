-- The change of a version in place: the print pages are cleared, and then the first page is written anew. It has an invariant of its own.
use Rattle.std.specs.Prelude.{Bool, List, None, [], false, true, ℕ, ◌∷◌, ◌≡◌, ◌≢◌, ◌⊎◌}
use Rattle.order_model.specs.World.{Agree, Layout, Possible, World, IsData}
use Rattle.engine_model.specs.Entries.{IsPrint}
use Rattle.order_model.specs.Calls.{Fixed, Tried, Written}
use Rattle.order_model.specs.Pool.{after_fixed, after_tried, after_written}
use Rattle.engine_model.specs.Invariant.{EngineInvariant, Moment}
use Rattle.engine_model.specs.DeviceSteps.{Barrier, KeepsMarks, MovesMarks, Same, Taken}
use Rattle.engine_model.specs.Images.{ContentsFit, CountsFit}

-- the layout of the version whose fingerprints are these
abbrev pub with_finger : Layout → (List ℕ → List ℕ) → Layout
with_finger lay finger = record lay { finger = finger }

-- a content of this print page with no print
pub record NoPrints (lay : Layout) (page : ℕ) (c : List ℕ) : Type 0 where
  pub well_formed : lay.well_formed page c ≡ true
  pub none : (p : ℕ) → IsData lay p → lay.print_page p ≡ page → lay.print_in c p ≡ None

-- every print page is written, fixed and has no print
pub record Cleared (lay : Layout) (w : World) (p : ℕ) : Type 0 where
  pub dirty : w.dirty (lay.print_page p) ≡ false
  pub hung : w.hung (lay.print_page p) ≡ false
  pub none : (c : List ℕ) → Possible w (lay.print_page p) c → NoPrints lay (lay.print_page p) c

abbrev pub AllCleared : Layout → World → Type 0
AllCleared lay w = (p : ℕ) → IsData lay p → Cleared lay w p

-- a page as it was
pub record Untouched (was w : World) (page : ℕ) : Type 0 where
  pub newest : w.newest page ≡ was.newest page
  pub possible : (c : List ℕ) → Possible w page c → Possible was page c
  pub cached : w.cached page ≡ was.cached page
  pub dirty : w.dirty page ≡ false
  pub hung : w.hung page ≡ false

-- What holds from the state `was`, in which no page is a node and nothing is queued, until the first page is `next` and fixed.
pub record Switching (lay : Layout) (next : List ℕ) (was w : World) : Type 0 where
  pub queue : w.queue ≡ []
  pub live : (a b : ℕ) → w.live a b ≡ false
  pub barred : (a b : ℕ) → w.barred a b ≡ false
  pub others : (a : ℕ) → a ≢ 0 → (IsPrint lay a → ⊥) → Untouched was w a
  pub prints : (p : ℕ) (c : List ℕ) → IsData lay p → Possible w (lay.print_page p) c
      → (c ≡ was.cached (lay.print_page p)) ⊎ NoPrints lay (lay.print_page p) c
  pub cached_prints : (p : ℕ) → IsData lay p
      → (w.cached (lay.print_page p) ≡ was.cached (lay.print_page p)) ⊎ NoPrints lay (lay.print_page p) (w.cached (lay.print_page p))
  -- another first page only where every print page is cleared
  pub first_page : (c : List ℕ) → Possible w 0 c → (c ≡ was.newest 0) ⊎ ((c ≡ next) × AllCleared lay w)
  pub cached_first : w.dirty 0 ≡ true → (w.cached 0 ≡ next) × AllCleared lay w
  pub settled : (a : ℕ) (c : List ℕ) → (a ≡ 0) ⊎ IsPrint lay a → w.dirty a ≡ false → w.hung a ≡ false → Possible w a c
      → c ≡ w.cached a
  pub clean : (a : ℕ) → (a ≡ 0) ⊎ IsPrint lay a → w.dirty a ≡ false → w.newest a ≡ w.cached a

-- one page gets other content and is dirty
pub record Edited (w v : World) (page : ℕ) : Type 0 where
  pub newest : (a : ℕ) → v.newest a ≡ w.newest a
  pub possible : (a : ℕ) (c : List ℕ) → Possible v a c → Possible w a c
  pub cached : (a : ℕ) → a ≢ page → v.cached a ≡ w.cached a
  pub dirty : (a : ℕ) → a ≢ page → v.dirty a ≡ w.dirty a
  pub dirty_here : v.dirty page ≡ true
  pub hung : (a : ℕ) → v.hung a ≡ w.hung a
  pub live : (a b : ℕ) → v.live a b ≡ w.live a b
  pub barred : (a b : ℕ) → v.barred a b ≡ w.barred a b
  pub queue : v.queue ≡ w.queue

-- a print page is cleared while the first page is as it was
pub record Clears (lay : Layout) (was w v : World) (page : ℕ) : Type 0 where
  pub edited : Edited w v page
  pub is_print : IsPrint lay page
  pub none : NoPrints lay page (v.cached page)
  pub first_clean : w.dirty 0 ≡ false
  pub first_fixed : w.hung 0 ≡ false
  pub first_cached : w.cached 0 ≡ was.newest 0

-- the first page is edited while no page is a node and no print page has a print
pub record Stamps (lay : Layout) (next : List ℕ) (w v : World) : Type 0 where
  pub edited : Edited w v 0
  pub content : v.cached 0 ≡ next
  pub clean : (a : ℕ) → (w.dirty a ≡ false) × (w.hung a ≡ false)
  pub none : (p : ℕ) → IsData lay p → NoPrints lay (lay.print_page p) (w.cached (lay.print_page p))

-- the state after the first drain: no page is a node and nothing is queued
pub record SwitchStart (lay : Layout) (top : ℕ) (sound : Bool) (m : Moment) : Type 0 where
  pub kept : EngineInvariant lay top sound m
  pub queue : m.world.queue ≡ []
  pub clean : (a : ℕ) → (m.world.dirty a ≡ false) × (m.world.hung a ≡ false)

pub data SwitchStep (lay : Layout) (next : List ℕ) (was m n : Moment) : Type 0 where
  Clear : (page : ℕ) → Clears lay was.world m.world n.world page → Agree n.array m.array → n.calls ≡ m.calls → Agree n.pool m.pool
      → SwitchStep lay next was m n
  Stamp : Stamps lay next m.world n.world → Agree n.array m.array → n.calls ≡ m.calls → Agree n.pool m.pool
      → SwitchStep lay next was m n
  Fix : Barrier m.world n.world → Agree n.array m.array → n.calls ≡ Fixed ∷ m.calls → Agree n.pool (after_fixed m.pool)
      → SwitchStep lay next was m n
  PageDone : (page : ℕ) → Taken m.world n.world page → MovesMarks lay m.world n.world page → Agree n.array m.array
      → n.calls ≡ Written page ∷ (Tried page ∷ m.calls) → Agree n.pool (after_written lay page (after_tried lay page m.pool))
      → SwitchStep lay next was m n
  PageTaken : (page : ℕ) → Taken m.world n.world page → KeepsMarks m.world n.world → Agree n.array m.array
      → n.calls ≡ Tried page ∷ m.calls → Agree n.pool (after_tried lay page m.pool) → SwitchStep lay next was m n
  PageRefused : (page : ℕ) → Same m.world n.world → Agree n.array m.array → n.calls ≡ Tried page ∷ m.calls
      → Agree n.pool (after_tried lay page m.pool) → SwitchStep lay next was m n
  Idle : Same m.world n.world → Agree n.array m.array → n.calls ≡ m.calls → Agree n.pool m.pool → SwitchStep lay next was m n

abbrev pub SwitchRun : Layout → List ℕ → Moment → Moment → List Moment → Type 0
SwitchRun lay next was m [] = Unit {0}
SwitchRun lay next was m (n ∷ ns) = SwitchStep lay next was m n × SwitchRun lay next was n ns

-- an image within: its first page is one of the two, its counts fit, and its contents fit in that version, sound in the other one
pub record SwitchImage (lay : Layout) (sound : Bool) (next : List ℕ) (was : World) (array : ℕ → List (List ℕ)) (finger : List ℕ → List ℕ) (image : ℕ → List ℕ) : Type 0 where
  pub version : (image 0 ≡ was.newest 0) ⊎ (image 0 ≡ next)
  pub counts : CountsFit lay image
  pub old : image 0 ≡ was.newest 0 → ContentsFit lay sound image array
  pub new : image 0 ≡ next → ContentsFit (with_finger lay finger) true image array
