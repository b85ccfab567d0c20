-- What the edits of a command leave as it is, whatever they are, and that edits after others are edits.
use Rattle.std.specs.Prelude.{Bool, List, [], false, true, ℕ, ◌++◌, ◌<◌, ◌||◌, ◌∷◌, ◌≡◌, ◌≢◌, ◌⊎◌}
use Rattle.order_model.specs.World.{Agree, IsData, Layout, World}
use Rattle.engine_model.specs.Invariant.{Moment, ToldBirths}
use Rattle.engine_model.specs.SmallRuns.{ClearPrint, GiveUp, Lower, Order, OrderByBarrier, Place, Raise, Recount, SetName, SetPrint, SmallStep, Touch}

-- All that edits may change, the rest stays: the names of these blocks; the counts, prints and contents of these data pages; the marks of these pages;
-- these edges; and the queue, what the pool was told, and the lists of blocks.
pub record Reach : Type 0 where
  pub names : List ℕ
  pub counts : List ℕ
  pub prints : List ℕ
  pub contents : List ℕ
  pub marks : List ℕ
  pub live : List (ℕ × ℕ)
  pub barred : List (ℕ × ℕ)
  pub queue : Bool
  pub pool : Bool
  pub array : Bool

abbrev pub no_reach : Reach
no_reach = record {
  names = [];
  counts = [];
  prints = [];
  contents = [];
  marks = [];
  live = [];
  barred = [];
  queue = false;
  pool = false;
  array = false;
}

abbrev pub both : Reach → Reach → Reach
both x y = record {
  names = x.names ++ y.names;
  counts = x.counts ++ y.counts;
  prints = x.prints ++ y.prints;
  contents = x.contents ++ y.contents;
  marks = x.marks ++ y.marks;
  live = x.live ++ y.live;
  barred = x.barred ++ y.barred;
  queue = x.queue || y.queue;
  pool = x.pool || y.pool;
  array = x.array || y.array;
}

-- none of these
abbrev pub Off : ℕ → List ℕ → Type 0
Off a [] = Unit {0}
Off a (x ∷ xs) = (a ≢ x) × Off a xs

-- one of these edges leads from a to b
abbrev pub IsEdgeOf : ℕ → ℕ → List (ℕ × ℕ) → Type 0
IsEdgeOf a b [] = ⊥
IsEdgeOf a b (e ∷ es) = ((a ≡ e.0) × (b ≡ e.1)) ⊎ IsEdgeOf a b es

-- The device stays, marks and edges only grow, and only where x reaches; a new edge has its ends marked; and what is not dirty after is cached as it was.
pub record MarksGrow (x : Reach) (w v : World) : Type 0 where
  pub newest : (page : ℕ) → v.newest page ≡ w.newest page
  pub older : (page : ℕ) → v.older page ≡ w.older page
  pub hung : (a : ℕ) → v.hung a ≡ w.hung a
  pub dirty_kept : (a : ℕ) → w.dirty a ≡ true → v.dirty a ≡ true
  pub dirty_new : (a : ℕ) → Off a x.marks → v.dirty a ≡ w.dirty a
  pub live_kept : (a b : ℕ) → w.live a b ≡ true → v.live a b ≡ true
  pub live_new : (a b : ℕ) → v.live a b ≡ true → (w.live a b ≡ true) ⊎ (IsEdgeOf a b x.live × (v.dirty a ≡ true) × (v.dirty b ≡ true))
  pub barred_kept : (a b : ℕ) → w.barred a b ≡ true → v.barred a b ≡ true
  pub barred_new : (a b : ℕ) → v.barred a b ≡ true → (w.barred a b ≡ true) ⊎ (IsEdgeOf a b x.barred × (v.hung a ≡ true) × (v.dirty b ≡ true))
  pub clean : (page : ℕ) → v.dirty page ≡ false → v.cached page ≡ w.cached page

-- each entry and each data page that x does not reach is as it was, over what is cached before and after
pub record EntriesKept (lay : Layout) (x : Reach) (old new : ℕ → List ℕ) : Type 0 where
  pub names : (l : ℕ) → l < lay.blocks → Off l x.names → lay.name_in (new (lay.map_page l)) l ≡ lay.name_in (old (lay.map_page l)) l
  pub counts : (q : ℕ) → IsData lay q → Off q x.counts → lay.count_in (new (lay.count_page q)) q ≡ lay.count_in (old (lay.count_page q)) q
  pub prints : (q : ℕ) → IsData lay q → Off q x.prints → lay.print_in (new (lay.print_page q)) q ≡ lay.print_in (old (lay.print_page q)) q
  pub contents : (q : ℕ) → IsData lay q → Off q x.contents → new (lay.data_page q) ≡ old (lay.data_page q)

-- n comes from m by edits that reach no further than x, and birth_marks was told of them
pub record Frame (lay : Layout) (x : Reach) (m n : Moment) : Type 0 where
  pub marks : MarksGrow x m.world n.world
  pub entries : EntriesKept lay x m.world.cached n.world.cached
  pub births : ToldBirths lay m n
  pub queue : x.queue ≡ false → n.world.queue ≡ m.world.queue
  pub pool : x.pool ≡ false → Agree n.pool m.pool
  pub array : x.array ≡ false → Agree n.array m.array
  -- the pool is told nothing of the device
  pub tried : (q : ℕ) → (n.pool q).tried ≡ (m.pool q).tried
  pub newest : (q : ℕ) → (n.pool q).newest ≡ (m.pool q).newest

-- how far each kind of edit reaches: a page becomes dirty, a data page gets its content, an edge is added, Live or by a barrier or as the marks ask,
abbrev pub mark_reach : ℕ → Reach
mark_reach page = record no_reach { marks = page ∷ [] }

abbrev pub content_reach : Layout → ℕ → Reach
content_reach lay p = record no_reach { contents = p ∷ []; marks = lay.data_page p ∷ [] }

abbrev pub live_reach : ℕ → ℕ → Reach
live_reach before after = record no_reach { live = (before, after) ∷ [] }

abbrev pub barred_reach : ℕ → ℕ → Reach
barred_reach before after = record no_reach { barred = (before, after) ∷ [] }

abbrev pub edge_reach : ℕ → ℕ → Reach
edge_reach before after = record no_reach { live = (before, after) ∷ []; barred = (before, after) ∷ [] }

-- a count changes, and maybe releases leave the queue; a print changes; and a name changes, and a release is pushed
abbrev pub count_reach : ℕ → Bool → Reach
count_reach p moves = record no_reach { counts = p ∷ []; queue = moves; pool = true }

abbrev pub print_reach : ℕ → Reach
print_reach p = record no_reach { prints = p ∷ [] }

abbrev pub name_reach : ℕ → Reach
name_reach l = record no_reach { names = l ∷ []; queue = true; array = true }

abbrev pub reach_of : {lay : Layout} {top : ℕ} {m n : Moment} → SmallStep lay top m n → Reach
reach_of (Touch page t e) = mark_reach page
reach_of {lay} (Place p c d f e) = content_reach lay p
reach_of (Order before after i y z o e) = live_reach before after
reach_of (OrderByBarrier before after i y z e) = barred_reach before after
reach_of (Raise p c pool can e t) = count_reach p false
reach_of (SetPrint p c print can e) = print_reach p
reach_of (SetName l o p c a can g e) = name_reach l
reach_of (ClearPrint p c print can e) = print_reach p
reach_of (Lower r before after c count pool can e t) = count_reach r.page true
reach_of (Recount p c count pool can e t) = count_reach p false
reach_of (GiveUp p d z e) = no_reach

-- every small step but the giving up of a data page, which takes a mark and edges; a release that is taken out is of a data page
abbrev pub Grows : {lay : Layout} {top : ℕ} {m n : Moment} → SmallStep lay top m n → Type 0
Grows (GiveUp p d z e) = ⊥
Grows {lay} (Lower r before after c count pool can e t) = IsData lay r.page
Grows step = Unit {0}
