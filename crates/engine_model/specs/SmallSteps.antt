-- The small steps into which a command falls, as functions of the plain state, and what each of them asks. No device call lies between those of one command.
use Rattle.std.specs.Prelude.{◌≡◌, ◌≢◌, ◌⊎◌, ◌+◌, ◌<◌, ◌≤◌, not, ◌&&◌, ◌||◌, ◌++◌, ℕ, List, [], ◌∷◌, true, cond, eqb, Option, Some, None}
use Rattle.order_model.specs.World.{Agree, Layout, Possible, Release, World, queued, IsData}
use Rattle.engine_model.specs.Entries.{cached_count, cached_name, cached_names, cached_print}
use Rattle.engine_model.specs.Contents.{Last}
use Rattle.engine_model.specs.Known.{Known}
use Rattle.engine_model.specs.Edits.{Ordered}
use Rattle.engine_model.specs.Commands.{Gains}

-- the page is dirty
abbrev pub touched : ℕ → World → World
touched page w = record w { dirty = λ a. w.dirty a || eqb a page }

-- the page is cached with this content
abbrev pub put : ℕ → List ℕ → World → World
put page c w = record w { cached = λ a. cond (eqb a page) c (w.cached a) }

-- a fresh data page gets its content
abbrev pub placed : ℕ → List ℕ → World → World
placed page c w = put page c (touched page w)

-- a Live edge more, and a Barrier edge more
abbrev pub ordered : ℕ → ℕ → World → World
ordered before after w = record w { live = λ a b. w.live a b || (eqb a before && eqb b after) }

abbrev pub ordered_by_barrier : ℕ → ℕ → World → World
ordered_by_barrier before after w = record w { barred = λ a b. w.barred a b || (eqb a before && eqb b after) }

-- one page before the other, as their marks ask: a Live edge where it is dirty, a Barrier edge where it is hung alone, and else no edge
abbrev pub ordered_after : ℕ → ℕ → World → World
ordered_after before after w = cond (w.dirty before) (ordered before after w) (cond (w.hung before) (ordered_by_barrier before after w) w)

-- the queue with the release that l owes to o, if o is a page: at stage 0, or at stage 3 where the name is unborn
abbrev pub pushed : Known → ℕ → ℕ → List Release → List Release
pushed known l o queue = cond (eqb o 0) queue (queue ++ (record { block = l; page = o; stage = cond (known.unborn_name l o) 3 0 }) ∷ [])

-- the map page gets a content in which the name at l is another than o, and the release of o is pushed
abbrev pub named : Known → ℕ → List ℕ → ℕ → ℕ → World → World
named known page c l o w = record (put page c w) { queue = pushed known l o w.queue }

-- the count page gets a content, and these are the releases that are left
abbrev pub lowered : ℕ → List ℕ → List Release → World → World
lowered page c queue w = record (put page c w) { queue = queue }

-- a content in which one entry is changed, and which is well formed
pub record SetsName (lay : Layout) (old new : List ℕ) (l p : ℕ) : Type 0 where
  pub here : lay.name_in new l ≡ p
  pub other : (k : ℕ) → k < lay.blocks → k ≢ l → lay.map_page k ≡ lay.map_page l → lay.name_in new k ≡ lay.name_in old k
  pub formed : lay.well_formed (lay.map_page l) new ≡ true

pub record SetsCount (lay : Layout) (old new : List ℕ) (p n : ℕ) : Type 0 where
  pub here : lay.count_in new p ≡ n
  pub other : (q : ℕ) → IsData lay q → q ≢ p → lay.count_page q ≡ lay.count_page p → lay.count_in new q ≡ lay.count_in old q
  pub formed : lay.well_formed (lay.count_page p) new ≡ true

pub record SetsPrint (lay : Layout) (old new : List ℕ) (p : ℕ) (print : Option (List ℕ)) : Type 0 where
  pub here : lay.print_in new p ≡ print
  pub other : (q : ℕ) → IsData lay q → q ≢ p → lay.print_page q ≡ lay.print_page p → lay.print_in new q ≡ lay.print_in old q
  pub formed : lay.well_formed (lay.print_page p) new ≡ true

-- the count of p is raised by one: its page is dirty, and p is counted already or its data page is dirty
pub record CanRaise (lay : Layout) (top : ℕ) (w : World) (p : ℕ) (c : List ℕ) : Type 0 where
  pub is_data : IsData lay p
  pub sets : SetsCount lay (w.cached (lay.count_page p)) c p (cached_count lay w p + 1)
  pub below_top : cached_count lay w p < top
  pub dirty : w.dirty (lay.count_page p) ≡ true
  pub counted_or_fresh : (0 < cached_count lay w p) ⊎ (w.dirty (lay.data_page p) ≡ true)

-- p gets a print, which is true: its count goes out before, or is above 0 in whatever a crash may leave, and its data page is ordered before
pub record CanPrint (lay : Layout) (w : World) (p : ℕ) (c print : List ℕ) : Type 0 where
  pub is_data : IsData lay p
  pub sets : SetsPrint lay (w.cached (lay.print_page p)) c p (Some print)
  pub dirty : w.dirty (lay.print_page p) ≡ true
  pub counted : 0 < cached_count lay w p
  pub had_none : cached_print lay w p ≡ None
  pub count_first : (w.live (lay.count_page p) (lay.print_page p) ≡ true) ⊎ ((d : List ℕ) → Possible w (lay.count_page p) d → 0 < lay.count_in d p)
  pub data_first : Ordered w (lay.data_page p) (lay.print_page p)
  pub is_true : print ≡ lay.finger (w.cached (lay.data_page p))

-- p may be named by l: its count has room for one name more and goes out before, and so does its data page
pub record IsBacked (lay : Layout) (w : World) (l p : ℕ) : Type 0 where
  pub spare : cached_names lay w p + queued w.queue p < cached_count lay w p
  pub count_first : w.live (lay.count_page p) (lay.map_page l) ≡ true
  pub data_first : Ordered w (lay.data_page p) (lay.map_page l)

-- the name at l goes from o to p, or to none
pub record CanName (lay : Layout) (w : World) (l o p : ℕ) (c : List ℕ) : Type 0 where
  pub in_range : l < lay.blocks
  pub was : cached_name lay w l ≡ o
  pub none_or_data : (o ≡ 0) ⊎ IsData lay o
  pub other : p ≢ o
  pub sets : SetsName lay (w.cached (lay.map_page l)) c l p
  pub dirty : w.dirty (lay.map_page l) ≡ true
  pub backed : (p ≡ 0) ⊎ IsBacked lay w l p

-- what l holds under the name p, or under none
abbrev pub held_by : Layout → World → ℕ → List ℕ
held_by lay w p = cond (eqb p 0) lay.zero_block (w.cached (lay.data_page p))

-- the list of l gains the content, or l holds it already and no list changes
abbrev pub GainsOrHolds : (ℕ → List (List ℕ)) → (ℕ → List (List ℕ)) → ℕ → List ℕ → Type 0
GainsOrHolds before after l content = Gains before after l content ⊎ (Agree after before × Last (before l) content)

-- the print of p is cleared, once its page is ordered before the count page, or where it is unborn
pub record CanClear (lay : Layout) (known : Known) (w : World) (p : ℕ) (c print : List ℕ) : Type 0 where
  pub is_data : IsData lay p
  pub sets : SetsPrint lay (w.cached (lay.print_page p)) c p None
  pub dirty : w.dirty (lay.print_page p) ≡ true
  pub had : cached_print lay w p ≡ Some print
  pub ordered_or_unborn : (w.live (lay.print_page p) (lay.count_page p) ≡ true) ⊎ (known.unborn_print p ≡ true)

-- The count of a release's page is lowered by one, to n, and the release is taken out, once its map page is ordered before the count page. A page with no count has no print.
pub record CanLower (lay : Layout) (w : World) (r : Release) (before after : List Release) (c : List ℕ) (n : ℕ) : Type 0 where
  pub was_queued : w.queue ≡ before ++ r ∷ after
  pub counted : n + 1 ≡ cached_count lay w r.page
  pub sets : SetsCount lay (w.cached (lay.count_page r.page)) c r.page n
  pub dirty : w.dirty (lay.count_page r.page) ≡ true
  pub no_print : n ≡ 0 → cached_print lay w r.page ≡ None
  pub from_map : r.stage ≡ 0 → w.live (lay.map_page r.block) (lay.count_page r.page) ≡ true
  pub from_hung_map : r.stage ≡ 1 → w.barred (lay.map_page r.block) (lay.count_page r.page) ≡ true

-- The count of p is lowered to n, by waste alone: what is left covers its names and its queued releases. A page with no count has no print.
pub record CanRecount (lay : Layout) (w : World) (p : ℕ) (c : List ℕ) (n : ℕ) : Type 0 where
  pub is_data : IsData lay p
  pub sets : SetsCount lay (w.cached (lay.count_page p)) c p n
  pub dirty : w.dirty (lay.count_page p) ≡ true
  pub less : n ≤ cached_count lay w p
  pub enough : cached_names lay w p + queued w.queue p ≤ n
  pub no_print : n ≡ 0 → cached_print lay w p ≡ None

-- a dirty data page is given up, with the edges from it
abbrev pub given_up : ℕ → World → World
given_up page w = record w {
  cached = λ a. cond (eqb a page) (w.newest page) (w.cached a);
  dirty = λ a. w.dirty a && not (eqb a page);
  live = λ a b. w.live a b && not (eqb a page);
}
