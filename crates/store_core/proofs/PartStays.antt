-- A release that has to wait was looked at, and stays; and what a whole pass leaves.
use Rattle.std.proofs.Common.{arith, ◌≡◌, inl, inr, ◌+◌, ◌-◌, ◌<◌, ◌≤◌, ℕ, zero, suc, Bool, true, false, refl, sym, ap, ◌∙◌, subst, List, [], ◌∷◌, ◌++◌, length, take, drop, map, None, Some, true≢false}
use Rattle.std.proofs.lemmas.Bool.{cases_eq, cases_lt, false_from_ne_true}
use Rattle.std.proofs.lemmas.List.{length-append}
use Rattle.std.proofs.lemmas.List.Elements.{All-cons, All-head, All-nil, All-tail}
use Rattle.std.proofs.lemmas.Option.{slice_get-get_or, slice_get_within}
use Rattle.std.specs.Prelude.{get_or, slice_get}
use Rattle.std.specs.List.{All}
use Rattle.page_layout.specs.Shape.{ShapeView}
use Rattle.order_model.specs.World as plain
use Rattle.order_model.specs.World.{World}
use Rattle.dep_graph.specs.Pages.{IsLeast}
use Rattle.finger_table.specs.Index.{PrintsView}
use Rattle.release_queue.specs.Queued.{is_marked, unmarked}
use Rattle.release_queue.specs.declared.Release.{Release}
use Rattle.release_queue.proofs.LookLemmas.{marked_still, marked_within, unmarked_length}
use Rattle.engine_model.specs.SmallPass.{SmallPass}
use Rattle.store_core.specs.declared.Core.{Core}
use Rattle.store_core.specs.declared.ledger.Ledger.{Ledger}
use Rattle.store_core.specs.Frames.{KeepsStands}
use Rattle.store_core.specs.Layout.{lay_of}
use Rattle.store_core.specs.Orderly.{HasToWait, IsLooked}
use Rattle.store_core.specs.Passing.{AllWait, Forgets, LeftOf, PassFrame, PassFrees}
use Rattle.store_core.specs.PassParts.{IsPassing, LooksAt, PassPart, TakesOut, freed_pages}
use Rattle.store_core.specs.Views.{plain_release, world_of}
use Rattle.store_core.specs.Whole.{IsPlaced}
use Rattle.store_core.proofs.Edited.{state_stands}
use Rattle.store_core.proofs.OrderlyReleases.{look_orderly}
use Rattle.store_core.proofs.Owing.{all_at}
use Rattle.store_core.proofs.PartLemmas.{part_then}
use Rattle.store_core.proofs.PartOut.{frame_provided}
use Rattle.store_core.proofs.PartSteps.{SameButLooks, frame_looked, frame_out, part_looked, part_none, part_out, part_over, releases_looked, world_looked}
use Rattle.store_core.proofs.QueueParts.{all_from, left_whole, marked_is, unmarked_here}

-- it is of the image still
pub placed_looked : (shape : ShapeView) (i : ℕ) (rs : List Release) → All (IsPlaced shape) rs → All (IsPlaced shape) (unmarked i rs)
unfolding unmarked
placed_looked shape i [] all = All-nil (IsPlaced shape)
placed_looked shape zero (r ∷ rs) all =
    let p = All-head (IsPlaced shape) r rs all in
    All-cons (IsPlaced shape) (record r { look = false }) rs (record { block = p.block; first = p.first; last = p.last; map_at = p.map_at; count_at = p.count_at; print_at = p.print_at }) (All-tail (IsPlaced shape) r rs all)
placed_looked shape (suc i) (r ∷ rs) all = All-cons (IsPlaced shape) r (unmarked i rs) (All-head (IsPlaced shape) r rs all) (placed_looked shape i rs (All-tail (IsPlaced shape) r rs all))

some_release : Release
some_release = record { block = 0; page = 0; map_at = 0; count_at = 0; print_at = 0; stage = 0; look = false }

module _ (a b : Core) (i : ℕ) (same : SameButLooks i a b) where
  pub stands_looked : KeepsStands a b
  stands_looked sound d array s = state_stands sound d a b array s same.0 (ap (λ (l : Ledger). l.births) same.2) (ap (λ (l : Ledger). l.pool) same.2) (world_of d a) (world_looked a b i same d) s.kept

  pub length_looked : length b.ledger.queue.releases ≡ length a.ledger.queue.releases
  length_looked = ap (λ (l : List Release). length l) (releases_looked a b i same) ∙ unmarked_length a.ledger.queue.releases i

  module _ (lt : i < length a.ledger.queue.releases) (waits : (r : Release) → slice_get a.ledger.queue.releases i ≡ Some r → HasToWait a r) (p : IsPassing i a) where
    pub stays_part : (x : PrintsView) → PassPart i (suc i) 0 [] a b x x
    stays_part x =
        let r = get_or a.ledger.queue.releases i some_release in
        let at : slice_get a.ledger.queue.releases i ≡ Some r = slice_get-get_or a.ledger.queue.releases i some_release lt in
        part_looked a b i same r at p.provided (waits r at) x stands_looked

    pub stays_passing : IsPassing (suc i) b
    stays_passing = record {
      provided = frame_provided 0 a b (frame_looked a b i same) p.provided;
      orderly = look_orderly a b same.0 same.1 (ap (λ (l : Ledger). l.births) same.2) i (releases_looked a b i same) waits p.orderly;
      behind = λ k under. ap (λ (l : List Release). is_marked l k) (releases_looked a b i same) ∙ elim (cases_eq k i) [
        | inl e ↦ ap (is_marked (unmarked i a.ledger.queue.releases)) e ∙ unmarked_here a.ledger.queue.releases i
        | inr ne ↦ false_from_ne_true _ (λ on. true≢false (sym (marked_still a.ledger.queue.releases i k on).0 ∙ p.behind k (omega (arith, under, ne))))
      ];
    }

-- the next release that is marked
pub passing_next : (core : Core) (from i : ℕ) → IsLeast (λ k. is_marked core.ledger.queue.releases k ≡ true) from (Some i) → IsPassing from core → IsPassing i core
passing_next core from i least p = record {
  provided = p.provided;
  orderly = p.orderly;
  behind = λ k lt. false_from_ne_true _ (λ on. elim (cases_lt k from) [
    | inl before ↦ true≢false (sym on ∙ p.behind k before)
    | inr past ↦ let le = least.2 k on past in omega (arith, le, lt)
  ]);
}

pub next_within : (core : Core) (from i : ℕ) → IsLeast (λ k. is_marked core.ledger.queue.releases k ≡ true) from (Some i) → i < length core.ledger.queue.releases
next_within core from i least = marked_within core.ledger.queue.releases i least.0

pub next_from : (core : Core) (from i : ℕ) → IsLeast (λ k. is_marked core.ledger.queue.releases k ≡ true) from (Some i) → from ≤ i
next_from core from i least = least.1

-- what comes before it is passed over
pub passed_over : (core : Core) (x : PrintsView) (from i : ℕ) → IsLeast (λ k. is_marked core.ledger.queue.releases k ≡ true) from (Some i) → IsPassing from core → PassPart from i 0 [] core core x x
passed_over core x from i least p =
    let le = least.1 in
    let lt = next_within core from i least in
    let e : from + (i - from) ≡ i = omega (arith, le) in
    subst (λ (to : ℕ). PassPart from to 0 [] core core x x) e
    (part_over core x p.provided p.orderly (i - from) from (omega (arith, le, lt)) (λ k ge under. (passing_next core from i least p).behind k (omega (arith, under, e))))

-- one look more
pub record HasPassed (from freed : ℕ) (old new : Core) (before after : PrintsView) : Type 0 where
  pub lowered : ℕ
  pub pages : List ℕ
  pub part : PassPart 0 from lowered pages old new before after
  pub freed_is : freed ≡ length pages
  pub few : length pages ≤ lowered

pub passed_none : (core : Core) (x : PrintsView) → HasPassed 0 0 core core x x
passed_none core x = record { lowered = 0; pages = []; part = part_none core x 0; freed_is = refl; few = omega arith }

pub passed_then : (a b c : Core) (x y z : PrintsView) (from i to was now : ℕ) → IsLeast (λ k. is_marked b.ledger.queue.releases k ≡ true) from (Some i) → IsPassing from b
    → HasPassed from was a b x y → LooksAt i to was now b c y z → HasPassed to now a c x z
passed_then a b c x y z from i to was now least p before look = record {
  lowered = before.lowered + 0 + look.lowered;
  pages = (before.pages ++ []) ++ look.pages;
  part = part_then 0 i to (before.lowered + 0) look.lowered (before.pages ++ []) look.pages a b c x y z
      (part_then 0 from i before.lowered 0 before.pages [] a b b x y y before.part (passed_over b y from i least p)) look.part;
  freed_is = let first = before.freed_is in let then = look.freed in let one = length-append before.pages [] in let two = length-append (before.pages ++ []) look.pages in omega (arith, first, then, one, two);
  few = let first = before.few in let then = look.few in let one = length-append before.pages [] in let two = length-append (before.pages ++ []) look.pages in omega (arith, first, then, one, two);
}

drop_end : (rs : List Release) → drop (length rs) rs ≡ []
drop_end [] = refl
drop_end (r ∷ rs) = drop_end rs

-- where none is marked any more the pass is done
module _ (a b : Core) (x y : PrintsView) (from freed : ℕ) (none : IsLeast (λ k. is_marked b.ledger.queue.releases k ≡ true) from None) (p : IsPassing from b) (q : HasPassed from freed a b x y) where
  off : (k : ℕ) → is_marked b.ledger.queue.releases k ≡ false
  off k = false_from_ne_true _ (λ on. true≢false (sym on ∙ p.behind k (none k on)))

  pub done_waits : AllWait b
  done_waits = record {
    wait = all_from (HasToWait b) b.ledger.queue.releases (λ k r at. all_at (IsLooked b) b.ledger.queue.releases k r at p.orderly.looked (sym (marked_is b.ledger.queue.releases k r at) ∙ off k));
    unmarked = off;
  }

  pub done_order : LeftOf a.ledger.queue.releases b.ledger.queue.releases
  done_order = left_whole a.ledger.queue.releases b.ledger.queue.releases from q.part.order (λ k past. off k)

  -- what is left is passed over up to the end of the queue
  over_rest : from ≤ length b.ledger.queue.releases → PassPart from (length b.ledger.queue.releases) 0 [] b b y y
  over_rest le =
      let more = length b.ledger.queue.releases - from in
      let e : from + more ≡ length b.ledger.queue.releases = omega (arith, le) in
      subst (λ (to : ℕ). PassPart from to 0 [] b b y y) e (part_over b y p.provided p.orderly more from (omega (arith, e)) (λ k ge under. off k))

  whole : from ≤ length b.ledger.queue.releases → PassPart 0 (length b.ledger.queue.releases) (q.lowered + 0) (q.pages ++ []) a b x y
  whole le = part_then 0 from (length b.ledger.queue.releases) q.lowered 0 q.pages [] a b b x y y q.part (over_rest le)

  pub done_frees : from ≤ length b.ledger.queue.releases → PassFrees freed a b x y
  done_frees le = record {
    pages = q.pages ++ [];
    count = let first = q.freed_is in let one = length-append q.pages [] in omega (arith, first, one);
    forgets = (whole le).forgets;
    laws = λ d m is. let last = (whole le).laws d m is in record {
      n = last.n;
      is = last.is;
      array = last.array;
      pass = subst (λ (rs : List plain.Release). SmallPass (lay_of a.shape) m [] rs last.n) (ap (λ (w : World). w.queue) is.world)
          (last.pass last.n (subst (λ (rs : List Release). SmallPass (lay_of a.shape) last.n (map plain_release (take (length b.ledger.queue.releases) b.ledger.queue.releases)) (map plain_release rs) last.n) (sym (drop_end b.ledger.queue.releases)) refl));
      frees = last.frees;
    };
  }

  pub done_frame : (lowered : ℕ) → length a.ledger.queue.releases ≡ length b.ledger.queue.releases + lowered → PassFrame lowered a b
  done_frame lowered e = subst (λ (n : ℕ). PassFrame n a b) (let left = q.part.frame.left in let is : q.lowered ≡ lowered = omega (arith, e, left) in is) q.part.frame

-- a look at one release: it stays, or it left
pub looked_stays : (a e b : Core) (x : PrintsView) (i freed : ℕ) → e ≡ a → i < length a.ledger.queue.releases → PassPart i (suc i) 0 [] e b x x → length b.ledger.queue.releases ≡ length e.ledger.queue.releases → LooksAt i (i + 1) freed freed a b x x
looked_stays a e b x i freed same lt part len =
    let count = len ∙ ap (λ (y : Core). length y.ledger.queue.releases) same in
    record {
      lowered = 0;
      pages = [];
      part = subst (λ (to : ℕ). PassPart i to 0 [] a b x x) (let n : suc i ≡ i + 1 = omega arith in n) (subst (λ (y : Core). PassPart i (suc i) 0 [] y b x x) same part);
      freed = omega arith;
      few = omega arith;
      forth = omega arith;
      within = omega (arith, lt, count);
      falls = omega (arith, count);
    }

pub looked_leaves : (a e b : Core) (x y : PrintsView) (i : ℕ) (r : Release) (freed : Bool) (was n : ℕ) → e ≡ a → slice_get a.ledger.queue.releases i ≡ Some r → TakesOut i r freed e b → Forgets (freed_pages freed r.page) x y → n ≡ length (freed_pages freed r.page)
    → LooksAt i i was (was + n) a b x y
looked_leaves a e b x y i r freed was n same at out forgets count =
    let here : TakesOut i r freed a b = subst (λ (z : Core). TakesOut i r freed z b) same out in
    let left = (frame_out a b i r freed at here).left in
    let lt = slice_get_within a.ledger.queue.releases i r at in
    record {
      lowered = 1;
      pages = freed_pages freed r.page;
      part = part_out a b i r freed at here x y forgets;
      freed = omega (arith, count);
      few = few_freed freed r.page;
      forth = omega arith;
      within = omega (arith, left, lt);
      falls = omega (arith, left);
    }
  where
    few_freed : (t : Bool) (p : ℕ) → length (freed_pages t p) ≤ 1
    few_freed true p = omega arith
    few_freed false p = omega arith
