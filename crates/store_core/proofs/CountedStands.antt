-- A count that is raised or lowered: what the core stands for.
use Rattle.std.proofs.Common.{arith, ◌≡◌, inl, inr, ◌<◌, ◌≤◌, ◌+◌, ◌-◌, ◌/◌, ℕ, Bool, true, false, cond, refl, sym, ap, ◌∙◌, subst, List, ◌∷◌, ◌++◌, map, eq-eqb, ne_eqb, suc, take, drop, Some}
use Rattle.std.specs.Prelude.{slice_get}
use Rattle.std.proofs.lemmas.Bool.{cases_eq}
use Rattle.std.proofs.lemmas.List.{map-append}
use Rattle.page_device.specs.Block.{Block}
use Rattle.page_layout.specs.Formed.{is_formed}
use Rattle.page_layout.specs.Shape.{ShapeView, count_page, count_pages, map_page}
use Rattle.page_layout.proofs.FormedPages.{formed_count}
use Rattle.page_cache.specs.View.{is_there}
use Rattle.dep_graph.specs.Lists.{dirty_in}
use Rattle.release_queue.specs.declared.Release.{Release}
use Rattle.birth_marks.specs.Births.{Remembers}
use Rattle.ref_counts.specs.Counts as counts
use Rattle.ref_counts.specs.Counts.{count_in}
use Rattle.page_alloc.specs.Pool.{told_of}
use Rattle.order_model.specs.Pool.{Told, after_take, after_zeroed}
use Rattle.order_model.specs.World as plain
use Rattle.order_model.specs.World.{IsData}
use Rattle.engine_model.specs.Entries.{cached_count}
use Rattle.engine_model.specs.SmallSteps.{CanLower, CanRaise, SetsCount, put}
use Rattle.engine_model.proofs.Lowered.{lowered_keeps}
use Rattle.engine_model.proofs.Quiet.{raised_keeps}
use Rattle.store_core.specs.declared.Core.{Core}
use Rattle.store_core.specs.declared.ledger.Ledger.{Ledger}
use Rattle.store_core.specs.Layout.{lay_of, place_of, top}
use Rattle.store_core.specs.Views.{page_in, plain_release, world_of}
use Rattle.store_core.specs.Edits.{LowersCount, RaisesCount}
use Rattle.store_core.specs.Counted.{LowerStands, RaiseStands}
use Rattle.store_core.specs.Stands.{moment_of}
use Rattle.store_core.proofs.Edited.{cached_there, edit_stands}
use Rattle.store_core.proofs.Clean.{apart_pages}
use Rattle.store_core.proofs.Queued.{placed_at, split_at}

index_few : (shape : ShapeView) (p : ℕ) → 1 ≤ p → p ≤ shape.pages → (p - 1) / 1024 < count_pages shape
index_few shape p first last = omega (arith, first, last)

-- one count of a page that was well formed
pub sets_count : (shape : ShapeView) (old new : Block) (p n : ℕ) → 1 ≤ p → p ≤ shape.pages → n ≤ 2147483647 → is_formed shape (count_page shape p) old ≡ true → counts.SetsCount shape old p n new
    → SetsCount (lay_of shape) old new p n
sets_count shape old new p n first last few was s = record {
  here = s.here;
  other = λ q is ne same. s.others q is.0 ne same;
  formed = (formed_count shape ((p - 1) / 1024) new (index_few shape p first last)).1 (s.formed few ((formed_count shape ((p - 1) / 1024) old (index_few shape p first last)).0 was));
}

-- a page that is counted already is taken already
take_again : (t : ℕ → Told) (p q : ℕ) → (t p).zero ≡ false → after_take p t q ≡ t q
take_again t p q off = elim (cases_eq p q) [
  | inl is ↦ let z : (t q).zero ≡ false = ap (λ x. (t x).zero) (sym is) ∙ off in ap (λ (b : Bool). record { zero = b; tried = (t q).tried; newest = (t q).newest }) (rw (eq-eqb p q is) (sym z))
  | inr ne ↦ ap (λ (b : Bool). record { zero = b; tried = (t q).tried; newest = (t q).newest }) (rw (ne_eqb p q ne) refl)
]

not_zero : (b : Bool) (n : ℕ) → (b ≡ true → n ≡ 0) → 0 < n → b ≡ false
not_zero true n h lt = absurd (omega (arith, h refl, lt))
not_zero false n h lt = refl

pub raise_stands : (old new : Core) (p : ℕ) → 1 ≤ p → p ≤ old.shape.pages → is_there old.engine.cache (count_page old.shape p) ≡ true → dirty_in old.engine.graph (count_page old.shape p) ≡ true
    → count_in (page_in old (count_page old.shape p)) p < 2147483647 → RaisesCount p old new → RaiseStands p old new
raise_stands old new p first last there dirty below r = λ sound d array s fresh.
    let lay = lay_of old.shape in
    let w = world_of d old in
    let at = count_page old.shape p in
    let n = count_in (page_in old at) p in
    let m = moment_of d old array s.calls s.told in
    let held : w.cached at ≡ page_in old at = cached_there d old at there in
    let was : cached_count lay w p ≡ n = ap (λ (c : Block). count_in c p) held in
    let formed_was : is_formed old.shape at (page_in old at) ≡ true = ap (is_formed old.shape at) (sym held) ∙ s.kept.contents.well_formed.cached at (inr (p, (first, last), inl refl)) in
    let can : CanRaise lay top w p r.page = record {
      is_data = (first, last);
      sets = subst (λ (c : Block). SetsCount lay c r.page p (count_in c p + 1)) (sym held) (sets_count old.shape (page_in old at) r.page p (n + 1) first last (omega (arith, below)) formed_was r.sets);
      below_top = omega (arith, was, below);
      dirty = dirty;
      counted_or_fresh = fresh;
    } in
    let told : (q : ℕ) → IsData lay q → told_of new.ledger.pool q ≡ after_take p s.told q = λ q is. r.told.each q is.0 is.1 ∙ ap (λ (x : Told). after_take p (λ a. x) q) (s.pool q is) in
    let births_kept = subst (λ b. Remembers (place_of old.shape) b s.calls) (sym (ap (λ (l : Ledger). l.births) r.ledger)) s.births in
    elim (cases_eq n 0) [
      | inl none ↦ edit_stands sound d old new array s r.only.shape array s.calls (after_take p s.told) (put at r.page w) (r.world d)
          (raised_keeps lay top sound (apart_pages old.shape) m s.kept p r.page can (after_take p s.told) (inl (was ∙ none, λ q. refl))) births_kept told
      | inr some ↦ let pos : 0 < cached_count lay w p = omega (arith, was, some) in
          edit_stands sound d old new array s r.only.shape array s.calls s.told (put at r.page w) (r.world d)
          (raised_keeps lay top sound (apart_pages old.shape) m s.kept p r.page can s.told (inr (pos, λ q. refl))) births_kept
          (λ q is. told q is ∙ take_again s.told p q (not_zero _ _ (s.kept.pool_knows_counts p (first, last)).zero pos))
    ]

pub lower_stands : (old new : Core) (i : ℕ) (r : Release) → slice_get old.ledger.queue.releases i ≡ Some r → LowersCount i r old new → is_there old.engine.cache r.count_at ≡ true → dirty_in old.engine.graph r.count_at ≡ true
    → 0 < count_in (page_in old r.count_at) r.page → LowerStands r old new
lower_stands old new i r queued low there dirty above = λ sound d array s may.
    let lay = lay_of old.shape in
    let w = world_of d old in
    let rs = old.ledger.queue.releases in
    let placed = placed_at old.shape rs i r queued old.whole.placed in
    let first = placed.first in
    let last = placed.last in
    let at_is : r.count_at ≡ count_page old.shape r.page = placed.count_at in
    let n = count_in (page_in old r.count_at) r.page in
    let m = moment_of d old array s.calls s.told in
    let held : w.cached (count_page old.shape r.page) ≡ page_in old r.count_at = subst (λ (x : ℕ). w.cached x ≡ page_in old r.count_at) at_is (cached_there d old r.count_at there) in
    let was : cached_count lay w r.page ≡ n = ap (λ (c : Block). count_in c r.page) held in
    let formed_was : is_formed old.shape (count_page old.shape r.page) (page_in old r.count_at) ≡ true = ap (is_formed old.shape (count_page old.shape r.page)) (sym held) ∙ s.kept.contents.well_formed.cached (count_page old.shape r.page) (inr (r.page, (first, last), inl refl)) in
    let before = map plain_release (take i rs) in
    let after = map plain_release (drop (suc i) rs) in
    let few : n - 1 ≤ 2147483647 = omega (arith, was, (s.kept.counts.count_balance r.page (first, last)).in_range) in
    let can : CanLower lay w (plain_release r) before after low.page (n - 1) = record {
      was_queued = ap (map plain_release) (split_at rs i r queued) ∙ map-append plain_release (take i rs) (r ∷ drop (suc i) rs);
      counted = omega (arith, was, above);
      sets = subst (λ (c : Block). SetsCount lay c low.page r.page (n - 1)) (sym held) (sets_count old.shape (page_in old r.count_at) low.page r.page (n - 1) first last few formed_was low.sets);
      dirty = subst (λ (x : ℕ). dirty_in old.engine.graph x ≡ true) at_is dirty;
      no_print = λ z. may.no_print (was ∙ omega (arith, z, above));
      from_map = λ z. subst (λ (x : ℕ). w.live (map_page r.block) x ≡ true) at_is (subst (λ (x : ℕ). w.live x r.count_at ≡ true) placed.map_at (may.from_map z));
      from_hung_map = λ z. subst (λ (x : ℕ). w.barred (map_page r.block) x ≡ true) at_is (subst (λ (x : ℕ). w.barred x r.count_at ≡ true) placed.map_at (may.from_hung_map z));
    } in
    let world : world_of d new ≡ record (put (count_page old.shape r.page) low.page w) { queue = before ++ after } =
    low.world d ∙ ap (λ (x : ℕ). record (put x low.page w) { queue = map plain_release (take i rs ++ drop (suc i) rs) }) at_is ∙ ap (λ (x : List plain.Release). record (put (count_page old.shape r.page) low.page w) { queue = x }) (map-append plain_release (take i rs) (drop (suc i) rs)) in
    let births_kept = subst (λ b. Remembers (place_of old.shape) b s.calls) (sym (ap (λ (l : Ledger). l.births) low.ledger)) s.births in
    let here : count_in ((put (count_page old.shape r.page) low.page w).cached (count_page old.shape r.page)) r.page ≡ n - 1 = ap (λ (b : Bool). count_in (cond b low.page (w.cached (count_page old.shape r.page))) r.page) (eq-eqb (count_page old.shape r.page) (count_page old.shape r.page) refl) ∙ low.sets.here in
    elim (cases_eq (n - 1) 0) [
      | inl none ↦ edit_stands sound d old new array s low.only.shape array s.calls (after_zeroed r.page s.told) (record (put (count_page old.shape r.page) low.page w) { queue = before ++ after }) world
          (lowered_keeps lay top sound (apart_pages old.shape) m s.kept (plain_release r) before after low.page (n - 1) can (after_zeroed r.page s.told) (inl (here ∙ none, λ q. refl))) births_kept
          (λ q is. (low.zero (low.sets.here ∙ none)).each q is.0 is.1 ∙ ap (λ (x : Told). after_zeroed r.page (λ a. x) q) (s.pool q is))
      | inr some ↦ edit_stands sound d old new array s low.only.shape array s.calls s.told (record (put (count_page old.shape r.page) low.page w) { queue = before ++ after }) world
          (lowered_keeps lay top sound (apart_pages old.shape) m s.kept (plain_release r) before after low.page (n - 1) can s.told (inr (inl (omega (arith, here, some)), λ q. refl))) births_kept
          (λ q is. ap (λ v. told_of v q) (low.more (omega (arith, low.sets.here, some))) ∙ s.pool q is)
    ]
