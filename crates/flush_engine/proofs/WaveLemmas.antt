-- A wave, page by page, and waves, one after another.
use Rattle.std.proofs.Common.{◌≡◌, ◌⊎◌, inl, inr, ◌<◌, ◌≤◌, ◌+◌, ℕ, Bool, true, false, not, ◌&&◌, List, [], ◌∷◌, ◌++◌, length, take, get_or, min, eq-eqb, refl, sym, ◌∙◌, ap, subst, arith, Option, Result, Ok, Err}
use Rattle.std.proofs.lemmas.Bool.{and_parts, or_left, true≢false}
use Rattle.page_device.specs.declared.error.Failed.{Failed}
use Rattle.dep_graph.specs.Lists.{GraphLists, IsGraph, barred_in, dirty_in, is_ready, live_in}
use Rattle.dep_graph.specs.Pages.{holds, IsRising}
use Rattle.dep_graph.specs.Schedules.{MakeBarrier, Schedule, WritePage}
use Rattle.dep_graph.proofs.PageLemmas.{fewer, fewer_by_one, found}
use Rattle.flush_engine.specs.Telling.{Telling}
use Rattle.flush_engine.specs.View.{Moment}
use Rattle.flush_engine.specs.Steps.{Chain, StepEnds, Steps, WriteDone}
use Rattle.flush_engine.specs.Waves.{AreDue, GoesOn, WaveDone, WaveEnds, WaveFailed, WavesDone, WavesEnd, WritesFailed, steps_of, wave_steps, writes}
use Rattle.flush_engine.proofs.Chains.{chain_fixed, chain_none, chain_one, chain_split, chain_then, chain_wrote}
use Rattle.flush_engine.proofs.DueLemmas.{due_ready, some_due, still_ready}
use Rattle.flush_engine.proofs.GraphAfter.{ready_dirty}
use Rattle.flush_engine.proofs.Snoc.{map_snoc}
use Rattle.flush_engine.proofs.Listed.{below_taken, not_taken, rises_take, take_snoc, taken_below, taken_held}

module _ {W : Type 0} (T : Telling W) where
  -- of pages that were ready, the one whose turn has come is ready still
  pub next_ready : (pages : List ℕ) (k : ℕ) (old now : Moment W) → IsRising pages → k < length pages → ((a : ℕ) → holds pages a ≡ true → is_ready old.engine.graph a ≡ true)
      → Chain T (writes (take k pages)) old now → is_ready now.engine.graph (get_or pages k 0) ≡ true
  next_ready pages k old now up lt ready chain =
      still_ready (take k pages) old.engine.graph now.engine.graph (chain_wrote T (take k pages) old now chain) (get_or pages k 0) (ready (get_or pages k 0) (found pages k (get_or pages k 0) lt refl)) (not_taken pages k up lt)

  pub written_next : (pages : List ℕ) (k : ℕ) (old now new : Moment W) → k < length pages → Chain T (writes (take k pages)) old now → WriteDone T (get_or pages k 0) now new → Chain T (writes (take (k + 1) pages)) old new
  written_next pages k old now new lt chain step =
      subst (λ (x : Schedule). Chain T x old new) (sym (ap writes (take_snoc pages k lt) ∙ map_snoc WritePage (take k pages) (get_or pages k 0)))
      (chain_then T (writes (take k pages)) (WritePage (get_or pages k 0) ∷ []) old now new chain (chain_one T (WritePage (get_or pages k 0)) now new step))

module _ {W : Type 0} (T : Telling W) (target : Option ℕ) (old : Moment W) (on : GoesOn old.engine.graph target) (pages : List ℕ) (due : AreDue old.engine.graph target pages) where
  -- the write of one of the pages failed
  pub write_failed : (new : Moment W) → WritesFailed T pages old new → WaveFailed T target old new
  write_failed new f = record {
    goes_on = on;
    from = get_or pages f.done 0;
    pages = take f.done pages;
    written = record {
      rising = rises_take pages f.done due.rising;
      due = λ a h. due.due a (taken_held pages f.done a h);
      below = λ a h. taken_below pages f.done a due.rising f.within h;
      all = λ a d lt. below_taken pages f.done a due.rising f.within (due.all a d) lt;
    };
    last = f.last;
    chain = f.chain;
    step = WritePage (get_or pages f.done 0);
    next = (due.due (get_or pages f.done 0) (found pages f.done (get_or pages f.done 0) f.within refl), omega arith, λ a d le. le);
    failed = f.failed;
  }

  -- all were written, and the wave ends with its barrier; each page is below a number
  pub wave_ends : (above : ℕ) → ((a : ℕ) → is_ready old.engine.graph a ≡ true → a < above) → (now new : Moment W) (result : Result Unit Failed) → Chain T (writes pages) old now → StepEnds T MakeBarrier result now new → WaveEnds T target result old new
  wave_ends above within now new (Ok _) chain step = (
    pages,
    record { goes_on = on; due = due; chain = chain_then T (writes pages) (MakeBarrier ∷ []) old now new chain (chain_one T MakeBarrier now new step) },
  )
  wave_ends above within now new (Err _) chain step = record {
    goes_on = on;
    from = above;
    pages = pages;
    written = record { rising = due.rising; due = due.due; below = λ a h. within a (due_ready old.engine.graph target a (due.due a h)); all = λ a d lt. due.all a d };
    last = now;
    chain = chain;
    step = MakeBarrier;
    next = λ a d. within a (due_ready old.engine.graph target a d);
    failed = step;
  }

-- what a wave makes of the graph
pub record Waved (pages : List ℕ) (g h : GraphLists) : Type 0 where
  pub dirty : (a : ℕ) → dirty_in h a ≡ (dirty_in g a && not (holds pages a))
  pub hung : h.hung ≡ []
  pub live : (a b : ℕ) → live_in h a b ≡ (live_in g a b && not (holds pages a))
  pub barred : (a b : ℕ) → barred_in h a b ≡ false
  pub graph : IsGraph h

-- it falls in each wave: a wave writes a dirty page, or there was a hung one
unfoldable pub size : GraphLists → ℕ
size g = length g.dirty + (length g.dirty + min 1 (length g.hung))

falls : (n m k h : ℕ) → n < m → h ≡ 0 → n + (n + min 1 h) < m + (m + min 1 k)
falls n m k h lt e = omega (arith, lt, e)

falls_hung : (n m k h : ℕ) → n ≤ m → h ≡ 0 → 0 < k → n + (n + min 1 h) < m + (m + min 1 k)
falls_hung n m k h le e pos = omega (arith, le, e, pos)

module _ {W : Type 0} (T : Telling W) (target : Option ℕ) where
  pub waved : (pages : List ℕ) (a b : Moment W) → WaveDone T target pages a b → Waved pages a.engine.graph b.engine.graph
  waved pages a b w =
      let parts = chain_split T (writes pages) (MakeBarrier ∷ []) a b w.chain in
      let all = chain_wrote T pages a parts.0 parts.1.0 in
      let bar = chain_fixed T parts.0 b parts.1.1 in
      record {
        dirty = λ q. ap (λ (l : List ℕ). holds l q) bar.dirty ∙ all.dirty q;
        hung = bar.hung;
        live = λ p q. bar.live p q ∙ all.live p q;
        barred = bar.barred;
        graph = bar.graph;
      }

  first_of : (pages : List ℕ) → (pages ≡ []) ⊎ ((p : ℕ) × (holds pages p ≡ true))
  first_of [] = inl refl
  first_of (p ∷ pages) = inr (p, or_left _ _ (eq-eqb p p refl))

  pub wave_falls : (pages : List ℕ) (a b : Moment W) → WaveDone T target pages a b → IsGraph a.engine.graph → size b.engine.graph < size a.engine.graph
  unfolding size
  wave_falls pages a b w graph = elim (first_of pages) [
    | inr one ↦ falls _ _ _ _ (fewer_by_one h.dirty g.dirty one.0 is.graph.dirty_once graph.dirty_once kept (ready_dirty g one.0 (due_ready g target one.0 (w.due.due one.0 one.1))) (gone one.0 one.1)) (ap length is.hung)
    | inl nothing ↦ falls_hung _ _ _ _ (fewer h.dirty g.dirty is.graph.dirty_once graph.dirty_once kept) (ap length is.hung) (some_hung nothing g.hung refl)
  ]
    where
      g : GraphLists
      g = a.engine.graph

      h : GraphLists
      h = b.engine.graph

      is : Waved pages g h
      is = waved pages a b w

      kept : (q : ℕ) → holds h.dirty q ≡ true → holds g.dirty q ≡ true
      kept q e = (and_parts (dirty_in g q) (not (holds pages q)) (sym (is.dirty q) ∙ e)).0

      gone : (q : ℕ) → holds pages q ≡ true → holds h.dirty q ≡ false
      gone q on = is.dirty q ∙ rw on (never (dirty_in g q))
        where
          never : (x : Bool) → (x && not true) ≡ false
          never x = grind arith

      some_hung : pages ≡ [] → (l : List ℕ) → g.hung ≡ l → 0 < length g.hung
      some_hung nothing [] none = absurd (some_due g target graph none w.goes_on (λ q d. true≢false (sym (w.due.all q d) ∙ ap (λ (l : List ℕ). holds l q) nothing)))
      some_hung nothing (x ∷ xs) some = let n : length g.hung ≡ length (x ∷ xs) = ap length some in omega (arith, n)

  pub waves_none : (a : Moment W) → WavesDone T target [] a a
  unfolding WavesDone
  waves_none a = refl

  pub waves_then : (waves : List (List ℕ)) (pages : List ℕ) (a b c : Moment W) → WavesDone T target waves a b → WaveDone T target pages b c → WavesDone T target (waves ++ pages ∷ []) a c
  unfolding WavesDone
  waves_then [] pages a b c h w = (c, subst (λ (m : Moment W). WaveDone T target pages m c) (sym h) w, refl)
  waves_then (p ∷ waves) pages a b c h w = (h.0, h.1, waves_then waves pages h.0 b c h.2 w)

  -- waves are steps
  chain_waves : (waves : List (List ℕ)) (a b : Moment W) → WavesDone T target waves a b → Chain T (steps_of waves) a b
  unfolding WavesDone steps_of
  chain_waves [] a b h = subst (λ (m : Moment W). Chain T [] a m) h (chain_none T a)
  chain_waves (pages ∷ waves) a b h = chain_then T (wave_steps pages) (steps_of waves) a h.0 b h.1.chain (chain_waves waves h.0 b h.2)

  pub waves_steps : (result : Result Unit Failed) (a b : Moment W) → WavesEnd T target result a b → Steps T result a b
  waves_steps (Ok _) a b f = record { done = steps_of f.waves; last = b; chain = chain_waves f.waves a b f.done; ends = refl }
  waves_steps (Err _) a b f = record {
    done = steps_of f.waves ++ writes f.failed.pages;
    last = f.failed.last;
    chain = chain_then T (steps_of f.waves) (writes f.failed.pages) a f.last f.failed.last (chain_waves f.waves a f.last f.done) f.failed.chain;
    ends = record { step = f.failed.step; failed = f.failed.failed };
  }
