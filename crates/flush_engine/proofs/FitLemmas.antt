-- An engine fits its device still, after each step and each call.
use Rattle.std.proofs.Common.{◌≡◌, inl, inr, ◌<◌, ◌+◌, ◌^◌, ℕ, not, ◌&&◌, List, map, eqb, refl, sym, ◌∙◌, ap, subst, arith, Result, Ok, Err}
use Rattle.std.proofs.lemmas.Bool.{and_parts, cases_lt, true≢false}
use Rattle.page_device.specs.declared.error.Failed.{Failed}
use Rattle.page_device.specs.Meaning.{HasCause, Meaning}
use Rattle.dep_graph.specs.Lists.{GraphLists, IsGraph, dirty_in, node_count}
use Rattle.dep_graph.specs.Pages.{holds, IsRising}
use Rattle.dep_graph.specs.Schedules.{MakeBarrier, Step, WritePage}
use Rattle.dep_graph.proofs.CountLemmas.{same_pages}
use Rattle.flush_engine.specs.declared.tallies.Tally.{Tally}
use Rattle.flush_engine.specs.Tallies.{left_out, page_of}
use Rattle.flush_engine.specs.Telling.{Telling}
use Rattle.flush_engine.specs.View.{EngineView, Fits, Moment, Returned}
use Rattle.flush_engine.specs.Steps.{BarrierDone, StepDone, StepEnds, StepFailed, Steps, WriteDone}
use Rattle.flush_engine.specs.Along.{steps_keep}
use Rattle.flush_engine.proofs.TallyLemmas.{holds_left, rising_left}

-- the answer so far, while calls go on
abbrev pub no_failure : Result Unit Failed
no_failure = Ok tt

-- one call after another
pub cause_after : {T E S F : Type 0} (q : Result S F) (r : Result T E) (a b c : Meaning) → HasCause q a b → HasCause r b c → HasCause r a c
cause_after q r a b c before h = record {
  never_falls = let le = before.never_falls in let more = h.never_falls in omega (arith, le, more);
  failed = λ is few. elim (cases_lt (b.faults + 1) (2 ^ 64)) [
    | inl lt ↦ let up = h.failed is lt in let le = before.never_falls in omega (arith, le, up)
    | inr past ↦ let more = h.never_falls in omega (arith, few, past, more)
  ];
}

-- a call that did not fail, whatever it says
pub went_on : {T E : Type 0} (r : T) (a b : Meaning) → HasCause {T = T} {E = E} (Ok r) a b → HasCause no_failure a b
went_on r a b h = record { never_falls = h.never_falls; failed = λ is. absurd (true≢false (sym is)) }

-- a call that failed in the same way
pub failed_so : {S T E : Type 0} (e : E) (a b : Meaning) → HasCause {T = S} {E = E} (Err e) a b → HasCause {T = T} {E = E} (Err e) a b
failed_so e a b h = record { never_falls = h.never_falls; failed = h.failed }

no_cause : (a : Meaning) → HasCause no_failure a a
no_cause a = record { never_falls = omega arith; failed = λ is. absurd (true≢false (sym is)) }

-- the pages of a graph and of the tallies, once a page was written
pub tallies_left : (page : ℕ) (g h : GraphLists) (ts : List Tally) → IsGraph g → IsGraph h → ((a : ℕ) → dirty_in h a ≡ (dirty_in g a && not (eqb a page))) → map page_of ts ≡ g.dirty → map page_of (left_out page ts) ≡ h.dirty
tallies_left page g h ts graph graph' dirty is =
    let up : IsRising (map page_of ts) = subst IsRising (sym is) graph.dirty_once in
    same_pages (map page_of (left_out page ts)) h.dirty (rising_left ts page up) graph'.dirty_once (λ a. holds_left ts page a up ∙ ap (λ (l : List ℕ). holds l a && not (eqb a page)) is ∙ sym (dirty a))

-- the same cache but for a call that was tried, and the same in all else
same_fits : (e f : EngineView) (d : Meaning) → Rattle.page_cache.specs.Calls.Tried e.cache f.cache → f.graph ≡ e.graph → f.tallies ≡ e.tallies → f.room ≡ e.room → Fits e d → Fits f d
same_fits e f d tried graph tallies room fits = record {
  whole = record {
    dirty = λ q. tried.marks.dirty q ∙ fits.whole.dirty q ∙ ap (λ (g : GraphLists). dirty_in g q) (sym graph);
    graph = subst IsGraph (sym graph) fits.whole.graph;
    tallies = ap (map page_of) tallies ∙ fits.whole.tallies ∙ ap (λ (g : GraphLists). g.dirty) (sym graph);
    room = let le = fits.whole.room in let n = ap node_count graph in omega (arith, le, n, room);
  };
  within = λ q h. fits.within q (sym (ap (λ (g : GraphLists). dirty_in g q) graph) ∙ h);
}

-- a device with as many pages
more_pages : (e : EngineView) (d d' : Meaning) → d'.pages ≡ d.pages → Fits e d → Fits e d'
more_pages e d d' pages fits = record { whole = fits.whole; within = λ q h. subst (λ n. q < n) (sym pages) (fits.within q h) }

module _ {W : Type 0} (T : Telling W) where
  -- what a step keeps
  pub record Keeps (a b : Moment W) : Type 0 where
    pub pages : b.device.pages ≡ a.device.pages
    pub room : b.engine.room ≡ a.engine.room
    pub fits : Fits a.engine a.device → Fits b.engine b.device

  pub keeps_none : (a : Moment W) → Keeps a a
  keeps_none a = record { pages = refl; room = refl; fits = λ f. f }

  keeps_then : (a b c : Moment W) → Keeps a b → Keeps b c → Keeps a c
  keeps_then a b c h k = record { pages = k.pages ∙ h.pages; room = k.room ∙ h.room; fits = λ f. k.fits (h.fits f) }

  write_keeps : (page : ℕ) (a b : Moment W) → WriteDone T page a b → Keeps a b
  write_keeps page a b w = record {
    pages = w.call.call.pages;
    room = w.room;
    fits = λ fits. more_pages b.engine a.device b.device w.call.call.pages (record {
      whole = record {
        dirty = λ q. w.cache.dirty q ∙ ap (λ x. x && not (eqb q page)) (fits.whole.dirty q) ∙ sym (w.graph.dirty q);
        graph = w.graph.graph;
        tallies = ap (map page_of) w.tallies ∙ tallies_left page a.engine.graph b.engine.graph a.engine.tallies fits.whole.graph w.graph.graph w.graph.dirty fits.whole.tallies;
        room = let le = fits.whole.room in let n = w.graph.nodes in let r = w.room in omega (arith, le, n, r);
      };
      within = λ q h. fits.within q (and_parts (dirty_in a.engine.graph q) (not (eqb q page)) (sym (w.graph.dirty q) ∙ h)).0;
    });
  }

  barrier_keeps : (a b : Moment W) → BarrierDone T a b → Keeps a b
  barrier_keeps a b w = record {
    pages = w.call.pages;
    room = w.room;
    fits = λ fits. more_pages b.engine a.device b.device w.call.pages (record {
      whole = record {
        dirty = λ q. w.cache.dirty q ∙ fits.whole.dirty q ∙ ap (λ (l : List ℕ). holds l q) (sym w.graph.dirty);
        graph = w.graph.graph;
        tallies = ap (map page_of) w.tallies ∙ fits.whole.tallies ∙ sym w.graph.dirty;
        room = let le = fits.whole.room in let n = w.graph.nodes in let r = w.room in omega (arith, le, n, r);
      };
      within = λ q h. fits.within q (sym (ap (λ (l : List ℕ). holds l q) w.graph.dirty) ∙ h);
    });
  }

  pub done_keeps : (s : Step) (a b : Moment W) → StepDone T s a b → Keeps a b
  done_keeps (WritePage page) a b w = write_keeps page a b w
  done_keeps MakeBarrier a b w = barrier_keeps a b w

  pub failed_keeps : (s : Step) (a b : Moment W) → StepFailed T s a b → Keeps a b
  failed_keeps (WritePage page) a b w = record { pages = w.call.call.pages; room = w.room; fits = λ fits. more_pages b.engine a.device b.device w.call.call.pages (same_fits a.engine b.engine a.device w.cache w.graph w.tallies w.room fits) }
  failed_keeps MakeBarrier a b w = record { pages = w.call.pages; room = w.room; fits = λ fits. more_pages b.engine a.device b.device w.call.pages (same_fits a.engine b.engine a.device w.cache w.graph w.tallies w.room fits) }

  step_keeps : (s : Step) (result : Result Unit Failed) (a b : Moment W) → StepEnds T s result a b → Keeps a b
  step_keeps s (Ok _) a b h = done_keeps s a b h
  step_keeps s (Err _) a b h = failed_keeps s a b h

  -- nothing was done so far
  pub returned_none : (a : Moment W) → Fits a.engine a.device → Returned no_failure a a
  returned_none a fits = record { cause = no_cause a.device; pages = refl; room = refl; fits = fits }

  -- one call after another
  pub returned_then : {A E B F : Type 0} (q : Result B F) (r : Result A E) (a b c : Moment W) → Returned q a b → Returned r b c → Returned r a c
  returned_then q r a b c h k = record { cause = cause_after q r a.device b.device c.device h.cause k.cause; pages = k.pages ∙ h.pages; room = k.room ∙ h.room; fits = k.fits }

  pub kept_returned : {A E B F : Type 0} (q : Result B F) (r : Result A E) (a b c : Moment W) → Returned q a b → HasCause r b.device c.device → Keeps b c → Returned r a c
  kept_returned q r a b c before cause k = record { cause = cause_after q r a.device b.device c.device before.cause cause; pages = k.pages ∙ before.pages; room = k.room ∙ before.room; fits = k.fits before.fits }

  -- and one step after a call
  pub step_returned : {B F : Type 0} (q : Result B F) (s : Step) (result : Result Unit Failed) (a b c : Moment W) → Returned q a b → HasCause result b.device c.device → StepEnds T s result b c → Returned result a c
  step_returned q s result a b c before cause step = kept_returned q result a b c before cause (step_keeps s result b c step)

  -- a list of steps
  pub steps_returned : {A : Type 0} (result : Result A Failed) (a b : Moment W) → Fits a.engine a.device → HasCause result a.device b.device → Steps T result a b → Returned result a b
  steps_returned result a b fits cause steps =
      let k = steps_keep T Keeps keeps_none keeps_then done_keeps failed_keeps result a b steps in
      record { cause = cause; pages = k.pages; room = k.room; fits = k.fits fits }
