-- A flush writes each dirty page once, with as many barriers as the graph has levels.
use Rattle.std.proofs.Common.{◌≡◌, inl, inr, ◌+◌, ℕ, suc, Bool, true, false, not, ◌&&◌, cond, List, [], ◌∷◌, ◌++◌, length, None, Result, Ok, Err, eqb, eq-eqb, ne_eqb, refl, sym, ◌∙◌, ap, subst, arith}
use Rattle.std.proofs.lemmas.Bool.{and_parts, cases_Bool, cases_eq, or_cases, or_left, or_right, true≢false}
use Rattle.page_device.specs.declared.error.Failed.{Failed}
use Rattle.order_model.specs.Levels.{EndsAreMarked, IsGreatestLevel, IsNode, Marks}
use Rattle.dep_graph.specs.Lists.{GraphLists, IsGraph, dirty_in, is_node, is_ready, live_in, marks_of, waits_in}
use Rattle.dep_graph.specs.Pages.{holds, IsRising}
use Rattle.dep_graph.specs.Rising.{Rises}
use Rattle.dep_graph.specs.Schedules.{MakeBarrier, Schedule, Wave, Waves, WritePage, barriers, times_written}
use Rattle.dep_graph.proofs.PageLemmas.{leads_holds}
use Rattle.dep_graph.proofs.ReadyLemmas.{waited_for}
use Rattle.dep_graph.proofs.WaveLemmas.{fewest_barriers, written_once}
use Rattle.dep_graph.proofs.WaveLevels.{waves_have_levels}
use Rattle.flush_engine.specs.Telling.{Telling}
use Rattle.flush_engine.specs.View.{Moment}
use Rattle.flush_engine.specs.Waves.{AreDue, WavesDone, WavesEnd, steps_of, wave_steps, writes}
use Rattle.flush_engine.specs.Flush.{FlushDone, FlushEnds, times}
use Rattle.flush_engine.proofs.WaveLemmas.{Waved, waved}

-- the pages of a wave are the ready ones
each_ready : (g : GraphLists) (pages : List ℕ) → AreDue g None pages → (a : ℕ) → holds pages a ≡ is_ready g a
each_ready g pages due a = elim (cases_Bool (holds pages a)) [
  | inl on ↦ on ∙ sym (due.due a on)
  | inr off ↦ elim (cases_Bool (is_ready g a)) [
    | inl ready ↦ absurd (true≢false (sym (due.all a ready) ∙ off))
    | inr none ↦ off ∙ sym none
  ]
]

-- marks of a page after a wave: d and w say that it was dirty and waited, l that an edge leads from it
still : (d w x : Bool) → x ≡ (d && not (d && not w)) → x ≡ true → (d ≡ true) × (w ≡ true)
still true true x p q = (refl, refl)
still true false x p q = absurd (true≢false (sym q ∙ p))
still false w x p q = absurd (true≢false (sym q ∙ p))

stays : (d w x : Bool) → x ≡ (d && not (d && not w)) → d ≡ true → w ≡ true → x ≡ true
stays d w x p q r = p ∙ rw (q, r)

led : (l d w x : Bool) → x ≡ (l && not (d && not w)) → x ≡ true → (l ≡ true → d ≡ true) → (l ≡ true) × (w ≡ true)
led true true true x p q f = (refl, refl)
led true true false x p q f = absurd (true≢false (sym q ∙ p))
led true false w x p q f = absurd (true≢false (sym (f refl)))
led false d w x p q f = absurd (true≢false (sym q ∙ p))

leads_on : (l d w x : Bool) → x ≡ (l && not (d && not w)) → l ≡ true → w ≡ true → x ≡ true
leads_on l true w x p q r = p ∙ rw (q, r)
leads_on l false w x p q r = p ∙ rw q

ends_marked : (g : GraphLists) → IsGraph g → EndsAreMarked (marks_of g)
ends_marked g graph = record { live = graph.live_ends; barred = graph.barred_ends }

wave_marks : (pages : List ℕ) (g h : GraphLists) → IsGraph g → (a : ℕ) × (is_node g a ≡ true) → AreDue g None pages → Waved pages g h → Wave (marks_of g) (marks_of h)
wave_marks pages g h graph node due w = record {
  node = (node.0, or_cases _ _ node.1);
  dirty = λ p e. let s = still (dirty_in g p) (waits_in g p) _ (dirty p) e in (s.0, (waited_for g p).0 s.1);
  dirty_kept = λ p e to. stays (dirty_in g p) (waits_in g p) _ (dirty p) e ((waited_for g p).1 to);
  hung = λ p. ap (λ (l : List ℕ). holds l p) w.hung;
  live = λ a b e. let s = led (live_in g a b) (dirty_in g a) (waits_in g a) _ (live a b) e (λ l. (graph.live_ends a b l).0) in (s.0, (waited_for g a).0 s.1);
  live_kept = λ a b e to. leads_on (live_in g a b) (dirty_in g a) (waits_in g a) _ (live a b) e ((waited_for g a).1 to);
  barred = w.barred;
}
  where
    dirty : (p : ℕ) → dirty_in h p ≡ (dirty_in g p && not (dirty_in g p && not (waits_in g p)))
    dirty p = w.dirty p ∙ ap (λ x. dirty_in g p && not x) (each_ready g pages due p)

    live : (a b : ℕ) → live_in h a b ≡ (live_in g a b && not (dirty_in g a && not (waits_in g a)))
    live a b = w.live a b ∙ ap (λ x. live_in g a b && not x) (each_ready g pages due a)

-- how often a page is written
times_parts : (p : ℕ) (s t : Schedule) → times p (s ++ t) ≡ times p s + times p t
unfolding times
times_parts p [] t = omega arith
times_parts p (WritePage q ∷ s) t = let more = times_parts p s t in omega (arith, more)
times_parts p (MakeBarrier ∷ s) t = times_parts p s t

times_absent : (p : ℕ) (pages : List ℕ) → holds pages p ≡ false → times p (writes pages) ≡ 0
unfolding times
times_absent p [] e = refl
times_absent p (q ∷ pages) e = elim (cases_Bool (eqb q p)) [
  | inl same ↦ absurd (true≢false (sym (or_left _ (holds pages p) same) ∙ e))
  | inr other ↦ let less = times_absent p pages (rw other at e) in rw other (omega (arith, less))
]

zero_more : (x y : ℕ) → x ≡ y → 0 + x ≡ y
zero_more x y e = omega (arith, e)

times_writes : (p : ℕ) (pages : List ℕ) → IsRising pages → times p (writes pages) ≡ cond (holds pages p) 1 0
unfolding times Rises
times_writes p [] up = refl
times_writes p (q ∷ pages) up = elim (cases_eq q p) [
  | inl same ↦ rw (eq-eqb q p same) (ap (λ n. 1 + n) (times_absent p pages (absent same)))
  | inr other ↦ let less = times_writes p pages up.1 in rw (ne_eqb q p other) (zero_more _ _ less)
]
  where
    absent : q ≡ p → holds pages p ≡ false
    absent same = elim (cases_Bool (holds pages p)) [
      | inl there ↦ absurd (let lt = leads_holds q pages p up.0 there in omega (arith, lt, same))
      | inr none ↦ none
    ]

times_wave : (p : ℕ) (pages : List ℕ) → IsRising pages → times p (wave_steps pages) ≡ cond (holds pages p) 1 0
unfolding times
times_wave p pages up = times_parts p (writes pages) (MakeBarrier ∷ []) ∙ let is = times_writes p pages up in omega (arith, is)

-- how many barriers are made
barriers_parts : (s t : Schedule) → barriers (s ++ t) ≡ barriers s + barriers t
barriers_parts [] t = omega arith
barriers_parts (WritePage page ∷ s) t = barriers_parts s t
barriers_parts (MakeBarrier ∷ s) t = let more = barriers_parts s t in omega (arith, more)

barriers_writes : (pages : List ℕ) → barriers (writes pages) ≡ 0
barriers_writes [] = refl
barriers_writes (p ∷ pages) = barriers_writes pages

barriers_steps : (waves : List (List ℕ)) → barriers (steps_of waves) ≡ length waves
unfolding steps_of
barriers_steps [] = refl
barriers_steps (pages ∷ waves) =
    let one = barriers_parts (writes pages) (MakeBarrier ∷ []) in
    let none = barriers_writes pages in
    let all = barriers_parts (wave_steps pages) (steps_of waves) in
    let more = barriers_steps waves in
    omega (arith, one, none, all, more)

abbrev times_of : Bool → ℕ
times_of b = cond b 1 0

wave_once : (d r n : Bool) → n ≡ (d && not r) → (r ≡ true → d ≡ true) → times_of r ≡ times_of (d && not n)
wave_once true true n p f = rw p
wave_once true false n p f = rw p
wave_once false true n p f = absurd (true≢false (sym (f refl)))
wave_once false false n p f = refl

-- the marks after each wave
record MarksOf (g : GraphLists) (waves : List (List ℕ)) : Type 0 where
  marks : List Marks
  are : Waves (marks_of g) marks
  each : length marks ≡ length waves
  times_are : (p : ℕ) → times p (steps_of waves) ≡ times_written p (marks_of g) marks

no_mark : (g : GraphLists) (p : ℕ) → is_node g p ≡ false → IsNode (marks_of g) p → ⊥
no_mark g p e (inl d) = true≢false (sym (or_left _ _ d) ∙ e)
no_mark g p e (inr h) = true≢false (sym (or_right _ _ h) ∙ e)

module _ {W : Type 0} (T : Telling W) where
  marks_done : (waves : List (List ℕ)) (a b : Moment W) → IsGraph a.engine.graph → WavesDone T None waves a b → ((p : ℕ) → is_node b.engine.graph p ≡ false) → MarksOf a.engine.graph waves
  unfolding WavesDone steps_of times
  marks_done [] a b graph done none = record {
    marks = [];
    are = λ p node. no_mark a.engine.graph p (subst (λ (m : Moment W). is_node m.engine.graph p ≡ false) (sym done) (none p)) node;
    each = refl;
    times_are = λ p. refl;
  }
  marks_done (pages ∷ waves) a b graph done none =
      let w = waved T None pages a done.0 done.1 in
      let rest = marks_done waves done.0 b w.graph done.2 none in
      record {
        marks = marks_of done.0.engine.graph ∷ rest.marks;
        are = (wave_marks pages a.engine.graph done.0.engine.graph graph done.1.goes_on done.1.due w, rest.are);
        each = ap suc rest.each;
        times_are = λ p.
            let here : times p (wave_steps pages) ≡ cond (dirty_in a.engine.graph p && not (dirty_in done.0.engine.graph p)) 1 0 =
            times_wave p pages done.1.due.rising ∙ wave_once (dirty_in a.engine.graph p) (holds pages p) (dirty_in done.0.engine.graph p) (w.dirty p) (λ r. (and_parts _ _ (done.1.due.due p r)).0) in
            let more = rest.times_are p in
            times_parts p (wave_steps pages) (steps_of waves) ∙ omega (arith, here, more);
      }

  flush_done : (waves : List (List ℕ)) (a b : Moment W) → IsGraph a.engine.graph → WavesDone T None waves a b → ((p : ℕ) → is_node b.engine.graph p ≡ false) → FlushDone T a b
  flush_done waves a b graph done none =
      let m = marks_done waves a b graph done none in
      let ends = ends_marked a.engine.graph graph in
      let as' : length m.marks ≡ barriers (steps_of waves) = m.each ∙ sym (barriers_steps waves) in
      let levels = subst (IsGreatestLevel (marks_of a.engine.graph)) as' (waves_have_levels (marks_of a.engine.graph) m.marks ends m.are) in
      record {
        waves = waves;
        done = done;
        none = none;
        once = λ p. m.times_are p ∙ written_once p (marks_of a.engine.graph) m.marks m.are;
        levels = levels;
        fewest = λ s respects complete. fewest_barriers (marks_of a.engine.graph) (barriers (steps_of waves)) s ends levels respects complete;
      }

  pub flush_ends : (result : Result Unit Failed) (a b : Moment W) → IsGraph a.engine.graph → WavesEnd T None result a b → FlushEnds T result a b
  flush_ends (Ok _) a b graph f = flush_done f.waves a b graph f.done f.over
  flush_ends (Err _) a b graph f = f
