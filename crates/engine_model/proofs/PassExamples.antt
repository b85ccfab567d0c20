-- The premises of the laws can be met.
use Rattle.std.proofs.Common.{◌≡◌, inl, inr, ◌<◌, ℕ, true, false, ◌||◌, arith, refl, sym, ◌∙◌, subst, List, [], ◌∷◌, true≢false, eqb, eqb-true, None}
use Rattle.std.proofs.lemmas.Bool.{and_parts, or_cases, or_right}
use Rattle.std.proofs.Math.Bool.{and-false}
use Rattle.order_model.specs.World.{Queued, IsData}
use Rattle.engine_model.specs.Entries.{EdgeKind}
use Rattle.engine_model.specs.Examples.{dropped_release, printed, written}
use Rattle.engine_model.specs.Invariant.{EngineInvariant, known_at}
use Rattle.order_model.specs.Paths.{Closes, LivePath, leg, via}
use Rattle.engine_model.specs.Releases.{IsBlocked}
use Rattle.engine_model.specs.Session.{discarded, mounted, unborn_release, wrote}
use Rattle.engine_model.specs.SmallSteps.{SetsPrint, given_up, ordered}
use Rattle.order_model.specs.Pool.{after_zeroed}
use Rattle.engine_model.proofs.Examples.{is_data, no_other}
use Rattle.engine_model.proofs.Graphs.{begins_none, way_begins}
use Rattle.engine_model.proofs.Schedule.{step_keeps}
use Rattle.engine_model.proofs.Session.{mounted_kept, printed_apart, sample_run}
use Rattle.engine_model.specs.AnyDevice.{IsOrdered}
use Rattle.engine_model.specs.PassExamples.{all_gone, crossed, late, late_cleared, late_out, stuck, stuck_later, two_ways, unborn_cleared}
use Rattle.engine_model.specs.LookingAgain.{ByBarrier, ByWrite, NoStep, OneMore, QuietRun, SparingPass}
use Rattle.engine_model.specs.SmallRuns.{with_written}
use Rattle.engine_model.proofs.SmallSession.{sets_count}
use Rattle.engine_model.specs.SmallPass.{Applies, ClearsLast, ClearsUnborn, GivenUp, SmallPass, StaysThere}

pub discarded_kept : EngineInvariant printed 5 true discarded
discarded_kept = step_keeps printed 5 true printed_apart wrote discarded (step_keeps printed 5 true printed_apart mounted wrote mounted_kept sample_run.0) sample_run.1.0

pub sets_print : (old : List ℕ) → SetsPrint printed old (0 ∷ []) 1 None
sets_print old = record { here = refl; other = λ q d ne same. absurd (no_other q d ne); formed = refl }

unborn_open : IsBlocked printed (known_at printed discarded) discarded.world unborn_release → ⊥
unborn_open (inl z) = omega (arith, z.0)
unborn_open (inr f) = true≢false f.0.2

unborn_applies : Applies printed discarded all_gone unborn_release [] []
unborn_applies = record {
  not_blocked = unborn_open;
  count = 0;
  counted = refl;
  cleared = unborn_cleared;
  clears = ClearsUnborn (0 ∷ []) (7 ∷ []) refl refl refl (sets_print _) refl;
  content = 0 ∷ [];
  sets = sets_count _ 0;
  pool = after_zeroed 1 discarded.pool;
  told = inl (refl, λ q. refl);
  gives_up = GivenUp refl (λ a. and-false _) refl;
}

pub unborn_pass : SmallPass printed discarded [] discarded.world.queue all_gone
unborn_pass = inr (all_gone, inl unborn_applies, refl)

late_open : IsBlocked printed (known_at printed late) late.world dropped_release → ⊥
late_open (inl z) = begins_none late.world.live 1 2 (λ e. omega (arith, e)) (λ c. refl) z.1
late_open (inr f) = begins_none late.world.live 3 2 (λ e. omega (arith, e)) (λ c. refl) f.1

late_applies : Applies printed late late_out dropped_release [] []
late_applies = record {
  not_blocked = late_open;
  count = 0;
  counted = refl;
  cleared = late_cleared;
  clears = ClearsLast (0 ∷ []) (7 ∷ []) refl refl refl (sets_print _) refl;
  content = 0 ∷ [];
  sets = sets_count _ 0;
  pool = after_zeroed 1 late.pool;
  told = inl (refl, λ q. refl);
  gives_up = StaysThere refl;
}

pub late_pass : SmallPass printed late [] late.world.queue late_out
late_pass = inr (late_out, inl late_applies, refl)

one_release : (l p stage : ℕ) → Queued (dropped_release ∷ []) l p stage → (l ≡ 0) × (p ≡ 1)
one_release l p stage (inl q) = (sym q.0, sym q.1)
one_release l p stage (inr q) = absurd q

release_range : (l p stage : ℕ) → Queued (dropped_release ∷ []) l p stage → (l < 1) × IsData printed p
release_range l p stage h = let q = one_release l p stage h in (subst (λ z. z < 1) (sym q.0) (omega arith), subst (λ z. IsData printed z) (sym q.1) is_data)

not_written : (l p : ℕ) → Queued (dropped_release ∷ []) l p 1 → ⊥
not_written l p (inl q) = omega (arith, q.2)
not_written l p (inr q) = absurd q

pub late_order : IsOrdered printed late.world
late_order = record {
  live_before = λ a b h. absurd (true≢false (sym h));
  edge_kinds = λ a b h. elim h [ inl l ↦ absurd (true≢false (sym l)) | inr r ↦ absurd (true≢false (sym r)) ];
  zero_dirty = λ l p h. refl;
  one_hung = λ l p h. absurd (not_written l p h);
  in_range = release_range;
}

written_kind : (a b : ℕ) → written.live a b ≡ true → EdgeKind printed a b
written_kind a b h =
    let q = and_parts (eqb a 2 || eqb a 4) (eqb b 1 || eqb b 3) h in
    inl (
      elim (or_cases (eqb a 2) (eqb a 4) q.0) [ inl e ↦ inr (1, is_data, eqb-true a 2 e) | inr e ↦ inl (1, is_data, eqb-true a 4 e) ],
      elim (or_cases (eqb b 1) (eqb b 3) q.1) [ inl e ↦ inl (0, omega arith, eqb-true b 1 e) | inr e ↦ inr (1, is_data, eqb-true b 3 e) ],
    )

pub stuck_order : IsOrdered printed stuck.world
stuck_order = record {
  live_before = λ a b h. or_right (eqb a 1 || eqb a 3) (eqb a 2 || eqb a 4) (and_parts (eqb a 2 || eqb a 4) (eqb b 1 || eqb b 3) h).0;
  edge_kinds = λ a b h. elim h [ inl l ↦ written_kind a b l | inr r ↦ absurd (true≢false (sym r)) ];
  zero_dirty = λ l p h. refl;
  one_hung = λ l p h. absurd (not_written l p h);
  in_range = release_range;
}

pub stuck_pass : SmallPass printed stuck [] stuck.world.queue stuck
stuck_pass = inl (inl (refl, inr (leg refl)), refl)

pub stuck_quiet : QuietRun printed 5 dropped_release stuck_later dropped_release stuck
stuck_quiet = OneMore dropped_release (with_written printed 4 stuck) (ByWrite 4 (λ a. and-false (eqb a 2 || eqb a 4)) (λ e. omega (arith, e)) refl refl)
    (OneMore dropped_release stuck_later (ByBarrier refl refl) NoStep)

pub stuck_spared : SparingPass printed stuck stuck [] stuck.world.queue stuck
stuck_spared = inl (inl (inl (refl, inr (leg refl))), refl)

pub crossed_way : Closes crossed.live 1 2
crossed_way = inr (via {b = 4} refl (leg refl))

-- from 2 the way goes to 4 alone, and from 4 nowhere
none_on : (x : ℕ) → (given_up 4 crossed).live 4 x ≡ false
none_on x = and-false _

only_four : (x : ℕ) → (given_up 4 crossed).live 2 x ≡ true → x ≡ 4
only_four x h = elim (or_cases _ _ (and_parts _ _ h).0) [ inl e ↦ eqb-true x 4 e | inr e ↦ absurd (true≢false (sym e)) ]

two_open : {x : ℕ} → LivePath (given_up 4 crossed).live 2 x → x ≡ 4
two_open (leg e) = only_four _ e
two_open {x = x} (via {b = b} e p) = let q = way_begins (subst (λ z. LivePath (given_up 4 crossed).live z x) (only_four b e) p) in absurd (true≢false (sym q.1 ∙ none_on q.0))

pub crossed_open : Closes (given_up 4 crossed).live 1 2 → ⊥
crossed_open (inl e) = omega (arith, e)
crossed_open (inr way) = let e = two_open way in omega (arith, e)

-- from 3 the way goes to 2 alone, and from 4 to 1 alone, and on from there nowhere
three_way : {x : ℕ} → LivePath two_ways.live 3 x → x ≡ 2
three_way (leg {b = b} e) = eqb-true b 2 e
three_way {x = x} (via {b = b} e p) = let q = way_begins (subst (λ z. LivePath two_ways.live z x) (eqb-true b 2 e) p) in absurd (true≢false (sym q.1))

four_way : {x : ℕ} → LivePath two_ways.live 4 x → x ≡ 1
four_way (leg {b = b} e) = elim (or_cases (eqb b 1) false e) [ inl h ↦ eqb-true b 1 h | inr h ↦ absurd (true≢false (sym h)) ]
four_way {x = x} (via {b = b} e p) = elim (or_cases (eqb b 1) false e) [
  | inl h ↦ let q = way_begins (subst (λ z. LivePath two_ways.live z x) (eqb-true b 1 h) p) in absurd (true≢false (sym q.1))
  | inr h ↦ absurd (true≢false (sym h))
]

pub first_open : Closes two_ways.live 1 3 → ⊥
first_open (inl e) = omega (arith, e)
first_open (inr way) = let e = three_way way in omega (arith, e)

pub second_open : Closes two_ways.live 2 4 → ⊥
second_open (inl e) = omega (arith, e)
second_open (inr way) = let e = four_way way in omega (arith, e)

pub second_shut : Closes (ordered 1 3 two_ways).live 2 4
second_shut = inr (via {b = 1} refl (via {b = 3} refl (leg refl)))
