-- Picks, one after another.
use Rattle.std.proofs.Common.{◌≡◌, ◌<◌, ℕ, zero, suc, Bool, true, false, [], ◌∷◌, ◌++◌, get_or, length, inl, inr, Result, Ok, Err, refl, sym, subst, arith}
use Rattle.page_device.specs.declared.error.Failed.{Failed}
use Rattle.page_device.specs.Meaning.{HasCause}
use Rattle.merge_policy.specs.Meaning.{PolicyMeaning}
use Rattle.dep_graph.specs.Schedules.{MakeBarrier, Schedule, WritePage}
use Rattle.flush_engine.specs.Telling.{Telling}
use Rattle.flush_engine.specs.View.{Moment, Returned}
use Rattle.flush_engine.specs.Steps.{Chain, Steps, WriteDone}
use Rattle.flush_engine.specs.Idle.{AllPicked, BarrierEnds, IdleStep, PickDone, PickFailed, PickNone, PicksDone, PicksFailed, TurnEnds, Turns, aged, no_offer}
use Rattle.flush_engine.proofs.Chains.{chain_one, chain_then}
use Rattle.flush_engine.proofs.FitLemmas.{Keeps, done_keeps, failed_keeps, keeps_none, kept_returned, no_failure}

module _ {W : Type 0} (T : Telling W) where
  pub picks_none : (p : PolicyMeaning) (a : Moment W) → PicksDone T zero p a p a
  unfolding PicksDone
  picks_none p a = (refl, refl)

  pub picks_then : (n : ℕ) (p : PolicyMeaning) (a : Moment W) (q : PolicyMeaning) (b : Moment W) (r : PolicyMeaning) (c : Moment W) → PicksDone T n p a q b → PickDone T q b r c → PicksDone T (suc n) p a r c
  unfolding PicksDone
  picks_then zero p a q b r c h w = (r, c, subst (λ (s : PolicyMeaning). PickDone T s a r c) (sym h.0) (subst (λ (m : Moment W). PickDone T q m r c) (sym h.1) w), (refl, refl))
  picks_then (suc n) p a q b r c h w = (h.0, h.1, h.2, picks_then n h.0 h.1 q b r c h.3 w)

  pub all_picked : (n : ℕ) (p : PolicyMeaning) (a : Moment W) (q : PolicyMeaning) (b : Moment W) (r : PolicyMeaning) (c : Moment W) → PicksDone T n p a q b → PickNone T q r b → b ≡ c → AllPicked T p a r c
  all_picked n p a q b r c done none same = record { count = n; mid = q; done = subst (λ (m : Moment W). PicksDone T n p a q m) same done; none = subst (λ (m : Moment W). PickNone T q r m) same none }

  pub picks_failed : (n : ℕ) (p : PolicyMeaning) (a : Moment W) (q : PolicyMeaning) (b : Moment W) (r : PolicyMeaning) (c : Moment W) → PicksDone T n p a q b → PickFailed T q b r c → PicksFailed T p a r c
  picks_failed n p a q b r c done failed = record { count = n; mid = q; m = b; done = done; failed = failed }

  -- a turn ends as its barrier does
  pub turn_ends : (result : Result Bool Failed) (p : PolicyMeaning) (a : Moment W) (q : PolicyMeaning) (b : Moment W) (r : PolicyMeaning) (c : Moment W) → AllPicked T p a q b → BarrierEnds T result q b r c → TurnEnds T result p a r c
  turn_ends (Ok answer) p a q b r c picks ends = record { mid = q; m = b; picks = picks; ends = ends }
  turn_ends (Err failed) p a q b r c picks ends = inr (record { mid = q; m = b; picks = picks; ends = ends })

  -- picks are writes
  picks_steps : (n : ℕ) (p : PolicyMeaning) (a : Moment W) (q : PolicyMeaning) (b : Moment W) → PicksDone T n p a q b → (s : Schedule) × Chain T s a b
  unfolding PicksDone Chain
  picks_steps zero p a q b h = ([], h.1)
  picks_steps (suc n) p a q b h = let rest = picks_steps n h.0 h.1 q b h.3 in (WritePage (get_or h.2.offers h.2.place no_offer).page ∷ rest.0, (h.1, h.2.write, rest.1))

  failed_steps : (failed : Failed) (p : PolicyMeaning) (a : Moment W) (r : PolicyMeaning) (c : Moment W) → PicksFailed T p a r c → Steps T {A = Bool} (Err failed) a c
  failed_steps failed p a r c h = let s = picks_steps h.count p a h.mid h.m h.done in record {
    done = s.0;
    last = h.m;
    chain = s.1;
    ends = record { step = WritePage (get_or h.failed.offers h.failed.place no_offer).page; failed = h.failed.write };
  }

  -- and so is a turn, with its barrier
  pub turn_steps : (result : Result Bool Failed) (p : PolicyMeaning) (a : Moment W) (r : PolicyMeaning) (c : Moment W) → TurnEnds T result p a r c → Steps T result a c
  turn_steps (Ok true) p a r c h = let s = picks_steps h.picks.count p a h.picks.mid h.m h.picks.done in record {
    done = s.0 ++ MakeBarrier ∷ [];
    last = c;
    chain = chain_then T s.0 (MakeBarrier ∷ []) a h.m c s.1 (chain_one T MakeBarrier h.m c h.ends.1);
    ends = refl;
  }
  turn_steps (Ok false) p a r c h = let s = picks_steps h.picks.count p a h.picks.mid h.m h.picks.done in record {
    done = s.0;
    last = h.m;
    chain = s.1;
    ends = elim h.ends [
      | inl none ↦ none.same
      | inr asked ↦ asked.1
    ];
  }
  turn_steps (Err failed) p a r c (inl h) = failed_steps failed p a r c h
  turn_steps (Err failed) p a r c (inr h) = let s = picks_steps h.picks.count p a h.picks.mid h.m h.picks.done in record {
    done = s.0;
    last = h.m;
    chain = s.1;
    ends = record { step = MakeBarrier; failed = h.ends.1 };
  }

  -- what a barrier that is asked for keeps
  asked_keeps : (result : Result Bool Failed) (p : PolicyMeaning) (a : Moment W) (q : PolicyMeaning) (b : Moment W) → BarrierEnds T result p a q b → Keeps T a b
  asked_keeps (Ok true) p a q b h = done_keeps T MakeBarrier a b h.1
  asked_keeps (Ok false) p a q b (inl none) = subst (Keeps T a) none.same (keeps_none T a)
  asked_keeps (Ok false) p a q b (inr asked) = subst (Keeps T a) asked.1 (keeps_none T a)
  asked_keeps (Err failed) p a q b h = failed_keeps T MakeBarrier a b h.1

  pub asked_returned : (result : Result Bool Failed) (p : PolicyMeaning) (a b : Moment W) (q : PolicyMeaning) (c : Moment W) → Returned no_failure a b → HasCause result b.device c.device → BarrierEnds T result p b q c → Returned result a c
  asked_returned result p a b q c before cause ends = kept_returned T no_failure result a b c before cause (asked_keeps result p b q c ends)

  -- a write leaves fewer dirty pages
  pub written_fewer : (page : ℕ) (a b : Moment W) → WriteDone T page a b → length b.engine.graph.dirty < length a.engine.graph.dirty
  written_fewer page a b w = let one = w.graph.marked in omega (arith, one)

  -- an idle step without a pass, turn by turn
  pub last_turn : (old new : PolicyMeaning) (a b : Moment W) → TurnEnds T (Ok false) old a new b → IdleStep T (λ x y. x ≡ y) (Ok tt) old a new (aged b)
  unfolding Turns
  last_turn old new a b h = record { barriers = 0; last = b; turns = h; passed = b; pass = refl; counted = refl }

  pub failed_turn : (failed : Failed) (old new : PolicyMeaning) (a b : Moment W) → TurnEnds T (Err failed) old a new b → IdleStep T (λ x y. x ≡ y) (Err failed) old a new (aged b)
  unfolding Turns
  failed_turn failed old new a b h = record { barriers = 0; last = b; turns = h; passed = b; pass = refl; counted = refl }

  pub turn_before : (result : Result Unit Failed) (old mid new : PolicyMeaning) (a m b : Moment W) → TurnEnds T (Ok true) old a mid m → IdleStep T (λ x y. x ≡ y) result mid m new b → IdleStep T (λ x y. x ≡ y) result old a new b
  unfolding Turns
  turn_before result old mid new a m b h s = record { barriers = suc s.barriers; last = s.last; turns = (mid, m, m, h, refl, s.turns); passed = s.passed; pass = s.pass; counted = s.counted }
