-- The policy that leaves every page makes an idle turn do nothing.
use Rattle.std.proofs.Common.{◌≡◌, inl, inr, zero, suc, Bool, true, false, Some, Ok, Err, Result, ℕ, List, refl, sym, ◌∙◌, ap}
use Rattle.std.proofs.lemmas.Bool.{true≢false}
use Rattle.page_device.specs.declared.error.Failed.{Failed}
use Rattle.merge_policy.specs.declared.labels.TheConstants.{HOLD}
use Rattle.merge_policy.specs.declared.policy.Offer.{Offer}
use Rattle.merge_policy.specs.Meaning.{PolicyMeaning}
use Rattle.merge_policy.specs.Calls.{Bars, Picks, hold_makes_no_barrier, hold_picks_none}
use Rattle.flush_engine.specs.Telling.{Telling}
use Rattle.flush_engine.specs.View.{Moment}
use Rattle.flush_engine.specs.Idle.{AllPicked, BarrierEnds, PicksDone, PicksFailed, TurnEnds}

none_picked : (offers : List Offer) (place : ℕ) (old new : PolicyMeaning) → old.label ≡ HOLD → Picks offers (Some place) old new → ⊥
none_picked offers place old new hold picks = let e = hold_picks_none offers (Some place) old hold picks.chosen in cc

none_made : (hung : ℕ) (old new : PolicyMeaning) → old.label ≡ HOLD → Bars hung true old new → ⊥
none_made hung old new hold bars = true≢false (hold_makes_no_barrier hung true old hold bars.barred)

module _ {W : Type 0} (T : Telling W) where
  nothing_done : (n : ℕ) (p : PolicyMeaning) (a : Moment W) (q : PolicyMeaning) (b : Moment W) → p.label ≡ HOLD → PicksDone T n p a q b → (a ≡ b) × (q.label ≡ HOLD)
  unfolding PicksDone
  nothing_done zero p a q b hold h = (h.1, ap (λ (m : PolicyMeaning). m.label) (sym h.0) ∙ hold)
  nothing_done (suc n) p a q b hold h = absurd (none_picked h.2.offers h.2.place p h.2.asked hold h.2.picks)

  nothing_picked : (p : PolicyMeaning) (a : Moment W) (q : PolicyMeaning) (b : Moment W) → p.label ≡ HOLD → AllPicked T p a q b → (a ≡ b) × (q.label ≡ HOLD)
  nothing_picked p a q b hold h = let d = nothing_done h.count p a h.mid b hold h.done in (d.0, h.none.picks.policy.label ∙ d.1)

  no_barrier : (result : Result Bool Failed) (p : PolicyMeaning) (a : Moment W) (q : PolicyMeaning) (b : Moment W) → p.label ≡ HOLD → BarrierEnds T result p a q b → (result ≡ Ok false) × ((a ≡ b) × (q.label ≡ HOLD))
  no_barrier (Ok true) p a q b hold h = absurd (none_made _ p q hold h.0.bars)
  no_barrier (Ok false) p a q b hold (inl h) = (refl, (h.same, ap (λ (m : PolicyMeaning). m.label) (sym h.policy) ∙ hold))
  no_barrier (Ok false) p a q b hold (inr h) = (refl, (h.1, h.0.bars.policy.label ∙ hold))
  no_barrier (Err failed) p a q b hold h = absurd (none_made _ p q hold h.0.bars)

  no_failure_of : (p : PolicyMeaning) (a : Moment W) (q : PolicyMeaning) (b : Moment W) → p.label ≡ HOLD → PicksFailed T p a q b → ⊥
  no_failure_of p a q b hold h = let d = nothing_done h.count p a h.mid h.m hold h.done in none_picked h.failed.offers h.failed.place h.mid q d.1 h.failed.picks

  pub hold_turns : (result : Result Bool Failed) (p : PolicyMeaning) (a : Moment W) (q : PolicyMeaning) (b : Moment W) → p.label ≡ HOLD → TurnEnds T result p a q b → (result ≡ Ok false) × ((a ≡ b) × (q.label ≡ HOLD))
  hold_turns (Ok answer) p a q b hold h = let d = nothing_picked p a h.mid h.m hold h.picks in let e = no_barrier (Ok answer) h.mid h.m q b d.1 h.ends in (e.0, (d.0 ∙ e.1.0, e.1.1))
  hold_turns (Err failed) p a q b hold (inl h) = absurd (no_failure_of p a q b hold h)
  hold_turns (Err failed) p a q b hold (inr h) = let d = nothing_picked p a h.mid h.m hold h.picks in let e = no_barrier (Err failed) h.mid h.m q b d.1 h.ends in (e.0, (d.0 ∙ e.1.0, e.1.1))
