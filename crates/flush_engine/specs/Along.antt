-- What each step keeps, a call keeps.
use Rattle.std.specs.Prelude.{[], ◌∷◌, Result, Ok, Err}
use Rattle.std.proofs.Common.{subst}
use Rattle.page_device.specs.declared.error.Failed.{Failed}
use Rattle.dep_graph.specs.Schedules.{Schedule, Step}
use Rattle.flush_engine.specs.Telling.{Telling}
use Rattle.flush_engine.specs.View.{Moment}
use Rattle.flush_engine.specs.Steps.{Chain, StepDone, StepFailed, Steps}

-- a relation between moments that holds of one moment and goes on from one to the next
module _ {W : Type 0} (T : Telling W) (P : Moment W → Moment W → Type 0) (none : (a : Moment W) → P a a) (then : (a b c : Moment W) → P a b → P b c → P a c) where
  pub chain_keeps : ((s : Step) (a b : Moment W) → StepDone T s a b → P a b) → (steps : Schedule) (a b : Moment W) → Chain T steps a b → P a b
  unfolding Chain
  chain_keeps one [] a b h = subst (P a) h (none a)
  chain_keeps one (s ∷ steps) a b h = then a h.0 b (one s a h.0 h.1) (chain_keeps one steps h.0 b h.2)

  pub steps_keep : ((s : Step) (a b : Moment W) → StepDone T s a b → P a b) → ((s : Step) (a b : Moment W) → StepFailed T s a b → P a b) → {A : Type 0} (result : Result A Failed) (a b : Moment W) → Steps T result a b → P a b
  steps_keep one failed (Ok _) a b s = subst (P a) s.ends (chain_keeps one s.done a s.last s.chain)
  steps_keep one failed (Err _) a b s = then a s.last b (chain_keeps one s.done a s.last s.chain) (failed s.ends.step s.last b s.ends.failed)
