-- Chains of steps.
use Rattle.std.proofs.Common.{ℕ, List, [], ◌∷◌, ◌++◌, refl, sym, subst}
use Rattle.dep_graph.specs.Calls.{Fixed}
use Rattle.dep_graph.specs.Schedules.{MakeBarrier, Schedule, Step}
use Rattle.flush_engine.specs.Telling.{Telling}
use Rattle.flush_engine.specs.View.{Moment}
use Rattle.flush_engine.specs.Steps.{Chain, StepDone}
use Rattle.flush_engine.specs.Waves.{writes}
use Rattle.flush_engine.proofs.GraphAfter.{AllWrote, wrote_more, wrote_none}

module _ {W : Type 0} (T : Telling W) where
  pub chain_none : (a : Moment W) → Chain T [] a a
  unfolding Chain
  chain_none a = refl

  pub chain_one : (step : Step) (a b : Moment W) → StepDone T step a b → Chain T (step ∷ []) a b
  unfolding Chain
  chain_one step a b h = (b, h, refl)

  pub chain_then : (xs ys : Schedule) (a b c : Moment W) → Chain T xs a b → Chain T ys b c → Chain T (xs ++ ys) a c
  unfolding Chain
  chain_then [] ys a b c h k = subst (λ (m : Moment W). Chain T ys m c) (sym h) k
  chain_then (x ∷ xs) ys a b c h k = (h.0, h.1, chain_then xs ys h.0 b c h.2 k)

  pub chain_split : (xs ys : Schedule) (a c : Moment W) → Chain T (xs ++ ys) a c → (b : Moment W) × (Chain T xs a b × Chain T ys b c)
  unfolding Chain
  chain_split [] ys a c h = (a, (refl, h))
  chain_split (x ∷ xs) ys a c h = let r = chain_split xs ys h.0 c h.2 in (r.0, ((h.0, h.1, r.1.0), r.1.1))

  -- what writes make of the graph
  pub chain_wrote : (pages : List ℕ) (a b : Moment W) → Chain T (writes pages) a b → AllWrote pages a.engine.graph b.engine.graph
  unfolding Chain
  chain_wrote [] a b h = subst (λ (m : Moment W). AllWrote [] a.engine.graph m.engine.graph) h (wrote_none a.engine.graph)
  chain_wrote (p ∷ pages) a b h = wrote_more p pages a.engine.graph h.0.engine.graph b.engine.graph h.1.graph (chain_wrote pages h.0 b h.2)

  -- and a barrier
  pub chain_fixed : (a b : Moment W) → Chain T (MakeBarrier ∷ []) a b → Fixed a.engine.graph b.engine.graph
  unfolding Chain
  chain_fixed a b h = subst (λ (m : Moment W). Fixed a.engine.graph m.engine.graph) h.2 h.1.graph
