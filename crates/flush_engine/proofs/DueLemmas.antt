-- What is due, while pages that were due are written.
use Rattle.std.proofs.Common.{◌≡◌, inl, inr, ℕ, true, false, List, [], sym, ◌∙◌, ap, Option, Some, None}
use Rattle.std.proofs.lemmas.Bool.{and_from, not_from_false, or_cases, true≢false}
use Rattle.dep_graph.specs.Lists.{GraphLists, IsGraph, dirty_in, is_node, is_ready}
use Rattle.dep_graph.specs.Pages.{holds}
use Rattle.dep_graph.proofs.ReadyLemmas.{some_ready, some_serves}
use Rattle.flush_engine.specs.Waves.{GoesOn, IsDue}
use Rattle.flush_engine.proofs.GraphAfter.{AllWrote, ready_same}

pub due_ready : (g : GraphLists) (target : Option ℕ) (a : ℕ) → IsDue g target a → is_ready g a ≡ true
due_ready g None a d = d
due_ready g (Some page) a d = d.0

-- what was ready is ready still, unless it was written
pub still_ready : (pages : List ℕ) (g k : GraphLists) → AllWrote pages g k → (a : ℕ) → is_ready g a ≡ true → holds pages a ≡ false → is_ready k a ≡ true
still_ready pages g k all a r off = ready_same pages g k a all ∙ and_from _ _ r (not_from_false _ off)

-- while waves go on and nothing is hung, something is due
pub some_due : (g : GraphLists) (target : Option ℕ) → IsGraph g → g.hung ≡ [] → GoesOn g target → ((a : ℕ) → IsDue g target a → ⊥) → ⊥
some_due g target graph none_hung on none = by target on none
  where
    is_dirty : (a : ℕ) → is_node g a ≡ true → dirty_in g a ≡ true
    is_dirty a node = elim (or_cases _ _ node) [
      | inl dirty ↦ dirty
      | inr hung ↦ absurd (true≢false (sym hung ∙ ap (λ (l : List ℕ). holds l a) none_hung))
    ]

    by : (target : Option ℕ) → GoesOn g target → ((a : ℕ) → IsDue g target a → ⊥) → ⊥
    by None node none = let one = some_ready g node.0 graph none_hung (is_dirty node.0 node.1) in none one.0 one.1
    by (Some page) node none = some_serves g page graph none_hung (is_dirty page node) (λ a r c. none a (r, c))
