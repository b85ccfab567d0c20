-- What a core keeps ready for its queued releases, whatever the device.
use Rattle.std.specs.Prelude.{◌≡◌, ◌≤◌, ◌+◌, ◌*◌, ℕ, List, [], ◌∷◌, cond, eqb, length}
use Rattle.page_cache.specs.View.{holds_in}
use Rattle.dep_graph.specs.Lists.{node_count}
use Rattle.release_queue.specs.declared.Release.{Release}
use Rattle.store_core.specs.declared.Core.{Core}
use Rattle.store_core.specs.Applied.{Takes}

-- How often a page is held for a release: once as its count page, and once as its print page.
abbrev pub held_for : Release → ℕ → ℕ
held_for r q = cond (eqb q r.count_at) 1 0 + cond (eqb q r.print_at) 1 0

unfoldable pub held_for_all : List Release → ℕ → ℕ
held_for_all [] q = 0
held_for_all (r ∷ rs) q = held_for r q + held_for_all rs q

-- The pages of each queued release are held for it, and each of them may still take two nodes, two edges and a change.
pub record IsProvided (core : Core) : Type 0 where
  pub holds_owed : (q : ℕ) → held_for_all core.ledger.queue.releases q ≤ holds_in core.engine.cache q
  pub spare_nodes : 2 * length core.ledger.queue.releases ≤ core.engine.graph.spare_nodes
  pub spare_edges : 2 * length core.ledger.queue.releases ≤ core.engine.graph.spare_edges
  pub changes : length core.ledger.queue.releases ≤ core.ledger.births.spare
  pub nodes : node_count core.engine.graph + 2 * length core.ledger.queue.releases ≤ core.engine.room

-- holds came and went with the releases that they are for, and no others
pub record KeepsHolds (old new : Core) : Type 0 where
  pub holds : (q : ℕ) → holds_in new.engine.cache q + held_for_all old.ledger.queue.releases q ≡ holds_in old.engine.cache q + held_for_all new.ledger.queue.releases q

-- so many nodes, edges and changes were taken at most
pub record Spends (nodes edges changes : ℕ) (old new : Core) : Type 0 where
  pub engine : Takes nodes edges old.engine new.engine
  pub births : old.ledger.births.spare ≤ new.ledger.births.spare + changes
