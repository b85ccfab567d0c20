-- Room that is made ahead, for a command and for the queued releases.
use Rattle.std.specs.Prelude.{◌≡◌, ◌≤◌, ◌<◌, ◌+◌, ◌*◌, ◌⊎◌, ℕ, false, true, eqb, length}
use Rattle.dep_graph.specs.Lists.{node_count}
use Rattle.store_core.specs.declared.Core.{Core}
use Rattle.store_core.specs.declared.room.Numbers.{Numbers}

-- what the queued releases may take, and one more
abbrev pub owed : Core → ℕ
owed core = length core.ledger.queue.releases + 1

-- There is a place in the queue, and room for so many nodes, edges and changes beside two nodes, two edges and a change for each queued release and for one more. So many nodes more are within the room of the engine.
pub record HasRoom (nodes edges changes : ℕ) (core : Core) : Type 0 where
  pub place : eqb (length core.ledger.queue.releases) core.ledger.queue.limit ≡ false
  pub within : node_count core.engine.graph + (nodes + 2 * owed core) ≤ core.engine.room
  pub nodes_fit : nodes + 2 * owed core ≤ core.engine.graph.spare_nodes
  pub edges_fit : edges + 2 * owed core ≤ core.engine.graph.spare_edges
  pub changes_fit : changes + owed core ≤ core.ledger.births.spare

-- there is no place in the queue, or so many nodes more are not within the room of the engine
abbrev pub IsCrowded : ℕ → Core → Type 0
IsCrowded nodes core = (eqb (length core.ledger.queue.releases) core.ledger.queue.limit ≡ true) ⊎ (core.engine.room < node_count core.engine.graph + (nodes + 2 * owed core))

-- so many beside those that are owed
pub record IsWithOwed (owed : ℕ) (asked all : Numbers) : Type 0 where
  pub nodes : all.nodes ≡ asked.nodes + 2 * owed
  pub edges : all.edges ≡ asked.edges + 2 * owed
  pub changes : all.changes ≡ asked.changes + owed

-- there is room for so many
pub record IsReserved (all : Numbers) (core : Core) : Type 0 where
  pub nodes : all.nodes ≤ core.engine.graph.spare_nodes
  pub edges : all.edges ≤ core.engine.graph.spare_edges
  pub changes : all.changes ≤ core.ledger.births.spare
