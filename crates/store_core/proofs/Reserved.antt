-- Room that was made ahead changes nothing else.
use Rattle.std.proofs.Common.{arith, OnOk, OnErr, ◌≡◌, ◌≤◌, ◌+◌, ◌*◌, ℕ, false, refl, sym, ap, ◌∙◌, subst, Ok, Err, Result, max, eqb, length}
use Rattle.page_device.specs.declared.error.NoMemory.{NoMemory}
use Rattle.dep_graph.specs.Lists.{GraphLists, IsGraph, node_count}
use Rattle.birth_marks.specs.Births.{BirthsView, Same}
use Rattle.release_queue.specs.Queued.{QueueLists}
use Rattle.flush_engine.specs.View.{EngineView}
use Rattle.store_core.specs.declared.Core.{Core}
use Rattle.store_core.specs.declared.ledger.Ledger.{Ledger}
use Rattle.store_core.specs.declared.room.NoRoom.{NoRoom}
use Rattle.store_core.specs.declared.room.Numbers.{Numbers}
use Rattle.store_core.specs.Quiet.{SameRest}
use Rattle.store_core.specs.Room.{HasRoom, IsReserved, IsWithOwed, owed}
use Rattle.store_core.specs.Whole.{IsWhole}

-- a graph with other spare numbers
abbrev pub with_spare : ℕ → ℕ → GraphLists → GraphLists
with_spare nodes edges g = record g { spare_nodes = max g.spare_nodes nodes; spare_edges = max g.spare_edges edges }

is_graph : (g : GraphLists) (nodes edges : ℕ) → IsGraph g → IsGraph (with_spare nodes edges g)
is_graph g nodes edges is = record { dirty_once = is.dirty_once; hung_once = is.hung_once; edges_once = is.edges_once; live_ends = is.live_ends; barred_ends = is.barred_ends; acyclic = is.acyclic }

pub at_least : (a b c : ℕ) → c ≡ max a b → a ≤ c
at_least a b c e = omega (arith, e)

-- what every core keeps
pub whole_births : (old : Core) (births : BirthsView) → Same old.ledger.births births → IsWhole old.shape old.engine (record old.ledger { births = births })
whole_births old births same = record {
  engine_whole = old.whole.engine_whole;
  within = old.whole.within;
  placed = old.whole.placed;
  pool_shape = old.whole.pool_shape;
  slots = λ s r. same.slots.place s ∙ old.whole.slots s (sym (same.slots.recorded s) ∙ r);
}

pub whole_spare : (old : Core) (e : EngineView) (nodes edges : ℕ) → e ≡ record old.engine { graph = with_spare nodes edges old.engine.graph } → IsWhole old.shape e old.ledger
whole_spare old e nodes edges is = subst (λ (x : EngineView). IsWhole old.shape x old.ledger) (sym is) (record {
  engine_whole = record {
    dirty = old.whole.engine_whole.dirty;
    graph = is_graph old.engine.graph nodes edges old.whole.engine_whole.graph;
    tallies = old.whole.engine_whole.tallies;
    room = old.whole.engine_whole.room;
  };
  within = old.whole.within;
  placed = old.whole.placed;
  pool_shape = old.whole.pool_shape;
  slots = old.whole.slots;
})

pub whole_reserved : (old : Core) (e : EngineView) (nodes edges : ℕ) (r : Result Unit NoMemory) → OnOk r (e ≡ record old.engine { graph = with_spare nodes edges old.engine.graph }) → OnErr r (e ≡ old.engine) → IsWhole old.shape e old.ledger
whole_reserved old e nodes edges (Ok _) ok err = whole_spare old e nodes edges ok
whole_reserved old e nodes edges (Err _) ok err = subst (λ (x : EngineView). IsWhole old.shape x old.ledger) (sym err) old.whole

-- a core with other births
abbrev pub with_births : (old : Core) (births : BirthsView) → Same old.ledger.births births → Core
with_births old births same = record { shape = old.shape; engine = old.engine; ledger = record old.ledger { births = births }; whole = whole_births old births same }

-- nothing but spare numbers rose
module _ (old new : Core) (shape : new.shape ≡ old.shape) (queue : new.ledger.queue ≡ old.ledger.queue) (pool : new.ledger.pool ≡ old.ledger.pool) (births : Same old.ledger.births new.ledger.births) (changes : old.ledger.births.spare ≤ new.ledger.births.spare) where
  pub rest_engine : new.engine ≡ old.engine → SameRest old new
  rest_engine engine = record {
    shape = shape;
    queue = queue;
    pool = pool;
    births = births;
    graph = record { dirty = ap (λ (e : EngineView). e.graph.dirty) engine; hung = ap (λ (e : EngineView). e.graph.hung) engine; edges = ap (λ (e : EngineView). e.graph.edges) engine };
    tallies = ap (λ (e : EngineView). e.tallies) engine;
    room = record {
      spare_nodes = omega (arith, ap (λ (e : EngineView). e.graph.spare_nodes) engine);
      spare_edges = omega (arith, ap (λ (e : EngineView). e.graph.spare_edges) engine);
      changes = changes;
      nodes = omega (arith, ap (λ (e : EngineView). node_count e.graph) engine);
      room = ap (λ (e : EngineView). e.room) engine;
    };
  }

  pub rest_spare : (nodes edges : ℕ) → new.engine ≡ record old.engine { graph = with_spare nodes edges old.engine.graph } → SameRest old new
  rest_spare nodes edges engine = record {
    shape = shape;
    queue = queue;
    pool = pool;
    births = births;
    graph = record { dirty = ap (λ (e : EngineView). e.graph.dirty) engine; hung = ap (λ (e : EngineView). e.graph.hung) engine; edges = ap (λ (e : EngineView). e.graph.edges) engine };
    tallies = ap (λ (e : EngineView). e.tallies) engine;
    room = record {
      spare_nodes = at_least _ nodes _ (ap (λ (e : EngineView). e.graph.spare_nodes) engine);
      spare_edges = at_least _ edges _ (ap (λ (e : EngineView). e.graph.spare_edges) engine);
      changes = changes;
      nodes = omega (arith, ap (λ (e : EngineView). node_count e.graph) engine);
      room = ap (λ (e : EngineView). e.room) engine;
    };
  }

-- an engine that is the same
pub rest_same : (old new : Core) → new.shape ≡ old.shape → new.engine ≡ old.engine → new.ledger ≡ old.ledger → SameRest old new
rest_same old new shape engine ledger = rest_engine old new shape (ap (λ (l : Ledger). l.queue) ledger) (ap (λ (l : Ledger). l.pool) ledger)
    (subst (λ (l : Ledger). Same old.ledger.births l.births) (sym ledger) (record { slots = record { recorded = λ s. refl; place = λ s. refl; value = λ s. refl }; met = λ s v. refl; written = λ p. refl }))
    (omega (arith, ap (λ (l : Ledger). l.births.spare) ledger)) engine

-- the room that is asked for
pub has_room : (old new : Core) (asked all : Numbers) → SameRest old new → eqb (length old.ledger.queue.releases) old.ledger.queue.limit ≡ false → node_count old.engine.graph + (asked.nodes + 2 * owed old) ≤ old.engine.room
    → IsWithOwed (owed old) asked all → IsReserved all new → HasRoom asked.nodes asked.edges asked.changes new
has_room old new asked all rest place within with_ reserved =
    let same : owed new ≡ owed old = ap (λ (q : QueueLists). length q.releases + 1) rest.queue in
    record {
      place = ap (λ (q : QueueLists). eqb (length q.releases) q.limit) rest.queue ∙ place;
      within = omega (arith, within, same, rest.room.nodes, rest.room.room);
      nodes_fit = omega (arith, with_.nodes, reserved.nodes, same);
      edges_fit = omega (arith, with_.edges, reserved.edges, same);
      changes_fit = omega (arith, with_.changes, reserved.changes, same);
    }

pub room_on_ok : (old new : Core) (asked all : Numbers) (r : Result Unit NoRoom) → SameRest old new → eqb (length old.ledger.queue.releases) old.ledger.queue.limit ≡ false → node_count old.engine.graph + (asked.nodes + 2 * owed old) ≤ old.engine.room
    → IsWithOwed (owed old) asked all → OnOk r (IsReserved all new) → OnOk r (HasRoom asked.nodes asked.edges asked.changes new)
room_on_ok old new asked all (Ok _) rest place within with_ reserved = has_room old new asked all rest place within with_ reserved
room_on_ok old new asked all (Err _) rest place within with_ reserved = tt
