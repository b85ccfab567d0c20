-- What each step of the engine may move of a core.
use Rattle.std.proofs.Common.{arith, ◌≡◌, ◌<◌, ℕ, true, refl, sym, ap, ◌∙◌, map, Ok, Err}
use Rattle.std.proofs.lemmas.Bool.{and_parts, or_left}
use Rattle.std.specs.Prelude.{nat_lt}
use Rattle.page_device.specs.Meaning.{FlushEntry, Meaning, WriteEntry}
use Rattle.page_cache.specs.View.{CacheView, content_in, holds_in, in_table}
use Rattle.dep_graph.specs.Lists.{GraphLists, node_count}
use Rattle.release_queue.specs.Queued.{QueueLists}
use Rattle.birth_marks.specs.Births.{recorded_in}
use Rattle.engine_model.specs.Disk.{newest_on}
use Rattle.flush_engine.specs.Steps.{BarrierDone, BarrierFailed, WriteDone, WriteFailed}
use Rattle.flush_engine.specs.View.{EngineView, at}
use Rattle.store_core.specs.declared.Core.{Core}
use Rattle.store_core.specs.declared.ledger.Ledger.{Ledger}
use Rattle.store_core.specs.Ledger.{ledger_told}
use Rattle.store_core.specs.Views.{held_or}
use Rattle.store_core.specs.Quiet.{Flows, KeepsRoom, unmoved}
use Rattle.store_core.proofs.Calls.{flush_ends, not_calm, write_ends}
use Rattle.store_core.proofs.Releases.{stages_fixed, stages_written}
use Rattle.store_core.proofs.StepStands.{barrier_cached, barrier_stands, failed_barrier_cached, failed_barrier_stands, failed_write_cached, failed_write_stands, queue_written, write_cached, write_stands}
use Rattle.store_core.proofs.Stood.{passes_call, passes_same, passes_then}

pub table_held : (c : CacheView) (q : ℕ) → 0 < holds_in c q → in_table c q ≡ true
table_held c q h = or_left _ _ (positive (holds_in c q) h)
  where
    positive : (n : ℕ) → 0 < n → nat_lt 0 n ≡ true
    positive n h = grind (arith, h)

-- one after another, and none
pub same_room : (a b : Core) → b.engine ≡ a.engine → b.ledger ≡ a.ledger → KeepsRoom a b
same_room a b engine ledger = record {
  spare_nodes = omega (arith, ap (λ (e : EngineView). e.graph.spare_nodes) engine);
  spare_edges = omega (arith, ap (λ (e : EngineView). e.graph.spare_edges) engine);
  changes = omega (arith, ap (λ (l : Ledger). l.births.spare) ledger);
  nodes = omega (arith, ap (λ (e : EngineView). node_count e.graph) engine);
  room = ap (λ (e : EngineView). e.room) engine;
}

pub room_then : (a b c : Core) → KeepsRoom a b → KeepsRoom b c → KeepsRoom a c
room_then a b c h k = record {
  spare_nodes = omega (arith, h.spare_nodes, k.spare_nodes);
  spare_edges = omega (arith, h.spare_edges, k.spare_edges);
  changes = omega (arith, h.changes, k.changes);
  nodes = omega (arith, h.nodes, k.nodes);
  room = k.room ∙ h.room;
}

unfoldable pub flows_then : (d e f : Meaning) (a b c : Core) → Flows d e a b → Flows e f b c → Flows d f a c
flows_then d e f a b c h k = record {
  passes = passes_then d e f a b c h.passes k.passes;
  cached = λ sound array s q. k.cached sound array (h.passes.stands sound array s) q ∙ h.cached sound array s q;
  pages = k.pages ∙ h.pages;
  holds = λ q. k.holds q ∙ h.holds q;
  held = λ q p. k.held q (omega (arith, p, h.holds q)) ∙ h.held q p;
  queue = record { releases = k.queue.releases ∙ h.queue.releases; limit = k.queue.limit ∙ h.queue.limit };
  room = room_then a b c h.room k.room;
  recorded = λ s r. h.recorded s (k.recorded s r);
}

-- nothing was done to these parts
pub flows_same : (d : Meaning) (a b : Core) → b.shape ≡ a.shape → b.engine ≡ a.engine → b.ledger ≡ a.ledger → Flows d d a b
flows_same d a b shape engine ledger = record {
  passes = passes_same d a b shape engine ledger;
  cached = λ sound array s q. ap (λ (e : EngineView). held_or (content_in e.cache q) (newest_on d.state q)) engine;
  pages = refl;
  holds = λ q. ap (λ (e : EngineView). holds_in e.cache q) engine;
  held = λ q h. ap (λ (e : EngineView). content_in e.cache q) engine;
  queue = record { releases = ap (λ (l : Ledger). map unmoved l.queue.releases) ledger; limit = ap (λ (l : Ledger). l.queue.limit) ledger };
  room = same_room a b engine ledger;
  recorded = λ s r. ap (λ (l : Ledger). recorded_in l.births s) (sym ledger) ∙ r;
}

module _ (d e : Meaning) (old new : Core) (shape : new.shape ≡ old.shape) where
  pub write_flows : (page : ℕ) → WriteDone ledger_told page (at d old.engine old.ledger) (at e new.engine new.ledger) → Flows d e old new
  write_flows page w =
      let moved = queue_written old.ledger w.between new.ledger page w.tried w.written.queue in
      record {
        passes = passes_call (WriteEntry page w.call.block (Ok tt)) d e old new w.call.call w.cache.calls w.cause.never_falls (λ _. write_ends page w.call.block w.call.call.entry w.call.call.is) shape (λ sound array s. write_stands sound d e old new array shape s page w);
        cached = λ sound array s. write_cached sound d e old new array shape s page w;
        pages = w.call.call.pages;
        holds = w.cache.holds;
        held = λ q h. w.cache.content q;
        queue = record {
          releases = ap (λ (x : QueueLists). map unmoved x.releases) moved ∙ stages_written page old.ledger.queue.releases;
          limit = ap (λ (x : QueueLists). x.limit) moved;
        };
        room = record {
          spare_nodes = omega (arith, w.graph.spare_nodes);
          spare_edges = omega (arith, w.graph.spare_edges);
          changes = omega (arith, w.tried.changes, w.written.changes);
          nodes = omega (arith, w.graph.nodes);
          room = w.room;
        };
        recorded = λ s r. sym (w.tried.births.slots.recorded s) ∙ sym (w.written.births.slots.recorded s) ∙ r;
      }

  unfoldable pub failed_write_flows : (page : ℕ) → WriteFailed ledger_told page (at d old.engine old.ledger) (at e new.engine new.ledger) → Flows d e old new
  failed_write_flows page w = record {
    passes = passes_call (WriteEntry page w.call.block (Err w.failed)) d e old new w.call.call w.cache.calls w.cause.never_falls (not_calm w.failed d e w.cause) shape (λ sound array s. failed_write_stands sound d e old new array shape s page w);
    cached = λ sound array s. failed_write_cached sound d e old new array shape s page w;
    pages = w.call.call.pages;
    holds = w.cache.marks.holds;
    held = λ q h. w.cache.content q;
    queue = record { releases = ap (λ (x : QueueLists). map unmoved x.releases) w.tried.queue; limit = ap (λ (x : QueueLists). x.limit) w.tried.queue };
    room = record {
      spare_nodes = omega (arith, ap (λ (g : GraphLists). g.spare_nodes) w.graph);
      spare_edges = omega (arith, ap (λ (g : GraphLists). g.spare_edges) w.graph);
      changes = omega (arith, w.tried.changes);
      nodes = omega (arith, ap node_count w.graph);
      room = w.room;
    };
    recorded = λ s r. sym (w.tried.births.slots.recorded s) ∙ r;
  }

  pub barrier_flows : BarrierDone ledger_told (at d old.engine old.ledger) (at e new.engine new.ledger) → Flows d e old new
  barrier_flows w = record {
    passes = passes_call (FlushEntry (Ok tt)) d e old new w.call w.cache.calls w.cause.never_falls (λ _. flush_ends w.call.entry w.call.is) shape (λ sound array s. barrier_stands sound d e old new array shape s w);
    cached = λ sound array s. barrier_cached sound d e old new array shape s w;
    pages = w.call.pages;
    holds = w.cache.holds;
    held = λ q h. w.cache.kept q (table_held new.engine.cache q (omega (arith, h, w.cache.holds q)));
    queue = record {
      releases = ap (λ (x : QueueLists). map unmoved x.releases) w.fixed.queue ∙ stages_fixed old.ledger.queue.releases;
      limit = ap (λ (x : QueueLists). x.limit) w.fixed.queue;
    };
    room = record {
      spare_nodes = omega (arith, w.graph.spare_nodes);
      spare_edges = omega (arith, w.graph.spare_edges);
      changes = omega (arith, w.fixed.changes);
      nodes = omega (arith, w.graph.nodes);
      room = w.room;
    };
    recorded = λ s r. (and_parts _ _ (sym (w.fixed.births.recorded s) ∙ r)).0;
  }

  unfoldable pub failed_barrier_flows : BarrierFailed ledger_told (at d old.engine old.ledger) (at e new.engine new.ledger) → Flows d e old new
  failed_barrier_flows w = record {
    passes = passes_call (FlushEntry (Err w.failed)) d e old new w.call w.cache.calls w.cause.never_falls (not_calm w.failed d e w.cause) shape (λ sound array s. failed_barrier_stands sound d e old new array shape s w);
    cached = λ sound array s. failed_barrier_cached sound d e old new array shape s w;
    pages = w.call.pages;
    holds = w.cache.marks.holds;
    held = λ q h. w.cache.content q;
    queue = record { releases = ap (λ (l : Ledger). map unmoved l.queue.releases) w.watch; limit = ap (λ (l : Ledger). l.queue.limit) w.watch };
    room = record {
      spare_nodes = omega (arith, ap (λ (g : GraphLists). g.spare_nodes) w.graph);
      spare_edges = omega (arith, ap (λ (g : GraphLists). g.spare_edges) w.graph);
      changes = omega (arith, ap (λ (l : Ledger). l.births.spare) w.watch);
      nodes = omega (arith, ap node_count w.graph);
      room = w.room;
    };
    recorded = λ s r. ap (λ (l : Ledger). recorded_in l.births s) (sym w.watch) ∙ r;
  }
