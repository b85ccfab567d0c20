-- What each step takes of nodes, edges and changes.
use Rattle.std.proofs.Common.{arith, ◌≡◌, ◌≤◌, ◌+◌, ◌-◌, ℕ, Bool, true, false, cond, refl, sym, ap, subst, List, Option}
use Rattle.page_device.specs.Meaning.{Meaning}
use Rattle.dep_graph.specs.Lists.{GraphLists, entered, is_node, node_count}
use Rattle.flush_engine.specs.Edits.{Ordered}
use Rattle.flush_engine.specs.View.{EngineView}
use Rattle.store_core.specs.declared.Core.{Core}
use Rattle.store_core.specs.declared.ledger.Ledger.{Ledger}
use Rattle.store_core.specs.Applied.{Takes}
use Rattle.store_core.specs.Edits.{Barred, NamesBlock, RaisesCount}
use Rattle.store_core.specs.Frames.{OnlyEngine, OnlyPage}
use Rattle.page_device.specs.Block.{Block}
use Rattle.store_core.specs.Owed.{Spends}
use Rattle.store_core.specs.Printed.{PrintsPage}
use Rattle.store_core.specs.Quiet.{Flows, GivesBack, KeepsRoom, Quiet}
use Rattle.store_core.proofs.Grown.{takes_barred, takes_more, takes_none, takes_ordered, takes_then}

pub spends_none : (a : Core) → Spends 0 0 0 a a
spends_none a = record { engine = takes_none a.engine; births = omega arith }

pub spends_then : (n e c m f k : ℕ) (x y z : Core) → Spends n e c x y → Spends m f k y z → Spends (n + m) (e + f) (c + k) x z
spends_then n e c m f k x y z s t = record {
  engine = takes_then n e m f x.engine y.engine z.engine s.engine t.engine;
  births = let a = s.births in let b = t.births in omega (arith, a, b);
}

pub spends_more : (n e c m f k : ℕ) (x y : Core) → n ≤ m → e ≤ f → c ≤ k → Spends n e c x y → Spends m f k x y
spends_more n e c m f k x y nm ef ck s = record {
  engine = takes_more n e m f x.engine y.engine s.engine nm ef;
  births = let a = s.births in omega (arith, a, ck);
}

room_spends : (old new : Core) → KeepsRoom old new → Spends 0 0 0 old new
room_spends old new k = let a = k.spare_nodes in let b = k.spare_edges in let c = k.nodes in let d = k.changes in record {
  engine = record { spare_nodes = omega (arith, a); spare_edges = omega (arith, b); count = omega (arith, c); room = k.room };
  births = omega (arith, d);
}

pub quiet_spends : (more : ℕ → ℕ) (d e : Meaning) (old new : Core) → Quiet more d e old new → Spends 0 0 0 old new
quiet_spends more d e old new k = room_spends old new k.rest.room

pub back_spends : (less : ℕ → ℕ) (old new : Core) → GivesBack less old new → Spends 0 0 0 old new
back_spends less old new k = room_spends old new k.rest.room

pub flows_spend : (d e : Meaning) (old new : Core) → Flows d e old new → Spends 0 0 0 old new
flows_spend d e old new k = room_spends old new k.room

same_changes : (old new : Core) → new.ledger ≡ old.ledger → old.ledger.births.spare ≤ new.ledger.births.spare + 0
same_changes old new ledger = let e = ap (λ (l : Ledger). l.births.spare) ledger in omega (arith, e)

one_less : (b : Bool) (k : ℕ) → k ≤ cond b k (k - 1) + 1
one_less true k = omega arith
one_less false k = omega arith

-- a page that is dirty now
pub enter_spends : (page : ℕ) (old new : Core) → new.engine.graph ≡ entered page old.engine.graph → node_count new.engine.graph ≤ node_count old.engine.graph + 1 → OnlyEngine old new → Spends 1 0 0 old new
enter_spends page old new graph nodes only = record {
  engine = record {
    spare_nodes = subst (λ (g : GraphLists). old.engine.graph.spare_nodes ≤ g.spare_nodes + 1) (sym graph) (one_less (is_node old.engine.graph page) old.engine.graph.spare_nodes);
    spare_edges = let e = ap (λ (g : GraphLists). g.spare_edges) graph in omega (arith, e);
    count = nodes;
    room = only.room;
  };
  births = same_changes old new only.ledger;
}

pub order_spends : (before after : ℕ) (old new : Core) → Ordered before after old.engine.graph new.engine.graph → node_count new.engine.graph ≡ node_count old.engine.graph → OnlyEngine old new → Spends 0 1 0 old new
order_spends before after old new edge nodes only = record { engine = takes_ordered before after old.engine new.engine edge nodes only.room; births = same_changes old new only.ledger }

pub bar_spends : (before after : ℕ) (old new : Core) → Barred before after old.engine.graph new.engine.graph → node_count new.engine.graph ≡ node_count old.engine.graph → OnlyEngine old new → Spends 0 1 0 old new
bar_spends before after old new edge nodes only = record { engine = takes_barred before after old.engine new.engine edge nodes only.room; births = same_changes old new only.ledger }

-- one page has another content
edit_takes : (at : ℕ) (block : Block) (old new : Core) → OnlyPage at block old new → Takes 0 0 old.engine new.engine
edit_takes at block old new only = subst (λ (e : EngineView). Takes 0 0 old.engine e) (sym only.engine)
    (let t = takes_none old.engine in record { spare_nodes = t.spare_nodes; spare_edges = t.spare_edges; count = t.count; room = refl })

pub raise_spends : (p : ℕ) (old new : Core) → RaisesCount p old new → Spends 0 0 0 old new
raise_spends p old new k = record {
  engine = edit_takes _ k.page old new k.only;
  births = let e = ap (λ (l : Ledger). l.births.spare) k.ledger in omega (arith, e);
}

pub name_spends : (block p : ℕ) (old new : Core) → NamesBlock block p old new → Spends 0 0 1 old new
name_spends block p old new k = record { engine = edit_takes _ k.page old new k.only; births = let e = k.spare in omega (arith, e) }

pub print_spends : (p : ℕ) (print : Option (List ℕ)) (old new : Core) → PrintsPage p print old new → Spends 0 0 1 old new
print_spends p print old new k = record { engine = edit_takes _ k.page old new k.only; births = let e = k.spare in omega (arith, e) }
