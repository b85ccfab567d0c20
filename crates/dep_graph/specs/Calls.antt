-- What becomes of a graph where a page was written, where a barrier was made, and where a page was dropped.
use Rattle.std.specs.Prelude.{◌≡◌, ℕ, ◌+◌, ◌-◌, ◌&&◌, ◌||◌, not, false, [], eqb, length, if◌then◌else◌}
use Rattle.dep_graph.specs.Lists.{GraphLists, IsGraph, barred_in, dirty_in, hung_in, live_in, node_count, waiter_count}

-- A page was written: it is hung and not dirty, and its outgoing Live edges wait for a barrier alone. So no page waits for its write any more, and as many as before for that of each other page.
pub record Wrote (page : ℕ) (old new : GraphLists) : Type 0 where
  pub dirty : (a : ℕ) → dirty_in new a ≡ (dirty_in old a && not (eqb a page))
  pub hung : (a : ℕ) → hung_in new a ≡ (hung_in old a || eqb a page)
  pub live : (a b : ℕ) → live_in new a b ≡ (live_in old a b && not (eqb a page))
  pub barred : (a b : ℕ) → barred_in new a b ≡ (barred_in old a b || (live_in old a b && eqb a page))
  pub waiters : (a : ℕ) → waiter_count new a ≡ (if eqb a page then 0 else waiter_count old a)
  pub spare_nodes : new.spare_nodes ≡ old.spare_nodes
  pub spare_edges : new.spare_edges ≡ old.spare_edges
  pub graph : IsGraph new
  pub nodes : node_count new ≡ node_count old
  pub marked : length new.dirty + 1 ≡ length old.dirty

-- A barrier was made: all hung marks and all Barrier edges went, and each page without a mark is no node any more. As many pages as before wait for the write of each.
pub record Fixed (old new : GraphLists) : Type 0 where
  pub dirty : new.dirty ≡ old.dirty
  pub hung : new.hung ≡ []
  pub live : (a b : ℕ) → live_in new a b ≡ live_in old a b
  pub barred : (a b : ℕ) → barred_in new a b ≡ false
  pub waiters : (a : ℕ) → waiter_count new a ≡ waiter_count old a
  pub spare_nodes : new.spare_nodes ≡ old.spare_nodes
  pub spare_edges : new.spare_edges ≡ old.spare_edges
  pub graph : IsGraph new
  pub nodes : node_count new ≡ length old.dirty

-- A page lost its dirty mark, if it had one, and its outgoing Live edges. Where it is hung it is a node still. No page waits for it any more, and as many as before for each other page.
pub record Dropped (page : ℕ) (old new : GraphLists) : Type 0 where
  pub dirty : (a : ℕ) → dirty_in new a ≡ (dirty_in old a && not (eqb a page))
  pub hung : new.hung ≡ old.hung
  pub live : (a b : ℕ) → live_in new a b ≡ (live_in old a b && not (eqb a page))
  pub barred : (a b : ℕ) → barred_in new a b ≡ barred_in old a b
  pub waiters : (a : ℕ) → waiter_count new a ≡ (if eqb a page then 0 else waiter_count old a)
  pub spare_nodes : new.spare_nodes ≡ old.spare_nodes
  pub spare_edges : new.spare_edges ≡ old.spare_edges
  pub graph : IsGraph new
  pub nodes : node_count new ≡ (if dirty_in old page && not (hung_in old page) then node_count old - 1 else node_count old)
  pub marked : length new.dirty ≡ (if dirty_in old page then length old.dirty - 1 else length old.dirty)
