-- Holds and room that are owed to queued releases.
use Rattle.std.proofs.Common.{arith, ◌≡◌, inl, inr, ◌<◌, ◌≤◌, ◌+◌, ℕ, zero, suc, cond, refl, sym, ap, ◌∙◌, subst, List, [], ◌∷◌, ◌++◌, map, take, drop, Some, eq-eqb, length}
use Rattle.std.specs.Prelude.{slice_get}
use Rattle.std.specs.List.{All, remove}
use Rattle.std.proofs.lemmas.Bool.{cases_eq}
use Rattle.std.proofs.lemmas.List.Elements.{All-cons, All-head, All-nil, All-tail}
use Rattle.std.proofs.lemmas.List.{length-append, length-map}
use Rattle.page_device.specs.Meaning.{Meaning}
use Rattle.page_cache.specs.View.{holds_in}
use Rattle.dep_graph.specs.Lists.{node_count}
use Rattle.release_queue.specs.declared.Release.{Release}
use Rattle.release_queue.specs.Queued.{QueueLists, after_change, unmarked}
use Rattle.flush_engine.specs.View.{EngineView}
use Rattle.store_core.specs.declared.Core.{Core}
use Rattle.store_core.specs.declared.ledger.Ledger.{Ledger}
use Rattle.store_core.specs.Applied.{AppliesRelease}
use Rattle.store_core.specs.Edits.{NamesBlock, is_name_unborn, named_in, owed, release_of}
use Rattle.store_core.specs.Frames.{SameHolds}
use Rattle.store_core.specs.Owed.{IsProvided, KeepsHolds, Spends, held_for, held_for_all}
use Rattle.store_core.specs.Quiet.{Flows, GivesBack, KeepsRoom, Quiet, none, once, unmoved}
use Rattle.store_core.specs.Room.{HasRoom}
use Rattle.store_core.proofs.Queued.{owed_none, owed_some, split_at}

-- what holds of each release holds of the one at a place
pub all_at : (P : Release → Type 0) (xs : List Release) (i : ℕ) (r : Release) → slice_get xs i ≡ Some r → All P xs → P r
all_at P [] i r e all = cc
all_at P (x ∷ xs) zero r e all = let is : x ≡ r = cc in subst P is (All-head P x xs all)
all_at P (x ∷ xs) (suc i) r e all = all_at P xs i r e (All-tail P x xs all)

-- of a list that was put together, and of one from which a release was taken
pub held_append : (xs ys : List Release) (q : ℕ) → held_for_all (xs ++ ys) q ≡ held_for_all xs q + held_for_all ys q
unfolding held_for_all
held_append [] ys q = omega arith
held_append (x ∷ xs) ys q = let e = held_append xs ys q in omega (arith, e)

pub held_pushed : (xs : List Release) (r : Release) (q : ℕ) → held_for_all (xs ++ r ∷ []) q ≡ held_for_all xs q + held_for r q
unfolding held_for_all
held_pushed xs r q = let e = held_append xs (r ∷ []) q in omega (arith, e)

pub held_removed : (xs : List Release) (i : ℕ) (r : Release) (q : ℕ) → slice_get xs i ≡ Some r → held_for_all xs q ≡ held_for_all (remove xs i) q + held_for r q
unfolding held_for_all
held_removed xs i r q at =
    let split = ap (λ (l : List Release). held_for_all l q) (split_at xs i r at) in
    let whole = held_append (take i xs) (r ∷ drop (suc i) xs) q in
    let less = held_append (take i xs) (drop (suc i) xs) q in
    omega (arith, split, whole, less)

pub length_removed : (xs : List Release) (i : ℕ) (r : Release) → slice_get xs i ≡ Some r → length xs ≡ length (remove xs i) + 1
length_removed xs i r at =
    let split = ap (λ (l : List Release). length l) (split_at xs i r at) in
    let whole = length-append (take i xs) (r ∷ drop (suc i) xs) in
    let less = length-append (take i xs) (drop (suc i) xs) in
    omega (arith, split, whole, less)

-- stages and marks do not count
held_as : (xs : List Release) (q : ℕ) → held_for_all (map unmoved xs) q ≡ held_for_all xs q
unfolding held_for_all
held_as [] q = refl
held_as (x ∷ xs) q = ap (λ (n : ℕ). held_for x q + n) (held_as xs q)

pub held_same : (xs ys : List Release) (q : ℕ) → map unmoved xs ≡ map unmoved ys → held_for_all xs q ≡ held_for_all ys q
held_same xs ys q e = sym (held_as xs q) ∙ ap (λ (l : List Release). held_for_all l q) e ∙ held_as ys q

pub length_same : (xs ys : List Release) → map unmoved xs ≡ map unmoved ys → length xs ≡ length ys
length_same xs ys e = sym (length-map xs unmoved) ∙ ap (λ (l : List Release). length l) e ∙ length-map ys unmoved

pub held_changed : (p : ℕ) (xs : List Release) (q : ℕ) → held_for_all (map (after_change p) xs) q ≡ held_for_all xs q
unfolding held_for_all
held_changed p [] q = refl
held_changed p (x ∷ xs) q = ap (λ (n : ℕ). held_for x q + n) (held_changed p xs q)

-- the pages of a release are held
abbrev pub HasPages : (ℕ → ℕ) → Release → Type 0
HasPages holds r = (0 < holds r.count_at) × (0 < holds r.print_at)

once_here : (q : ℕ) → once q q ≡ 1
once_here q = ap (λ b. cond b 1 0) (eq-eqb q q refl)

pub pages_held : (rs : List Release) (holds : ℕ → ℕ) → ((q : ℕ) → held_for_all rs q ≤ holds q) → All (HasPages holds) rs
unfolding held_for_all
pages_held [] holds h = All-nil (HasPages holds)
pages_held (r ∷ rs) holds h = All-cons (HasPages holds) r rs (
  (let a = h r.count_at in let one = once_here r.count_at in omega (arith, a, one)),
  (let a = h r.print_at in let one = once_here r.print_at in omega (arith, a, one)),
)
    (pages_held rs holds (λ q. let a = h q in omega (arith, a)))

-- no more releases, holds enough and as much room
still_provided : (old new : Core) → ((q : ℕ) → held_for_all new.ledger.queue.releases q ≤ holds_in new.engine.cache q) → length new.ledger.queue.releases ≡ length old.ledger.queue.releases → KeepsRoom old new → IsProvided old → IsProvided new
still_provided old new holds few room p =
    let a = p.spare_nodes in let b = p.spare_edges in let c = p.changes in let d = p.nodes in
    let x = room.spare_nodes in let y = room.spare_edges in let z = room.changes in let u = room.nodes in let v = room.room in
    record {
      holds_owed = holds;
      spare_nodes = omega (arith, a, x, few);
      spare_edges = omega (arith, b, y, few);
      changes = omega (arith, c, z, few);
      nodes = omega (arith, d, u, v, few);
    }

pub quiet_provided : (more : ℕ → ℕ) (d e : Meaning) (old new : Core) → IsProvided old → Quiet more d e old new → IsProvided new
quiet_provided more d e old new p k = still_provided old new
    (λ q. let same = ap (λ (x : QueueLists). held_for_all x.releases q) k.rest.queue in let was = p.holds_owed q in let now = k.holds q in omega (arith, same, was, now))
    (ap (λ (x : QueueLists). length x.releases) k.rest.queue) k.rest.room p

pub back_provided : (less : ℕ → ℕ) (old new : Core) → IsProvided old → GivesBack less old new → ((q : ℕ) → held_for_all new.ledger.queue.releases q ≤ holds_in new.engine.cache q) → IsProvided new
back_provided less old new p k holds = still_provided old new holds (ap (λ (x : QueueLists). length x.releases) k.rest.queue) k.rest.room p

pub flows_provided : (d e : Meaning) (old new : Core) → IsProvided old → Flows d e old new → IsProvided new
flows_provided d e old new p k = still_provided old new
    (λ q. let same = held_same new.ledger.queue.releases old.ledger.queue.releases q k.queue.releases in let was = p.holds_owed q in let now = k.holds q in omega (arith, same, was, now))
    (length_same new.ledger.queue.releases old.ledger.queue.releases k.queue.releases) k.room p

-- holds that move with the queue
pub owed_moves : (old new : Core) → KeepsHolds old new → ((q : ℕ) → held_for_all old.ledger.queue.releases q ≤ holds_in old.engine.cache q) → (q : ℕ) → held_for_all new.ledger.queue.releases q ≤ holds_in new.engine.cache q
owed_moves old new k h q = let a = k.holds q in let b = h q in omega (arith, a, b)

pub holds_then : (a b c : Core) → KeepsHolds a b → KeepsHolds b c → KeepsHolds a c
holds_then a b c h k = record { holds = λ q. let x = h.holds q in let y = k.holds q in omega (arith, x, y) }

pub holds_quiet : (d e : Meaning) (old new : Core) → Quiet none d e old new → KeepsHolds old new
holds_quiet d e old new k = record { holds = λ q. let same = ap (λ (x : QueueLists). held_for_all x.releases q) k.rest.queue in let now = k.holds q in omega (arith, same, now) }

pub holds_flow : (d e : Meaning) (old new : Core) → Flows d e old new → KeepsHolds old new
holds_flow d e old new k = record { holds = λ q. let same = held_same new.ledger.queue.releases old.ledger.queue.releases q k.queue.releases in let now = k.holds q in omega (arith, same, now) }

pub holds_same : (old new : Core) → SameHolds old new → new.ledger.queue.releases ≡ old.ledger.queue.releases → KeepsHolds old new
holds_same old new k queue = record { holds = λ q. let same = ap (λ (l : List Release). held_for_all l q) queue in let now = k.holds q in omega (arith, same, now) }

pub owed_more : (more : ℕ → ℕ) (old new : Core) → ((q : ℕ) → holds_in new.engine.cache q ≡ holds_in old.engine.cache q + more q) → new.ledger.queue.releases ≡ old.ledger.queue.releases
    → ((q : ℕ) → held_for_all old.ledger.queue.releases q ≤ holds_in old.engine.cache q) → (q : ℕ) → held_for_all new.ledger.queue.releases q ≤ holds_in new.engine.cache q
owed_more more old new holds queue h q = let same = ap (λ (l : List Release). held_for_all l q) queue in let now = holds q in let was = h q in omega (arith, same, now, was)

-- what was reserved for a command, of which it took no more than it asked, is enough for one release more
pub spent_provided : (nodes edges changes : ℕ) (old new : Core) → HasRoom nodes edges changes old → Spends nodes edges changes old new → length new.ledger.queue.releases ≤ length old.ledger.queue.releases + 1
    → ((q : ℕ) → held_for_all new.ledger.queue.releases q ≤ holds_in new.engine.cache q) → IsProvided new
spent_provided nodes edges changes old new room spent few holds =
    let a = room.within in let b = room.nodes_fit in let c = room.edges_fit in let d = room.changes_fit in
    let x = spent.engine.spare_nodes in let y = spent.engine.spare_edges in let z = spent.engine.count in let u = spent.engine.room in let v = spent.births in
    record {
      holds_owed = holds;
      spare_nodes = omega (arith, b, x, few);
      spare_edges = omega (arith, c, y, few);
      changes = omega (arith, d, v, few);
      nodes = omega (arith, a, z, u, few);
    }

-- a release that was applied took of what was there for it
pub applied_left : (i : ℕ) (r : Release) (old new : Core) → IsProvided old → slice_get old.ledger.queue.releases i ≡ Some r → AppliesRelease i r old new
    → (q : ℕ) → held_for_all new.ledger.queue.releases q + held_for r q ≤ holds_in new.engine.cache q
applied_left i r old new p at x q =
    let same = ap (λ (l : QueueLists). held_for_all l.releases q) x.queue in
    let less = held_removed old.ledger.queue.releases i r q at in
    let was = p.holds_owed q in let now = x.holds q in
    omega (arith, same, less, was, now)

pub applied_provided : (i : ℕ) (r : Release) (old new : Core) → IsProvided old → slice_get old.ledger.queue.releases i ≡ Some r → AppliesRelease i r old new → IsProvided new
applied_provided i r old new p at x =
    let few = length_removed old.ledger.queue.releases i r at in
    let now = ap (λ (l : QueueLists). length l.releases) x.queue in
    let a = p.spare_nodes in let b = p.spare_edges in let c = p.changes in let d = p.nodes in
    let s = x.takes.spare_nodes in let t = x.takes.spare_edges in let u = x.takes.count in let v = x.takes.room in let w = x.changes in
    record {
      holds_owed = λ q. let left = applied_left i r old new p at x q in omega (arith, left);
      spare_nodes = omega (arith, a, s, few, now);
      spare_edges = omega (arith, b, t, few, now);
      changes = omega (arith, c, w, few, now);
      nodes = omega (arith, d, u, v, few, now);
    }

-- a mark that is set or taken away, and a release that leaves
pub held_unmarked : (i : ℕ) (rs : List Release) (q : ℕ) → held_for_all (unmarked i rs) q ≡ held_for_all rs q
unfolding held_for_all unmarked
held_unmarked i [] q = refl
held_unmarked zero (r ∷ rs) q = refl
held_unmarked (suc i) (r ∷ rs) q = ap (λ (n : ℕ). held_for r q + n) (held_unmarked i rs q)

pub length_unmarked : (i : ℕ) (rs : List Release) → length (unmarked i rs) ≡ length rs
unfolding unmarked
length_unmarked i [] = refl
length_unmarked zero (r ∷ rs) = refl
length_unmarked (suc i) (r ∷ rs) = ap (λ (n : ℕ). suc n) (length_unmarked i rs)

-- another queue for which no more is owed
module _ (old new : Core) (engine : new.engine ≡ old.engine) (births : new.ledger.births ≡ old.ledger.births) where
  pub queue_provided : ((q : ℕ) → held_for_all new.ledger.queue.releases q ≤ held_for_all old.ledger.queue.releases q) → length new.ledger.queue.releases ≤ length old.ledger.queue.releases → IsProvided old → IsProvided new
  queue_provided less few p =
      let a = p.spare_nodes in let b = p.spare_edges in let c = p.changes in let d = p.nodes in
      record {
        holds_owed = λ q. let x = less q in let y = p.holds_owed q in let z = ap (λ (e : EngineView). holds_in e.cache q) engine in omega (arith, x, y, z);
        spare_nodes = let z = ap (λ (e : EngineView). e.graph.spare_nodes) engine in omega (arith, a, few, z);
        spare_edges = let z = ap (λ (e : EngineView). e.graph.spare_edges) engine in omega (arith, b, few, z);
        changes = let z = ap (λ b. b.spare) births in omega (arith, c, few, z);
        nodes = let z = ap (λ (e : EngineView). node_count e.graph) engine in let w = ap (λ (e : EngineView). e.room) engine in omega (arith, d, few, z, w);
      }

  pub again_provided : (p : ℕ) → new.ledger.queue.releases ≡ map (after_change p) old.ledger.queue.releases → IsProvided old → IsProvided new
  again_provided p e = queue_provided
      (λ q. let x = ap (λ (l : List Release). held_for_all l q) e in let y = held_changed p old.ledger.queue.releases q in omega (arith, x, y))
      (let x = ap (λ (l : List Release). length l) e in let y = length-map old.ledger.queue.releases (after_change p) in omega (arith, x, y))

  pub look_provided : (i : ℕ) → new.ledger.queue.releases ≡ unmarked i old.ledger.queue.releases → IsProvided old → IsProvided new
  look_provided i e = queue_provided
      (λ q. let x = ap (λ (l : List Release). held_for_all l q) e in let y = held_unmarked i old.ledger.queue.releases q in omega (arith, x, y))
      (let x = ap (λ (l : List Release). length l) e in let y = length_unmarked i old.ledger.queue.releases in omega (arith, x, y))

  pub out_provided : (i : ℕ) (r : Release) → slice_get old.ledger.queue.releases i ≡ Some r → new.ledger.queue.releases ≡ remove old.ledger.queue.releases i → IsProvided old → IsProvided new
  out_provided i r at e = queue_provided
      (λ q. let x = ap (λ (l : List Release). held_for_all l q) e in let y = held_removed old.ledger.queue.releases i r q at in omega (arith, x, y))
      (let x = ap (λ (l : List Release). length l) e in let y = length_removed old.ledger.queue.releases i r at in omega (arith, x, y))

  pub out_left : (i : ℕ) (r : Release) → slice_get old.ledger.queue.releases i ≡ Some r → new.ledger.queue.releases ≡ remove old.ledger.queue.releases i → IsProvided old
      → (q : ℕ) → held_for_all new.ledger.queue.releases q + held_for r q ≤ holds_in new.engine.cache q
  out_left i r at e p q =
      let x = ap (λ (l : List Release). held_for_all l q) e in let y = held_removed old.ledger.queue.releases i r q at in let z = ap (λ (v : EngineView). holds_in v.cache q) engine in let w = p.holds_owed q in
      omega (arith, x, y, z, w)

-- a block that took another name owes a release of the old one, if there was one
module _ (block p : ℕ) (old new : Core) (k : NamesBlock block p old new) where
  abbrev more : Release
  more = release_of old.shape block (named_in old block) (is_name_unborn old block)

  releases_are : new.ledger.queue.releases ≡ owed old.shape (is_name_unborn old block) block (named_in old block) old.ledger.queue.releases
  releases_are = ap (λ (l : Ledger). l.queue.releases) k.ledger

  pub named_some : (named_in old block ≡ 0 → ⊥) → (q : ℕ) → held_for_all new.ledger.queue.releases q ≡ held_for_all old.ledger.queue.releases q + held_for more q
  named_some ne q = ap (λ (l : List Release). held_for_all l q) (releases_are ∙ owed_some old.shape (is_name_unborn old block) block (named_in old block) old.ledger.queue.releases ne) ∙ held_pushed old.ledger.queue.releases more q

  pub named_none : named_in old block ≡ 0 → new.ledger.queue.releases ≡ old.ledger.queue.releases
  named_none e = releases_are ∙ owed_none old.shape (is_name_unborn old block) block (named_in old block) old.ledger.queue.releases e

  pub named_length : length new.ledger.queue.releases ≤ length old.ledger.queue.releases + 1
  named_length = elim (cases_eq (named_in old block) 0) [
    | inl z ↦ let e = ap (λ (l : List Release). length l) (named_none z) in omega (arith, e)
    | inr ne ↦
        let e = ap (λ (l : List Release). length l) (releases_are ∙ owed_some old.shape (is_name_unborn old block) block (named_in old block) old.ledger.queue.releases ne) in
        let n = length-append old.ledger.queue.releases (more ∷ []) in
        omega (arith, e, n)
  ]
