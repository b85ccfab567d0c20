-- Edits of the queue, beside an edit of a page.
use Rattle.std.proofs.Common.{◌≡◌, inl, inr, ◌<◌, ◌≤◌, ℕ, zero, suc, Bool, true, false, cond, refl, sym, ap, ◌∙◌, List, [], ◌∷◌, ◌++◌, map, take, drop, Some, eqb, eq-eqb, ne_eqb}
use Rattle.std.specs.Prelude.{slice_get}
use Rattle.std.specs.List.{All, remove}
use Rattle.std.proofs.lemmas.List.{map-append}
use Rattle.std.proofs.lemmas.List.Elements.{All-append, All-cons, All-drop, All-head, All-nil, All-tail, All-take}
use Rattle.page_device.specs.Meaning.{Meaning}
use Rattle.page_layout.specs.Shape.{ShapeView}
use Rattle.page_cache.specs.View.{CacheView}
use Rattle.dep_graph.specs.Lists.{GraphLists}
use Rattle.order_model.specs.World as plain
use Rattle.order_model.specs.World.{Queued}
use Rattle.release_queue.specs.Queued.{QueueLists}
use Rattle.release_queue.specs.declared.Release.{Release}
use Rattle.store_core.specs.Edits.{owed, plain_owed, release_of}
use Rattle.store_core.specs.Views.{plain_release, world_in}
use Rattle.store_core.specs.Whole.{IsPlaced}

pub split_at : (xs : List Release) (i : ℕ) (r : Release) → slice_get xs i ≡ Some r → xs ≡ take i xs ++ r ∷ drop (suc i) xs
split_at [] i r e = cc
split_at (x ∷ xs) zero r e = cc
split_at (x ∷ xs) (suc i) r e = ap (λ (l : List Release). x ∷ l) (split_at xs i r e)

-- the release at a place
pub placed_at : (shape : ShapeView) (xs : List Release) (i : ℕ) (r : Release) → slice_get xs i ≡ Some r → All (IsPlaced shape) xs → IsPlaced shape r
placed_at shape [] i r e all = cc
placed_at shape (x ∷ xs) zero r e all = let is : x ≡ r = cc in subst_placed is
  where
    subst_placed : x ≡ r → IsPlaced shape r
    subst_placed is = Rattle.std.proofs.Common.subst (IsPlaced shape) is (All-head (IsPlaced shape) x xs all)
placed_at shape (x ∷ xs) (suc i) r e all = placed_at shape xs i r e (All-tail (IsPlaced shape) x xs all)

pub placed_removed : (shape : ShapeView) (i : ℕ) (rs : List Release) → All (IsPlaced shape) rs → All (IsPlaced shape) (remove rs i)
placed_removed shape i rs all = All-append (IsPlaced shape) (take i rs) (drop (suc i) rs) (All-take (IsPlaced shape) i rs all) (All-drop (IsPlaced shape) (suc i) rs all)

pub placed_pushed : (shape : ShapeView) (rs : List Release) (block p : ℕ) (unborn : Bool) → block < shape.blocks → 1 ≤ p → p ≤ shape.pages → All (IsPlaced shape) rs → All (IsPlaced shape) (rs ++ release_of shape block p unborn ∷ [])
placed_pushed shape rs block p unborn lt first last all = All-append (IsPlaced shape) rs (release_of shape block p unborn ∷ []) all
    (All-cons (IsPlaced shape) (release_of shape block p unborn) [] (record { block = lt; first = first; last = last; map_at = refl; count_at = refl; print_at = refl }) (All-nil (IsPlaced shape)))

-- the same state with another queue
pub queue_world : (d : Meaning) (cache : CacheView) (graph : GraphLists) (queue after : QueueLists) (rs : List plain.Release) → map plain_release after.releases ≡ rs
    → world_in d cache graph after ≡ record (world_in d cache graph queue) { queue = rs }
queue_world d cache graph queue after rs e = ap (λ (x : List plain.Release). record (world_in d cache graph queue) { queue = x }) e

-- a release is owed where there was a page
pub owed_some : (shape : ShapeView) (u : Bool) (block o : ℕ) (q : List Release) → (o ≡ 0 → ⊥) → owed shape u block o q ≡ q ++ release_of shape block o u ∷ []
owed_some shape u block o q ne = ap (λ (b : Bool). cond b q (q ++ release_of shape block o u ∷ [])) (ne_eqb o 0 ne)

pub owed_none : (shape : ShapeView) (u : Bool) (block o : ℕ) (q : List Release) → o ≡ 0 → owed shape u block o q ≡ q
owed_none shape u block o q e = ap (λ (b : Bool). cond b q (q ++ release_of shape block o u ∷ [])) (eq-eqb o 0 e)

pub owed_plain : (shape : ShapeView) (u : Bool) (block o : ℕ) (q : List Release) → map plain_release (owed shape u block o q) ≡ plain_owed u block o (map plain_release q)
owed_plain shape u block o q = by (eqb o 0)
  where
    by : (b : Bool) → map plain_release (cond b q (q ++ release_of shape block o u ∷ [])) ≡ cond b (map plain_release q) (map plain_release q ++ (record { block = block; page = o; stage = cond u 3 0 }) ∷ [])
    by true = refl
    by false = map-append plain_release q (release_of shape block o u ∷ [])

-- the release at a place is queued, as the plain state has it
pub queued_at : (xs : List Release) (i : ℕ) (r : Release) (stage : ℕ) → slice_get xs i ≡ Some r → r.stage ≡ stage → Queued (map plain_release xs) r.block r.page stage
queued_at [] i r stage e is = cc
queued_at (x ∷ xs) zero r stage e is = let same : x ≡ r = cc in inl (ap (λ (s : Release). s.block) same, ap (λ (s : Release). s.page) same, ap (λ (s : Release). s.stage) same ∙ is)
queued_at (x ∷ xs) (suc i) r stage e is = inr (queued_at xs i r stage e is)
