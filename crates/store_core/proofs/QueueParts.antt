-- The queue around one place: a release that was looked at, and one that left.
use Rattle.std.proofs.Common.{arith, ◌≡◌, inl, inr, ◌+◌, ◌≤◌, ℕ, zero, suc, Bool, false, refl, sym, ap, ◌∙◌, subst, List, [], ◌∷◌, ◌++◌, take, drop, Some}
use Rattle.std.specs.Prelude.{slice_get}
use Rattle.std.specs.List.{All, remove}
use Rattle.std.proofs.lemmas.List.{append_assoc, take-append-drop}
use Rattle.std.proofs.lemmas.List.Elements.{All-cons, All-nil}
use Rattle.release_queue.specs.declared.Release.{Release}
use Rattle.release_queue.specs.Queued.{is_marked, unmarked}
use Rattle.store_core.specs.Owed.{held_for, held_for_all}
use Rattle.store_core.specs.PassParts.{PartLeaves}
use Rattle.store_core.specs.Passing.{LeftOf, looked}

pub drop_at : (rs : List Release) (i : ℕ) (r : Release) → slice_get rs i ≡ Some r → drop i rs ≡ r ∷ drop (suc i) rs
drop_at [] i r e = cc
drop_at (x ∷ rs) zero r e = cc
drop_at (x ∷ rs) (suc i) r e = drop_at rs i r e

-- one that was looked at
pub take_looked : (rs : List Release) (i : ℕ) (r : Release) → slice_get rs i ≡ Some r → take (suc i) (unmarked i rs) ≡ take i rs ++ looked r ∷ []
unfolding unmarked
take_looked [] i r e = cc
take_looked (x ∷ rs) zero r e = let is : x ≡ r = cc in ap (λ (y : Release). looked y ∷ []) is
take_looked (x ∷ rs) (suc i) r e = ap (λ (l : List Release). x ∷ l) (take_looked rs i r e)

pub drop_looked : (rs : List Release) (i : ℕ) → drop (suc i) (unmarked i rs) ≡ drop (suc i) rs
unfolding unmarked
drop_looked [] i = refl
drop_looked (x ∷ rs) zero = refl
drop_looked (x ∷ rs) (suc i) = drop_looked rs i

pub held_looked : (rs : List Release) (i q : ℕ) → held_for_all (unmarked i rs) q ≡ held_for_all rs q
unfolding unmarked held_for_all
held_looked [] i q = refl
held_looked (x ∷ rs) zero q = refl
held_looked (x ∷ rs) (suc i) q = ap (λ n. held_for x q + n) (held_looked rs i q)

pub unmarked_same : (rs : List Release) (i : ℕ) → is_marked rs i ≡ false → unmarked i rs ≡ rs
unfolding unmarked is_marked
unmarked_same [] i h = refl
unmarked_same (x ∷ rs) zero h = ap (λ (b : Bool). record x { look = b } ∷ rs) (sym h)
unmarked_same (x ∷ rs) (suc i) h = ap (λ (l : List Release). x ∷ l) (unmarked_same rs i h)

pub marked_is : (rs : List Release) (i : ℕ) (r : Release) → slice_get rs i ≡ Some r → is_marked rs i ≡ r.look
unfolding is_marked
marked_is [] i r e = cc
marked_is (x ∷ rs) zero r e = let is : x ≡ r = cc in ap (λ (y : Release). y.look) is
marked_is (x ∷ rs) (suc i) r e = marked_is rs i r e

pub unmarked_here : (rs : List Release) (i : ℕ) → is_marked (unmarked i rs) i ≡ false
unfolding unmarked is_marked
unmarked_here [] i = refl
unmarked_here (x ∷ rs) zero = refl
unmarked_here (x ∷ rs) (suc i) = unmarked_here rs i

-- one that left
pub take_removed : (rs : List Release) (i : ℕ) (r : Release) → slice_get rs i ≡ Some r → take i (remove rs i) ≡ take i rs
take_removed [] i r e = cc
take_removed (x ∷ rs) zero r e = refl
take_removed (x ∷ rs) (suc i) r e = ap (λ (l : List Release). x ∷ l) (take_removed rs i r e)

pub drop_removed : (rs : List Release) (i : ℕ) (r : Release) → slice_get rs i ≡ Some r → drop i (remove rs i) ≡ drop (suc i) rs
drop_removed [] i r e = cc
drop_removed (x ∷ rs) zero r e = refl
drop_removed (x ∷ rs) (suc i) r e = drop_removed rs i r e

-- what each place has, all have
module _ (P : Release → Type 0) where
  pub all_from : (rs : List Release) → ((k : ℕ) (r : Release) → slice_get rs k ≡ Some r → P r) → All P rs
  all_from [] each = All-nil P
  all_from (x ∷ rs) each = All-cons P x rs (each zero x refl) (all_from rs (λ k r e. each (suc k) r e))

-- what is left of the queue
pub leaves_looked : (rs : List Release) (i : ℕ) (r : Release) → slice_get rs i ≡ Some r → PartLeaves i (suc i) rs (unmarked i rs)
leaves_looked rs i r e zs left = (
  looked r ∷ zs,
  subst (λ (l : List Release). LeftOf l (looked r ∷ zs)) (sym (drop_at rs i r e)) (inr (zs, refl, subst (λ (l : List Release). LeftOf l zs) (drop_looked rs i) left)),
  sym (ap (λ (l : List Release). l ++ zs) (take_looked rs i r e) ∙ append_assoc (take i rs) (looked r ∷ []) zs),
)

pub leaves_removed : (rs : List Release) (i : ℕ) (r : Release) → slice_get rs i ≡ Some r → PartLeaves i i rs (remove rs i)
leaves_removed rs i r e zs left = (
  zs,
  subst (λ (l : List Release). LeftOf l zs) (sym (drop_at rs i r e)) (inl (subst (λ (l : List Release). LeftOf l zs) (drop_removed rs i r e) left)),
  ap (λ (l : List Release). l ++ zs) (sym (take_removed rs i r e)),
)

pub leaves_then : (f t u : ℕ) (a b c : List Release) → PartLeaves f t a b → PartLeaves t u b c → PartLeaves f u a c
leaves_then f t u a b c x y zs left = let second = y zs left in let first = x second.0 second.1 in (first.0, first.1, first.2 ∙ second.2)

-- where none is marked from a place on, all stay
left_unmarked : (rs : List Release) → ((k : ℕ) → is_marked rs k ≡ false) → LeftOf rs rs
unfolding is_marked
left_unmarked [] off = refl
left_unmarked (x ∷ rs) off = inr (rs, ap (λ (b : Bool). record x { look = b } ∷ rs) (off zero), left_unmarked rs (λ k. off (suc k)))

marked_drop : (rs : List Release) (i k : ℕ) → is_marked (drop i rs) k ≡ is_marked rs (i + k)
unfolding is_marked
marked_drop rs zero k = ap (is_marked rs) (let e : k ≡ 0 + k = omega arith in e)
marked_drop [] (suc i) k = refl
marked_drop (x ∷ rs) (suc i) k = marked_drop rs i k ∙ ap (is_marked (x ∷ rs)) (let e : suc (i + k) ≡ suc i + k = omega arith in e)

pub left_whole : (old new : List Release) (to : ℕ) → PartLeaves 0 to old new → ((k : ℕ) → to ≤ k → is_marked new k ≡ false) → LeftOf old new
left_whole old new to x off =
    let last = x (drop to new) (left_unmarked (drop to new) (λ k. marked_drop new to k ∙ off (to + k) (omega arith))) in
    subst (λ (l : List Release). LeftOf old l) (last.2 ∙ take-append-drop to new) last.1
