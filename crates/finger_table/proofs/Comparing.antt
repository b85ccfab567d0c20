-- A sort by a comparison that answers by one test.
use Rattle.std.proofs.Common.{◌≡◌, ℕ, List, Bool, true, false, nat_lt, IsSortedBy, refl, ◌∙◌, ap, arith}
use Rattle.std.specs.Cmp.{IsStrictWeakOrder}
use Rattle.std.specs.Fn.{Called, ComparesAs}
use Rattle.std.specs.List.Sorted.{IsNonDecreasingBy}
use Rattle.std.specs.Ordering.{is_lt}
use Rattle.std.specs.declared.cmp.Ordering.{Ordering}
use Rattle.std.proofs.lemmas.Bool.{ltb-false}
use Rattle.std.proofs.lemmas.Fn.{always_returns_same}
use Rattle.std.proofs.lemmas.List.Sorted.{IsNonDecreasingBy-from_all_adjacent, IsStrictWeakOrder-by_number}
use Rattle.finger_table.specs.Order.{less_where}
use denote.Param.Members.{Mut}
use denote.Ref.{Bor}

tells_less : (b : Bool) → is_lt (less_where b) ≡ b
tells_less true = refl
tells_less false = refl

-- leaves the list in order
pub in_order_by_test : {X : Type 0} (n : X → ℕ) {F : Type 0} {g : Mut F (Bor X × (Bor X × Unit {0})) Ordering} {f : F} (xs : List X)
    → ((lt : X → X → Bool) → IsStrictWeakOrder lt → ComparesAs g lt f → IsSortedBy lt xs)
    → ((a : Bor X × (Bor X × Unit {0})) (r : Ordering) (f' : F) → Called g f a r f' → (r ≡ less_where (nat_lt (n a.0.now) (n a.1.0.now))) × (f' ≡ f)) → IsNonDecreasingBy n xs
in_order_by_test {X = X} n {g = g} {f = f} xs up h =
    let sorted : IsSortedBy (λ (x : X) (y : X). nat_lt (n x) (n y)) xs = up (λ x y. nat_lt (n x) (n y)) (IsStrictWeakOrder-by_number n)
    (always_returns_same g (λ a r. is_lt r ≡ nat_lt (n a.0.now) (n a.1.0.now)) f (λ a r f' k. (ap is_lt (h a r f' k).0 ∙ tells_less (nat_lt (n a.0.now) (n a.1.0.now)), (h a r f' k).1))) in
    IsNonDecreasingBy-from_all_adjacent n xs (λ k d lt. ltb-false _ _ (sorted k d (omega arith) lt))
