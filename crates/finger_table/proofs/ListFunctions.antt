-- The lists of pages as functions of their number.
use Rattle.std.proofs.lemmas.Bool.{cases_eq, cases_lt}
use Rattle.std.proofs.Math.ListN.{get_or-eq_default}
use Rattle.std.proofs.Common.{◌≡◌, ◌≢◌, ⊎_elim, subst, ◌++◌, ltb-true, lt-ltb, Option, Some, None, ℕ, zero, suc, ◌<◌, ◌≤◌, true, List, [], ◌∷◌, length, refl, sym, ◌∙◌, ap, arith, get_or, set, Vec, vec_len, vec_capacity, nat_lt}
use Rattle.finger_table.specs.Order.{print_in, bucket_of}
use Rattle.finger_table.specs.Index.{list_at, has_room, rooms_of, IsIndexed, StandsIn}

module _ {A : Type 0} where
  -- the list that an index gives
  pub list_at_index : (vs : List (Vec ℕ A)) (b : ℕ) (v : Vec ℕ A) → b < length vs → v ≡ get_or vs b v → list_at vs b ≡ v.items
  unfolding list_at
  list_at_index [] b v lt is = absurd (omega arith)
  list_at_index (w ∷ vs) zero v lt is = ap (λ (u : Vec ℕ A). u.items) (sym is)
  list_at_index (w ∷ vs) (suc b) v lt is = list_at_index vs b v (omega arith) is

  -- a list is replaced
  pub list_at_set : (vs : List (Vec ℕ A)) (b : ℕ) (v : Vec ℕ A) → b < length vs → list_at (set vs b v) b ≡ v.items
  unfolding list_at
  list_at_set [] b v lt = absurd (omega arith)
  list_at_set (w ∷ vs) zero v lt = refl
  list_at_set (w ∷ vs) (suc b) v lt = list_at_set vs b v (omega arith)

  -- and each other list stays
  pub list_at_other : (vs : List (Vec ℕ A)) (b k : ℕ) (v : Vec ℕ A) → k ≢ b → list_at (set vs b v) k ≡ list_at vs k
  unfolding list_at
  list_at_other [] b k v apart = refl
  list_at_other (w ∷ vs) zero zero v apart = absurd (apart refl)
  list_at_other (w ∷ vs) zero (suc k) v apart = refl
  list_at_other (w ∷ vs) (suc b) zero v apart = refl
  list_at_other (w ∷ vs) (suc b) (suc k) v apart = list_at_other vs b k v (λ is. apart (ap suc is))

  -- the same of the room
  pub has_room_index : (vs : List (Vec ℕ A)) (b : ℕ) (v : Vec ℕ A) → b < length vs → v ≡ get_or vs b v → has_room vs b ≡ nat_lt (vec_len v) (vec_capacity v)
  unfolding rooms_of
  has_room_index [] b v lt is = absurd (omega arith)
  has_room_index (w ∷ vs) zero v lt is = ap (λ (u : Vec ℕ A). nat_lt (vec_len u) (vec_capacity u)) (sym is)
  has_room_index (w ∷ vs) (suc b) v lt is = has_room_index vs b v (omega arith) is

  pub has_room_set : (vs : List (Vec ℕ A)) (b : ℕ) (v : Vec ℕ A) → b < length vs → has_room (set vs b v) b ≡ nat_lt (vec_len v) (vec_capacity v)
  unfolding rooms_of
  has_room_set [] b v lt = absurd (omega arith)
  has_room_set (w ∷ vs) zero v lt = refl
  has_room_set (w ∷ vs) (suc b) v lt = has_room_set vs b v (omega arith)

  pub has_room_other : (vs : List (Vec ℕ A)) (b k : ℕ) (v : Vec ℕ A) → k ≢ b → has_room (set vs b v) k ≡ has_room vs k
  unfolding rooms_of
  has_room_other [] b k v apart = refl
  has_room_other (w ∷ vs) zero zero v apart = absurd (apart refl)
  has_room_other (w ∷ vs) zero (suc k) v apart = refl
  has_room_other (w ∷ vs) (suc b) zero v apart = refl
  has_room_other (w ∷ vs) (suc b) (suc k) v apart = has_room_other vs b k v (λ is. apart (ap suc is))

  -- room needs a list
  pub room_within : (vs : List (Vec ℕ A)) (b : ℕ) → has_room vs b ≡ true → b < length vs
  unfolding rooms_of
  room_within [] b is = absurd cc
  room_within (w ∷ vs) zero is = omega arith
  room_within (w ∷ vs) (suc b) is = omega (arith, room_within vs b is)

  -- there is no list past the last one
  pub list_at_past : (vs : List (Vec ℕ A)) (k : ℕ) → length vs ≤ k → list_at vs k ≡ []
  unfolding list_at
  list_at_past [] k le = refl
  list_at_past (v ∷ vs) zero le = absurd (omega arith)
  list_at_past (v ∷ vs) (suc k) le = list_at_past vs k (omega arith)

  -- an empty list more is not seen
  pub list_at_push : (vs : List (Vec ℕ A)) (v : Vec ℕ A) → v.items ≡ [] → (k : ℕ) → list_at (vs ++ v ∷ []) k ≡ list_at vs k
  unfolding list_at
  list_at_push [] v empty zero = empty
  list_at_push [] v empty (suc k) = refl
  list_at_push (w ∷ vs) v empty zero = refl
  list_at_push (w ∷ vs) v empty (suc k) = list_at_push vs v empty k

  -- and takes no room
  pub has_room_push : (vs : List (Vec ℕ A)) (v : Vec ℕ A) (k : ℕ) → has_room vs k ≡ true → has_room (vs ++ v ∷ []) k ≡ true
  unfolding rooms_of
  has_room_push [] v k is = absurd cc
  has_room_push (w ∷ vs) v zero is = is
  has_room_push (w ∷ vs) v (suc k) is = has_room_push vs v k is

  -- a list that is taken for another, which stood there
  module _ (vs : List (Vec ℕ A)) (b : ℕ) (old new : Vec ℕ A) (within : b < length vs) (stood : old ≡ get_or vs b old) where
    -- with the same pages
    pub list_kept : new.items ≡ old.items → (k : ℕ) → list_at (set vs b new) k ≡ list_at vs k
    list_kept same k = ⊎_elim (λ e. subst (λ (n : ℕ). list_at (set vs b new) n ≡ list_at vs n) (sym e) (list_at_set vs b new within ∙ same ∙ sym (list_at_index vs b old within stood))) (λ ne. list_at_other vs b k new ne) (cases_eq k b)

    -- what room means
    pub room_means : has_room vs b ≡ true → vec_len old < vec_capacity old
    room_means is = ltb-true (vec_len old) (vec_capacity old) (sym (has_room_index vs b old within stood) ∙ is)

    pub room_made : vec_len new < vec_capacity new → has_room (set vs b new) b ≡ true
    room_made lt = has_room_set vs b new within ∙ lt-ltb (vec_len new) (vec_capacity new) lt

    -- with room where there was room
    pub room_kept : (vec_len old < vec_capacity old → vec_len new < vec_capacity new) → (k : ℕ) → has_room vs k ≡ true → has_room (set vs b new) k ≡ true
    room_kept more k is = ⊎_elim (λ e. subst (λ (n : ℕ). has_room (set vs b new) n ≡ true) (sym e) (room_made (more (room_means (subst (λ (n : ℕ). has_room vs n ≡ true) e is))))) (λ ne. has_room_other vs b k new ne ∙ is) (cases_eq k b)

  -- no prints, and no lists
  pub none_indexed : (table : List (Option (List ℕ))) (vs : List (Vec ℕ A)) → table ≡ [] → vs ≡ [] → IsIndexed (print_in table) (list_at vs)
  none_indexed table vs no_prints no_lists = record {
    whole = λ p print is. let none : print_in table p ≡ None = ap (λ (t : List (Option (List ℕ))). print_in t p) no_prints in absurd cc;
    rises = λ b i j lt within. absurd (omega (arith, within, ap length (empty b)));
    belongs = λ b i within. absurd (omega (arith, within, ap length (empty b)));
    found = λ p print is. let none : print_in table p ≡ None = ap (λ (t : List (Option (List ℕ))). print_in t p) no_prints in absurd cc;
  }
    where
      empty : (b : ℕ) → list_at vs b ≡ []
      empty b = list_at_past vs b (omega (arith, ap length no_lists))

  -- a list with a page is there
  pub list_within : (table : List (Option (List ℕ))) (vs : List (Vec ℕ A)) → IsIndexed (print_in table) (list_at vs) → (p : ℕ) (print : List ℕ) → print_in table p ≡ Some print → bucket_of print < length vs
  list_within table vs index p print is =
      let s : StandsIn (list_at vs (bucket_of print)) p = index.found p print is in
      ⊎_elim (λ lt. lt) (λ le. absurd (omega (arith, s.within, ap length (list_at_past vs (bucket_of print) le)))) (cases_lt (bucket_of print) (length vs))

-- and so is the place of a print
pub print_within : (table : List (Option (List ℕ))) (p : ℕ) (print : List ℕ) → print_in table p ≡ Some print → p < length table
print_within table p print is = ⊎_elim (λ lt. lt) (λ le. let none : print_in table p ≡ None = get_or-eq_default table None le in absurd cc) (cases_lt p (length table))
