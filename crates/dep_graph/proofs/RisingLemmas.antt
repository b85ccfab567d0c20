-- Lists in rising order: what stands at a place, and what an insertion and a removal leave.
use Rattle.std.proofs.Common.{inl, inr, ◌≡◌, ℕ, zero, suc, ◌<◌, ◌≤◌, Bool, true, false, ◌||◌, List, [], ◌∷◌, ◌++◌, length, take, drop, get_or, map, filter, refl, sym, subst, arith}
use Rattle.std.specs.List.Sorted.{IsPartitionedBy}
use Rattle.std.specs.List.{list_any}
use Rattle.std.proofs.lemmas.Bool.{cases_Bool, cases_eq}
use Rattle.dep_graph.specs.Rising.{Leads, Rises}

module _ {X : Type 0} (R : X → X → Type 0) where
  pub leads_at : (x : X) (xs : List X) (d : X) → Leads R x xs → (k : ℕ) → k < length xs → R x (get_or xs k d)
  unfolding Leads
  leads_at x [] d h k lt = absurd (omega arith)
  leads_at x (y ∷ ys) d h zero lt = h.0
  leads_at x (y ∷ ys) d h (suc k) lt = leads_at x ys d h.1 k (omega arith)

  pub leads_from : (x : X) (xs : List X) (d : X) → ((k : ℕ) → k < length xs → R x (get_or xs k d)) → Leads R x xs
  unfolding Leads
  leads_from x [] d h = tt
  leads_from x (y ∷ ys) d h = (h zero (omega arith), leads_from x ys d (λ k lt. h (suc k) (omega arith)))

  pub rises_at : (xs : List X) (d : X) → Rises R xs → (i j : ℕ) → i < j → j < length xs → R (get_or xs i d) (get_or xs j d)
  unfolding Rises
  rises_at [] d h i j lt within = absurd (omega arith)
  rises_at (x ∷ xs) d h zero zero lt within = absurd (omega arith)
  rises_at (x ∷ xs) d h zero (suc j) lt within = leads_at x xs d h.0 j (omega arith)
  rises_at (x ∷ xs) d h (suc i) zero lt within = absurd (omega arith)
  rises_at (x ∷ xs) d h (suc i) (suc j) lt within = rises_at xs d h.1 i j (omega arith) (omega arith)

  pub partitioned : (p : X → Bool) → ((a b : X) → R a b → p b ≡ true → p a ≡ true) → (xs : List X) → Rises R xs → IsPartitionedBy p xs
  partitioned p down xs up = λ i j d le lt h. elim (cases_eq i j) [
    | inl same ↦ subst (λ n. p (get_or xs n d) ≡ true) (sym same) h
    | inr other ↦ down (get_or xs i d) (get_or xs j d) (rises_at xs d up i j (omega arith) lt) h
  ]

  leads_insert : (x : X) (xs : List X) (k : ℕ) (y : X) → Leads R x xs → R x y → Leads R x (take k xs ++ y ∷ drop k xs)
  unfolding Leads
  leads_insert x xs zero y h r = (r, h)
  leads_insert x [] (suc k) y h r = (r, tt)
  leads_insert x (z ∷ zs) (suc k) y h r = (h.0, leads_insert x zs k y h.1 r)

  pub rises_insert : (xs : List X) (k : ℕ) (y d : X) → Rises R xs → k ≤ length xs
      → ((j : ℕ) → j < k → R (get_or xs j d) y) → ((j : ℕ) → k ≤ j → j < length xs → R y (get_or xs j d)) → Rises R (take k xs ++ y ∷ drop k xs)
  unfolding Rises
  rises_insert xs zero y d h le below above = (leads_from y xs d (λ j lt. above j (omega arith) lt), h)
  rises_insert [] (suc k) y d h le below above = absurd (omega arith)
  rises_insert (x ∷ xs) (suc k) y d h le below above = (
    leads_insert x xs k y h.0 (below zero (omega arith)),
    rises_insert xs k y d h.1 (omega arith) (λ j lt. below (suc j) (omega arith)) (λ j from lt. above (suc j) (omega arith) (omega arith)),
  )

  leads_remove : (x : X) (xs : List X) (k : ℕ) → Leads R x xs → Leads R x (take k xs ++ drop (suc k) xs)
  unfolding Leads
  leads_remove x [] zero h = tt
  leads_remove x [] (suc k) h = tt
  leads_remove x (z ∷ zs) zero h = h.1
  leads_remove x (z ∷ zs) (suc k) h = (h.0, leads_remove x zs k h.1)

  pub rises_remove : (xs : List X) (k : ℕ) → Rises R xs → Rises R (take k xs ++ drop (suc k) xs)
  unfolding Rises
  rises_remove [] zero h = tt
  rises_remove [] (suc k) h = tt
  rises_remove (x ∷ xs) zero h = h.1
  rises_remove (x ∷ xs) (suc k) h = (leads_remove x xs k h.0, rises_remove xs k h.1)

  leads_filter : (q : X → Bool) (x : X) (xs : List X) → Leads R x xs → Leads R x (filter q xs)
  unfolding Leads
  leads_filter q x [] h = tt
  leads_filter q x (y ∷ ys) h = elim (cases_Bool (q y)) [
    | inl is ↦ rw is (h.0, leads_filter q x ys h.1)
    | inr off ↦ rw off (leads_filter q x ys h.1)
  ]

  pub rises_filter : (q : X → Bool) (xs : List X) → Rises R xs → Rises R (filter q xs)
  unfolding Rises
  rises_filter q [] h = tt
  rises_filter q (x ∷ xs) h = elim (cases_Bool (q x)) [
    | inl is ↦ rw is (leads_filter q x xs h.0, rises_filter q xs h.1)
    | inr off ↦ rw off (rises_filter q xs h.1)
  ]

  module _ (same : X → X → Bool) (apart : (a b : X) → R a b → (same a b ≡ false) × (same b a ≡ false)) where
    none_led : (x : X) (xs : List X) → Leads R x xs → list_any (λ y. same y x) xs ≡ false
    unfolding Leads
    none_led x [] h = refl
    none_led x (y ∷ ys) h = rw ((apart x y h.0).1, none_led x ys h.1)

    -- what is taken out was there once
    pub absent_after : (xs : List X) (k : ℕ) (d : X) → Rises R xs → k < length xs → list_any (λ y. same y (get_or xs k d)) (take k xs ++ drop (suc k) xs) ≡ false
    unfolding Rises
    absent_after [] k d h lt = absurd (omega arith)
    absent_after (x ∷ xs) zero d h lt = none_led x xs h.0
    absent_after (x ∷ xs) (suc k) d h lt = rw ((apart x (get_or xs k d) (leads_at x xs d h.0 k (omega arith))).0, absent_after xs k d h.1 (omega arith))

-- what is made of each of them one by one
module _ {X Y : Type 0} (R : X → X → Type 0) (S : Y → Y → Type 0) (f : X → Y) (keeps : (a b : X) → R a b → S (f a) (f b)) where
  leads_map : (x : X) (xs : List X) → Leads R x xs → Leads S (f x) (map f xs)
  unfolding Leads
  leads_map x [] h = tt
  leads_map x (y ∷ ys) h = (keeps x y h.0, leads_map x ys h.1)

  pub rises_map : (xs : List X) → Rises R xs → Rises S (map f xs)
  unfolding Rises
  rises_map [] h = tt
  rises_map (x ∷ xs) h = (leads_map x xs h.0, rises_map xs h.1)

-- one list after another
module _ {X Y : Type 0} (R : X → X → Type 0) (g : Y → X) where
  leads_all : (x : X) (ys : List Y) → ((y : Y) → R x (g y)) → Leads R x (map g ys)
  unfolding Leads
  leads_all x [] h = tt
  leads_all x (y ∷ ys) h = (h y, leads_all x ys h)

  leads_append : (x : X) (xs : List X) (ys : List Y) → Leads R x xs → ((y : Y) → R x (g y)) → Leads R x (xs ++ map g ys)
  unfolding Leads
  leads_append x [] ys h more = leads_all x ys more
  leads_append x (z ∷ zs) ys h more = (h.0, leads_append x zs ys h.1 more)

  pub rises_append : {W : Type 0} (f : W → X) (ws : List W) (ys : List Y) → Rises R (map f ws) → Rises R (map g ys) → ((w : W) (y : Y) → R (f w) (g y)) → Rises R (map f ws ++ map g ys)
  unfolding Rises
  rises_append f [] ys h k cross = k
  rises_append f (w ∷ ws) ys h k cross = (leads_append (f w) (map f ws) ys h.0 (cross w), rises_append f ws ys h.1 k cross)

swap_or : (x y z : Bool) → (x || (y || z)) ≡ ((x || y) || z)
swap_or x y z = grind arith

turn_or : (x y : Bool) → (x || y) ≡ (y || x)
turn_or x y = grind arith

module _ {X : Type 0} (q : X → Bool) where
  pub any_insert : (xs : List X) (k : ℕ) (y : X) → list_any q (take k xs ++ y ∷ drop k xs) ≡ list_any q xs || q y
  any_insert xs zero y = turn_or (q y) (list_any q xs)
  any_insert [] (suc k) y = turn_or (q y) false
  any_insert (x ∷ xs) (suc k) y = rw (any_insert xs k y) (swap_or (q x) (list_any q xs) (q y))

  pub any_remove : (xs : List X) (k : ℕ) (d : X) → k < length xs → list_any q xs ≡ list_any q (take k xs ++ drop (suc k) xs) || q (get_or xs k d)
  any_remove [] k d lt = absurd (omega arith)
  any_remove (x ∷ xs) zero d lt = turn_or (q x) (list_any q xs)
  any_remove (x ∷ xs) (suc k) d lt = rw (any_remove xs k d (omega arith)) (swap_or (q x) (list_any q (take k xs ++ drop (suc k) xs)) (q (get_or xs k d)))

  pub any_at : (xs : List X) (k : ℕ) (d : X) → k < length xs → q (get_or xs k d) ≡ true → list_any q xs ≡ true
  any_at [] k d lt h = absurd (omega arith)
  any_at (x ∷ xs) zero d lt h = rw h
  any_at (x ∷ xs) (suc k) d lt h = rw (any_at xs k d (omega arith) h) (turn_or (q x) true)

  pub any_none : (xs : List X) (d : X) → ((k : ℕ) → k < length xs → q (get_or xs k d) ≡ false) → list_any q xs ≡ false
  any_none [] d h = refl
  any_none (x ∷ xs) d h = rw (h zero (omega arith), any_none xs d (λ k lt. h (suc k) (omega arith)))

  pub any_where : (xs : List X) (d : X) → list_any q xs ≡ true → (k : ℕ) × (k < length xs) × (q (get_or xs k d) ≡ true)
  any_where [] d h = absurd (cc)
  any_where (x ∷ xs) d h = elim (cases_Bool (q x)) [
    | inl here ↦ (zero, omega arith, here)
    | inr off ↦ let more = any_where xs d (rw off at h) in (suc more.0, omega (arith, more.1), more.2)
  ]
