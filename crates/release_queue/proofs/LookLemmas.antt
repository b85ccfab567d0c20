-- Which releases are to be looked at.
use Rattle.std.proofs.Common.{arith, ◌≡◌, ◌⊎◌, inl, inr, ◌<◌, ◌≤◌, ℕ, zero, suc, true, false, refl, ap, List, [], ◌∷◌, ◌++◌, map, take, length, set, get_or}
use Rattle.release_queue.specs.declared.Release.{Release}
use Rattle.release_queue.specs.Queued.{is_marked, unmarked}

-- what is marked is in the list, and is marked where it stands
pub marked_within : (rs : List Release) (k : ℕ) → is_marked rs k ≡ true → k < length rs
unfolding is_marked
marked_within [] k h = absurd (cc)
marked_within (r ∷ rs) zero h = omega arith
marked_within (r ∷ rs) (suc k) h = let lt = marked_within rs k h in omega (arith, lt)

pub marked_at : (rs : List Release) (k : ℕ) (d : Release) → k < length rs → is_marked rs k ≡ (get_or rs k d).look
unfolding is_marked
marked_at [] k d lt = absurd (omega (arith, lt))
marked_at (r ∷ rs) zero d lt = refl
marked_at (r ∷ rs) (suc k) d lt = marked_at rs k d (omega (arith, lt))

-- a step that leaves the marks
pub marked_map : (f : Release → Release) → ((r : Release) → (f r).look ≡ r.look) → (rs : List Release) (k : ℕ) → is_marked (map f rs) k ≡ is_marked rs k
unfolding is_marked
marked_map f same [] k = refl
marked_map f same (r ∷ rs) zero = same r
marked_map f same (r ∷ rs) (suc k) = marked_map f same rs k

-- one more at the end
pub marked_end : (rs : List Release) (r : Release) (k : ℕ) → is_marked (rs ++ r ∷ []) k ≡ true → (is_marked rs k ≡ true) ⊎ (length rs ≤ k)
unfolding is_marked
marked_end [] r k h = inr (omega arith)
marked_end (x ∷ rs) r zero h = inl h
marked_end (x ∷ rs) r (suc k) h = elim (marked_end rs r k h) [ inl m ↦ inl m | inr past ↦ inr (omega (arith, past)) ]

-- others from a place on
pub marked_cut : (rs rest : List Release) (i k : ℕ) → i < length rs → is_marked (take i rs ++ rest) k ≡ true → (is_marked rs k ≡ true) ⊎ (i ≤ k)
unfolding is_marked
marked_cut [] rest i k lt h = absurd (omega (arith, lt))
marked_cut (r ∷ rs) rest zero k lt h = inr (omega arith)
marked_cut (r ∷ rs) rest (suc i) zero lt h = inl h
marked_cut (r ∷ rs) rest (suc i) (suc k) lt h = elim (marked_cut rs rest i k (omega (arith, lt)) h) [ inl m ↦ inl m | inr past ↦ inr (omega (arith, past)) ]

-- a mark goes
pub unmarked_is : (rs : List Release) (i : ℕ) (d : Release) → i < length rs → set rs i (record (get_or rs i d) { look = false }) ≡ unmarked i rs
unfolding unmarked
unmarked_is [] i d lt = absurd (omega (arith, lt))
unmarked_is (r ∷ rs) zero d lt = refl
unmarked_is (r ∷ rs) (suc i) d lt = ap (λ (l : List Release). r ∷ l) (unmarked_is rs i d (omega (arith, lt)))

pub unmarked_length : (rs : List Release) (i : ℕ) → length (unmarked i rs) ≡ length rs
unfolding unmarked
unmarked_length [] i = refl
unmarked_length (r ∷ rs) zero = refl
unmarked_length (r ∷ rs) (suc i) = ap (λ n. suc n) (unmarked_length rs i)

pub marked_still : (rs : List Release) (i k : ℕ) → is_marked (unmarked i rs) k ≡ true → (is_marked rs k ≡ true) × (k ≡ i → ⊥)
unfolding is_marked unmarked
marked_still [] i k h = absurd (cc)
marked_still (r ∷ rs) zero zero h = absurd (cc)
marked_still (r ∷ rs) zero (suc k) h = (h, λ e. omega (arith, e))
marked_still (r ∷ rs) (suc i) zero h = (h, λ e. omega (arith, e))
marked_still (r ∷ rs) (suc i) (suc k) h = let m = marked_still rs i k h in (m.0, λ e. m.1 (omega (arith, e)))
