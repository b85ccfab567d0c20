-- Of pages in rising order, those before a place.
use Rattle.std.proofs.Common.{◌≡◌, inl, inr, ◌<◌, ◌+◌, ℕ, zero, suc, true, false, List, [], ◌∷◌, ◌++◌, length, take, get_or, eqb, eqb-true, ne_eqb, refl, ap, arith, add-one}
use Rattle.std.proofs.lemmas.Bool.{or_cases, or_from, or_left, or_right}
use Rattle.dep_graph.specs.Pages.{holds, IsRising}
use Rattle.dep_graph.specs.Rising.{Leads, Rises}
use Rattle.dep_graph.proofs.PageLemmas.{leads_holds}
use Rattle.dep_graph.proofs.RisingLemmas.{leads_at}

pub take_snoc : (pages : List ℕ) (k : ℕ) → k < length pages → take (k + 1) pages ≡ take k pages ++ get_or pages k 0 ∷ []
take_snoc [] k lt = absurd (omega arith)
take_snoc (p ∷ pages) zero lt = refl
take_snoc (p ∷ pages) (suc k) lt = rw add-one (ap (λ l. p ∷ l) (rw add-one at (take_snoc pages k (omega arith))))

pub taken_held : (pages : List ℕ) (k a : ℕ) → holds (take k pages) a ≡ true → holds pages a ≡ true
taken_held pages zero a h = absurd (cc)
taken_held [] (suc k) a h = absurd (cc)
taken_held (p ∷ pages) (suc k) a h = elim (or_cases (eqb p a) (holds (take k pages) a) h) [
  | inl here ↦ or_left (eqb p a) (holds pages a) here
  | inr later ↦ or_right (eqb p a) (holds pages a) (taken_held pages k a later)
]

leads_take : (x : ℕ) (pages : List ℕ) (k : ℕ) → Leads (λ a b. a < b) x pages → Leads (λ a b. a < b) x (take k pages)
unfolding Leads
leads_take x pages zero h = tt
leads_take x [] (suc k) h = tt
leads_take x (p ∷ pages) (suc k) h = (h.0, leads_take x pages k h.1)

pub rises_take : (pages : List ℕ) (k : ℕ) → IsRising pages → IsRising (take k pages)
unfolding Rises
rises_take pages zero up = tt
rises_take [] (suc k) up = tt
rises_take (p ∷ pages) (suc k) up = (leads_take p pages k up.0, rises_take pages k up.1)

-- they are below the page at the place
pub taken_below : (pages : List ℕ) (k a : ℕ) → IsRising pages → k < length pages → holds (take k pages) a ≡ true → a < get_or pages k 0
unfolding Rises
taken_below pages zero a up lt h = absurd (cc)
taken_below [] (suc k) a up lt h = absurd (cc)
taken_below (p ∷ pages) (suc k) a up lt h = elim (or_cases (eqb p a) (holds (take k pages) a) h) [
  | inl here ↦ let led = leads_at (λ a b. a < b) p pages 0 up.0 k (omega arith) in let is = eqb-true p a here in omega arith
  | inr later ↦ taken_below pages k a up.1 (omega arith) later
]

-- so it is not one of them
pub not_taken : (pages : List ℕ) (k : ℕ) → IsRising pages → k < length pages → holds (take k pages) (get_or pages k 0) ≡ false
unfolding Rises
not_taken pages zero up lt = refl
not_taken [] (suc k) up lt = refl
not_taken (p ∷ pages) (suc k) up lt = or_from _ _ (let led = leads_at (λ a b. a < b) p pages 0 up.0 k (omega arith) in ne_eqb p (get_or pages k 0) (λ e. omega arith)) (not_taken pages k up.1 (omega arith))

-- and those that are below it stand before it
pub below_taken : (pages : List ℕ) (k a : ℕ) → IsRising pages → k < length pages → holds pages a ≡ true → a < get_or pages k 0 → holds (take k pages) a ≡ true
unfolding Rises
below_taken [] k a up lt h less = absurd (cc)
below_taken (p ∷ pages) zero a up lt h less = elim (or_cases (eqb p a) (holds pages a) h) [
  | inl here ↦ absurd (let is = eqb-true p a here in omega arith)
  | inr later ↦ absurd (let led = leads_holds p pages a up.0 later in omega arith)
]
below_taken (p ∷ pages) (suc k) a up lt h less = elim (or_cases (eqb p a) (holds pages a) h) [
  | inl here ↦ or_left (eqb p a) (holds (take k pages) a) here
  | inr later ↦ or_right (eqb p a) (holds (take k pages) a) (below_taken pages k a up.1 (omega arith) later less)
]
