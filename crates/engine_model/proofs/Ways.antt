-- Ways along Live edges that avoid a page, and lists of releases.
use Rattle.std.proofs.Common.{◌≡◌, ◌≢◌, ◌⊎◌, inl, inr, ℕ, Bool, true, false, not, ◌&&◌, refl, sym, ap, ◌∙◌, subst, List, [], ◌∷◌, ◌++◌, true≢false, eqb, ne_eqb}
use Rattle.std.proofs.lemmas.Bool.{and_from, not_from_false}
use Rattle.order_model.specs.World.{Release}
use Rattle.order_model.specs.Paths.{Closes, LivePath, leg, via}
use Rattle.engine_model.specs.Pass.{Member}

-- a way that begins elsewhere and to which no edge leads stays when the edges from a page go
pub way_avoids : (live : ℕ → ℕ → Bool) (d : ℕ) → ((x : ℕ) → live x d ≡ false) → {a b : ℕ} → a ≢ d → LivePath live a b → LivePath (λ x y. live x y && not (eqb x d)) a b
way_avoids live d none {a = a} ne (leg e) = leg (and_from _ _ e (not_from_false _ (ne_eqb a d ne)))
way_avoids live d none {a = a} ne (via e p) = via (and_from _ _ e (not_from_false _ (ne_eqb a d ne))) (way_avoids live d none (λ q. true≢false (sym e ∙ ap (live a) q ∙ none a)) p)

-- where each new edge leads into one page: a way is an old one, or there is an old one on from that page
pub way_into : (live more : ℕ → ℕ → Bool) (after : ℕ) → ((a b : ℕ) → more a b ≡ true → (live a b ≡ true) ⊎ (b ≡ after))
    → {x c : ℕ} → LivePath more x c → LivePath live x c ⊎ ((after ≡ c) ⊎ LivePath live after c)
way_into live more after only (leg e) = elim (only _ _ e) [ inl was ↦ inl (leg was) | inr new ↦ inr (inl (sym new)) ]
way_into live more after only {c = c} (via {a = a} {b = b} e p) = elim (way_into live more after only p) [
  | inr z ↦ inr z
  | inl q ↦ elim (only a b e) [ inl was ↦ inl (via was q) | inr new ↦ inr (inr (subst (λ y. LivePath live y c) new q)) ]
]

-- so what closes nothing into that page does so still
pub still_open : (live more : ℕ → ℕ → Bool) (after : ℕ) → ((a b : ℕ) → more a b ≡ true → (live a b ≡ true) ⊎ (b ≡ after))
    → (c : ℕ) → (Closes live c after → ⊥) → Closes more c after → ⊥
still_open live more after only c shut (inl e) = shut (inl e)
still_open live more after only c shut (inr way) = elim (way_into live more after only way) [
  | inl q ↦ shut (inr q)
  | inr z ↦ elim z [ inl e ↦ shut (inl (sym e)) | inr q ↦ shut (inr q) ]
]

-- and so does an edge into another page, from a page that may go before that one
pub open_elsewhere : (live more : ℕ → ℕ → Bool) (after : ℕ) → ((a b : ℕ) → more a b ≡ true → (live a b ≡ true) ⊎ (b ≡ after))
    → (c d : ℕ) → (Closes live c after → ⊥) → (Closes live c d → ⊥) → Closes more c d → ⊥
open_elsewhere live more after only c d into shut (inl e) = shut (inl e)
open_elsewhere live more after only c d into shut (inr way) = elim (way_into live more after only way) [
  | inl q ↦ shut (inr q)
  | inr z ↦ elim z [ inl e ↦ into (inl (sym e)) | inr q ↦ into (inr q) ]
]

pub member_in : (x r : Release) (xs ys : List Release) → Member x (xs ++ ys) → Member x (xs ++ r ∷ ys)
member_in x r [] ys h = inr h
member_in x r (y ∷ xs) ys (inl e) = inl e
member_in x r (y ∷ xs) ys (inr h) = inr (member_in x r xs ys h)

pub member_mid : (r : Release) (xs ys : List Release) → Member r (xs ++ r ∷ ys)
member_mid r [] ys = inl refl
member_mid r (x ∷ xs) ys = inr (member_mid r xs ys)

pub member_right : (x : Release) (xs ys : List Release) → Member x ys → Member x (xs ++ ys)
member_right x [] ys h = h
member_right x (y ∷ xs) ys h = inr (member_right x xs ys h)
