-- A release that is pushed, and one that is taken out.
use Rattle.std.proofs.Common.{◌≡◌, ◌⊎◌, inl, inr, ◌+◌, ℕ, cond, eqb, arith, refl, List, [], ◌∷◌, ◌++◌}
use Rattle.order_model.specs.World.{Release, Queued, queued}

pub queued_out : (before after : List Release) (r : Release) (p : ℕ) → queued (before ++ r ∷ after) p ≡ cond (eqb r.page p) 1 0 + queued (before ++ after) p
queued_out [] after r p = refl
queued_out (q ∷ qs) after r p = let more = queued_out qs after r p in omega arith

pub kept_out : (before after : List Release) (r : Release) (l p stage : ℕ) → Queued (before ++ r ∷ after) l p stage
    → Queued (before ++ after) l p stage ⊎ ((r.block ≡ l) × (r.page ≡ p) × (r.stage ≡ stage))
kept_out [] after r l p stage (inl q) = inr q
kept_out [] after r l p stage (inr q) = inl q
kept_out (x ∷ xs) after r l p stage (inl q) = inl (inl q)
kept_out (x ∷ xs) after r l p stage (inr q) = elim (kept_out xs after r l p stage q) [ inl a ↦ inl (inr a) | inr b ↦ inr b ]

pub was_in : (before after : List Release) (r : Release) (l p stage : ℕ) → Queued (before ++ after) l p stage → Queued (before ++ r ∷ after) l p stage
was_in [] after r l p stage q = inr q
was_in (x ∷ xs) after r l p stage (inl q) = inl q
was_in (x ∷ xs) after r l p stage (inr q) = inr (was_in xs after r l p stage q)

pub middle : (before after : List Release) (r : Release) → Queued (before ++ r ∷ after) r.block r.page r.stage
middle [] after r = inl (refl, refl, refl)
middle (x ∷ xs) after r = inr (middle xs after r)

pub queued_push : (rs : List Release) (r : Release) (p : ℕ) → queued (rs ++ r ∷ []) p ≡ queued rs p + cond (eqb r.page p) 1 0
queued_push [] r p = omega arith
queued_push (x ∷ xs) r p = let more = queued_push xs r p in omega arith

pub push_old : (rs : List Release) (r : Release) (l p stage : ℕ) → Queued rs l p stage → Queued (rs ++ r ∷ []) l p stage
push_old [] r l p stage q = absurd q
push_old (x ∷ xs) r l p stage (inl q) = inl q
push_old (x ∷ xs) r l p stage (inr q) = inr (push_old xs r l p stage q)

pub push_new : (rs : List Release) (r : Release) → Queued (rs ++ r ∷ []) r.block r.page r.stage
push_new [] r = inl (refl, refl, refl)
push_new (x ∷ xs) r = inr (push_new xs r)

pub push_back : (rs : List Release) (r : Release) (l p stage : ℕ) → Queued (rs ++ r ∷ []) l p stage
    → Queued rs l p stage ⊎ ((r.block ≡ l) × (r.page ≡ p) × (r.stage ≡ stage))
push_back [] r l p stage (inl q) = inr q
push_back [] r l p stage (inr q) = inl q
push_back (x ∷ xs) r l p stage (inl q) = inl (inl q)
push_back (x ∷ xs) r l p stage (inr q) = elim (push_back xs r l p stage q) [ inl a ↦ inl (inr a) | inr b ↦ inr b ]
