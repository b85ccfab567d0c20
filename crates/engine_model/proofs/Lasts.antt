-- The last of a list of contents, and its members.
use Rattle.std.proofs.Common.{◌≡◌, ◌⊎◌, inl, inr, ℕ, List, [], ◌∷◌, ◌++◌, refl, sym, ◌∙◌}
use Rattle.order_model.specs.Contents.{IsAmong}
use Rattle.engine_model.specs.Contents.{Last}

pub last_has : (xs : List (List ℕ)) (c : List ℕ) → Last xs c → IsAmong c xs
unfolding IsAmong
last_has [] c h = h
last_has (x ∷ []) c h = inl h
last_has (x ∷ (y ∷ ys)) c h = inr (last_has (y ∷ ys) c h)

pub has_push : (xs : List (List ℕ)) (c d : List ℕ) → IsAmong c xs → IsAmong c (xs ++ d ∷ [])
unfolding IsAmong
has_push [] c d h = absurd h
has_push (x ∷ xs) c d (inl e) = inl e
has_push (x ∷ xs) c d (inr h) = inr (has_push xs c d h)

pub last_push : (xs : List (List ℕ)) (d : List ℕ) → Last (xs ++ d ∷ []) d
last_push [] d = refl
last_push (x ∷ []) d = refl
last_push (x ∷ (y ∷ ys)) d = last_push (y ∷ ys) d

-- a list has one last member
pub last_once : (xs : List (List ℕ)) (c d : List ℕ) → Last xs c → Last xs d → c ≡ d
last_once [] c d h k = absurd h
last_once (x ∷ []) c d h k = h ∙ sym k
last_once (x ∷ (y ∷ ys)) c d h k = last_once (y ∷ ys) c d h k

-- membership in two lists together
pub has_left : (x : List ℕ) (xs ys : List (List ℕ)) → IsAmong x xs → IsAmong x (xs ++ ys)
unfolding IsAmong
has_left x [] ys h = absurd h
has_left x (y ∷ zs) ys (inl e) = inl e
has_left x (y ∷ zs) ys (inr h) = inr (has_left x zs ys h)

pub has_right : (x : List ℕ) (xs ys : List (List ℕ)) → IsAmong x ys → IsAmong x (xs ++ ys)
unfolding IsAmong
has_right x [] ys h = h
has_right x (y ∷ zs) ys h = inr (has_right x zs ys h)

pub has_parts : (x : List ℕ) (xs ys : List (List ℕ)) → IsAmong x (xs ++ ys) → IsAmong x xs ⊎ IsAmong x ys
unfolding IsAmong
has_parts x [] ys h = inr h
has_parts x (y ∷ zs) ys (inl e) = inl (inl e)
has_parts x (y ∷ zs) ys (inr h) = elim (has_parts x zs ys h) [ inl a ↦ inl (inr a) | inr b ↦ inr b ]
