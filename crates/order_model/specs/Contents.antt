-- Lists of contents.
use Rattle.std.specs.Prelude.{List, [], ℕ, ◌∷◌, ◌≡◌, ◌⊎◌}

-- the content is one of these
unfoldable pub IsAmong : List ℕ → List (List ℕ) → Type 0
IsAmong content [] = ⊥
IsAmong content (c ∷ rest) = (content ≡ c) ⊎ IsAmong content rest
