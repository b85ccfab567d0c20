-- Ways along Live edges.
use Rattle.std.specs.Prelude.{◌≡◌, ◌⊎◌, ℕ, Bool, true}

-- a way of one Live edge or more, each of which begins where the one before it ended
pub data LivePath (live : ℕ → ℕ → Bool) : ℕ → ℕ → Type 0 where
  leg : {a b : ℕ} → live a b ≡ true → LivePath live a b
  via : {a b c : ℕ} → live a b ≡ true → LivePath live b c → LivePath live a c

-- no way leads from a page to itself
abbrev pub IsAcyclic : (ℕ → ℕ → Bool) → Type 0
IsAcyclic live = (a : ℕ) → LivePath live a a → ⊥

-- an edge from one page to another would close a cycle: they are one, or a way leads back
abbrev pub Closes : (ℕ → ℕ → Bool) → ℕ → ℕ → Type 0
Closes live before after = (before ≡ after) ⊎ LivePath live after before
