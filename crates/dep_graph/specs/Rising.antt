-- Lists in a rising order.
use Rattle.std.specs.Prelude.{List, [], ◌∷◌}

-- it stands before each of them
unfoldable pub Leads : {X : Type 0} → (X → X → Type 0) → X → List X → Type 0
Leads R x [] = Unit {0}
Leads R x (y ∷ ys) = R x y × Leads R x ys

-- each stands before those that follow
unfoldable pub Rises : {X : Type 0} → (X → X → Type 0) → List X → Type 0
Rises R [] = Unit {0}
Rises R (x ∷ xs) = Leads R x xs × Rises R xs
