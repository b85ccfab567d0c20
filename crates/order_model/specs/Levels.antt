-- Marks and edges as tests, and the levels of nodes.
use Rattle.std.specs.Prelude.{◌≡◌, ◌⊎◌, ℕ, ◌+◌, ◌<◌, ◌≤◌, Bool, true}

-- the marks and edges at a moment
pub record Marks : Type 0 where
  pub dirty : ℕ → Bool
  pub hung : ℕ → Bool
  pub live : ℕ → ℕ → Bool
  pub barred : ℕ → ℕ → Bool

abbrev pub IsNode : Marks → ℕ → Type 0
IsNode m p = (m.dirty p ≡ true) ⊎ (m.hung p ≡ true)

-- an edge leads to the page
abbrev pub Waits : Marks → ℕ → Type 0
Waits m p = (a : ℕ) × ((m.live a p ≡ true) ⊎ (m.barred a p ≡ true))

-- edges lead between marked pages
pub record EndsAreMarked (m : Marks) : Type 0 where
  pub live : (a b : ℕ) → m.live a b ≡ true → (m.dirty a ≡ true) × (m.dirty b ≡ true)
  pub barred : (a b : ℕ) → m.barred a b ≡ true → (m.hung a ≡ true) × (m.dirty b ≡ true)

-- the level is one more than that of a page before it, or than 1 after a Barrier edge
abbrev pub StepsUp : Marks → (ℕ → ℕ) → ℕ → Type 0
StepsUp m level p = ((a : ℕ) × ((m.live a p ≡ true) × (level p ≡ level a + 1))) ⊎ ((a : ℕ) × ((m.barred a p ≡ true) × (level p ≡ 2)))

-- The level of a node is 1, or it is dirty and its level is one more than that of a page before it. It is above the
-- levels of all pages before it on Live edges, and above 1 where a Barrier edge leads to it. So a node that is not dirty,
-- and one to which no edge leads, has level 1, and each other has one more than the greatest before it.
pub record HasLevels (m : Marks) (level : ℕ → ℕ) : Type 0 where
  pub is : (p : ℕ) → IsNode m p → (level p ≡ 1) ⊎ ((m.dirty p ≡ true) × StepsUp m level p)
  pub above_live : (a b : ℕ) → m.live a b ≡ true → level a < level b
  pub above_barred : (a b : ℕ) → m.barred a b ≡ true → 1 < level b

pub record IsLevel (m : Marks) (p n : ℕ) : Type 0 where
  pub level : ℕ → ℕ
  pub levels : HasLevels m level
  pub is : level p ≡ n

-- the greatest level of a node, or 0 where there is none
pub record IsGreatestLevel (m : Marks) (n : ℕ) : Type 0 where
  pub level : ℕ → ℕ
  pub levels : HasLevels m level
  pub most : (p : ℕ) → IsNode m p → level p ≤ n
  pub reached : ((n ≡ 0) × ((p : ℕ) → IsNode m p → ⊥)) ⊎ ((p : ℕ) × (IsNode m p × (level p ≡ n)))
