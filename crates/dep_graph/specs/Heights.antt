-- The levels of dirty pages.
use Rattle.std.specs.Prelude.{◌≡◌, ◌⊎◌, ℕ, ◌+◌, ◌<◌, ◌≤◌, List, Bool, true}
use Rattle.dep_graph.specs.Pages.{holds}

-- Each dirty page has a level: 1, or 2 after a Barrier edge, or one more than that of a page before it, and above all of these. The number is
-- the greatest of them, or 0 where no page is dirty.
pub record AreClimbed (pages : List ℕ) (live barred : ℕ → ℕ → Bool) (greatest : ℕ) : Type 0 where
  pub level : ℕ → ℕ
  pub above_live : (a b : ℕ) → live a b ≡ true → level a < level b
  pub above_barred : (a b : ℕ) → barred a b ≡ true → 1 < level b
  pub is : (p : ℕ) → holds pages p ≡ true → (level p ≡ 1) ⊎ (((a : ℕ) × ((live a p ≡ true) × (level p ≡ level a + 1))) ⊎ ((a : ℕ) × ((barred a p ≡ true) × (level p ≡ 2))))
  pub most : (p : ℕ) → holds pages p ≡ true → level p ≤ greatest
  pub reached : ((greatest ≡ 0) × ((p : ℕ) → holds pages p ≡ true → ⊥)) ⊎ ((p : ℕ) × ((holds pages p ≡ true) × (level p ≡ greatest)))
