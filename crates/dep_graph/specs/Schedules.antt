-- Schedules of page writes and barriers over a graph, and the waves of a flush.
use Rattle.std.specs.Prelude.{◌≡◌, ◌+◌, ◌<◌, ◌++◌, ℕ, List, [], ◌∷◌, true, false, cond, not, ◌&&◌}
use Rattle.order_model.specs.Levels.{IsNode, Marks, Waits}

pub data Step : Type 0 where
  WritePage : ℕ → Step
  MakeBarrier : Step

abbrev pub Schedule : Type 0
Schedule = List Step

-- how many barriers it makes
abbrev pub barriers : Schedule → ℕ
barriers [] = 0
barriers (WritePage page ∷ s) = barriers s
barriers (MakeBarrier ∷ s) = 1 + barriers s

-- the page is written, and a barrier comes after it
pub record IsFixed (page : ℕ) (s : Schedule) : Type 0 where
  pub before : Schedule
  pub after : Schedule
  pub split : s ≡ before ++ WritePage page ∷ after
  pub barrier : 0 < barriers after

-- each write of b comes after a barrier that comes after a write of a, for each Live edge from a to b, and after some barrier, for each Barrier edge to b
pub record Respects (m : Marks) (s : Schedule) : Type 0 where
  pub after_write : (a b : ℕ) → m.live a b ≡ true → (before after : Schedule) → s ≡ before ++ WritePage b ∷ after → IsFixed a before
  pub after_barrier : (a b : ℕ) → m.barred a b ≡ true → (before after : Schedule) → s ≡ before ++ WritePage b ∷ after → 0 < barriers before

-- each dirty page is written, a barrier follows its last write, and there is one where some page is hung
pub record IsComplete (m : Marks) (s : Schedule) : Type 0 where
  pub written : (p : ℕ) → m.dirty p ≡ true → (before : Schedule) × (after : Schedule) × (s ≡ before ++ WritePage p ∷ after)
  pub last : (p : ℕ) → m.dirty p ≡ true → (before after : Schedule) → s ≡ before ++ WritePage p ∷ after → 0 < barriers after
  pub fixed : (p : ℕ) → m.hung p ≡ true → 0 < barriers s

-- a wave: where there is a node, all dirty pages to which no edge leads are written, and then a barrier is made
pub record Wave (m n : Marks) : Type 0 where
  pub node : (p : ℕ) × IsNode m p
  pub dirty : (p : ℕ) → n.dirty p ≡ true → (m.dirty p ≡ true) × Waits m p
  pub dirty_kept : (p : ℕ) → m.dirty p ≡ true → Waits m p → n.dirty p ≡ true
  pub hung : (p : ℕ) → n.hung p ≡ false
  pub live : (a b : ℕ) → n.live a b ≡ true → (m.live a b ≡ true) × Waits m a
  pub live_kept : (a b : ℕ) → m.live a b ≡ true → Waits m a → n.live a b ≡ true
  pub barred : (a b : ℕ) → n.barred a b ≡ false

-- waves until no page is a node
abbrev pub Waves : Marks → List Marks → Type 0
Waves m [] = (p : ℕ) → IsNode m p → ⊥
Waves m (n ∷ ns) = Wave m n × Waves n ns

-- how often a page is written in them
abbrev pub times_written : ℕ → Marks → List Marks → ℕ
times_written p m [] = 0
times_written p m (n ∷ ns) = cond (m.dirty p && not (n.dirty p)) 1 0 + times_written p n ns
