-- What is known of a policy.
use Rattle.std.specs.Prelude.{ℕ, ◌==◌, Bool, List}

pub record PolicyMeaning : Type 0 where
  pub label : ℕ
  -- what it remembers between calls
  pub state : List ℕ

-- it is asked for by this label
abbrev pub has_label : ℕ → PolicyMeaning → Bool
has_label label policy = policy.label == label
