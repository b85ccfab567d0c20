-- A list of policies from which one is taken by its label.
use Rattle.std.specs.Prelude.{ℕ, if◌then◌else◌, List, [], ◌∷◌, Option, find}
use Rattle.merge_policy.specs.Meaning.{PolicyMeaning, has_label}

-- the first policy with this label, if there is one
abbrev pub first_with : ℕ → List PolicyMeaning → Option PolicyMeaning
first_with label policies = find (has_label label) policies

-- all but that one, in their order
unfoldable pub without_first : ℕ → List PolicyMeaning → List PolicyMeaning
without_first label [] = []
without_first label (policy ∷ policies) = if has_label label policy then policies else policy ∷ without_first label policies
