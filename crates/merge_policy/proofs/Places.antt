-- The first of a list of boxes whose policy has a label.
use Rattle.std.specs.Prelude.{◌≡◌, ℕ, zero, suc, ◌<◌, ◌≤◌, true, false, List, [], ◌∷◌, length, map, remove, Some, None, refl}
use Rattle.std.proofs.Common.{arith, get_or, ap, subst, sym, ◌∙◌, eq-eqb, ne_eqb}
use Rattle.std.proofs.lemmas.List.{get_or-map}
use Rattle.merge_policy.specs.Meaning.{PolicyMeaning, has_label}
use Rattle.merge_policy.specs.Boxes.{first_with, without_first}

-- what is read past the end
abbrev pub nothing : PolicyMeaning
nothing = record { label = 0; state = [] }

-- no policy before this place has the label
abbrev pub NoneBefore : ℕ → List PolicyMeaning → ℕ → Type 0
NoneBefore label policies place = (k : ℕ) → k < place → has_label label (get_or policies k nothing) ≡ false

-- one box was taken out of a list, and these are left
pub record Took {A : Type 0} (told : A → PolicyMeaning) (label : ℕ) (boxes rest : List A) (found : A) : Type 0 where
  pub taken : Some (told found) ≡ first_with label (map told boxes)
  pub others : map told rest ≡ without_first label (map told boxes)

-- the box at this place has another label
pub passed_over : {A : Type 0} (told : A → PolicyMeaning) (boxes : List A) (label place : ℕ) (seen : A) → place < length boxes → seen ≡ get_or boxes place seen → ((told seen).label ≡ label → ⊥) → has_label label (get_or (map told boxes) place nothing) ≡ false
passed_over told boxes label place seen inside is other =
    ap (has_label label) (get_or-map told boxes place seen nothing inside ∙ ap told (sym is)) ∙ ne_eqb (told seen).label label other

took_at : {A : Type 0} (told : A → PolicyMeaning) (boxes : List A) (label place : ℕ) (seen found : A) → place < length boxes → seen ≡ get_or boxes place seen → found ≡ get_or boxes place found → NoneBefore label (map told boxes) place → (told seen).label ≡ label → Took told label boxes (remove boxes place) found
unfolding without_first
took_at told [] label place seen found inside seen_is is before here = absurd (omega (arith, inside))
took_at told (box ∷ boxes) label zero seen found inside seen_is is before here =
    let same : has_label label (told box) ≡ true = ap (has_label label) (ap told (sym seen_is)) ∙ eq-eqb (told seen).label label here in
    record { taken = rw same (ap (λ (policy : PolicyMeaning). Some policy) (ap told is)); others = rw same refl }
took_at told (box ∷ boxes) label (suc place) seen found inside seen_is is before here =
    let other : has_label label (told box) ≡ false = before 0 (omega arith) in
    let left = took_at told boxes label place seen found (omega (arith, inside)) seen_is is (λ k lt. before (suc k) (omega (arith, lt))) here in
    record { taken = rw other left.taken; others = rw other (ap (λ (policies : List PolicyMeaning). told box ∷ policies) left.others) }

-- the box at this place is the first with the label, and is taken out
pub took_first : {A : Type 0} (told : A → PolicyMeaning) (boxes all rest : List A) (label place : ℕ) (seen found : A) → boxes ≡ all → rest ≡ remove boxes place → place < length boxes → seen ≡ get_or boxes place seen → found ≡ get_or boxes place found → NoneBefore label (map told boxes) place → (told seen).label ≡ label → Took told label all rest found
took_first told boxes all rest label place seen found same left inside seen_is is before here =
    subst (λ whole. Took told label whole rest found) same
    (subst (λ others. Took told label boxes others found) (sym left) (took_at told boxes label place seen found inside seen_is is before here))

-- no box has the label
pub record TookNone {A : Type 0} (told : A → PolicyMeaning) (label : ℕ) (boxes rest : List A) : Type 0 where
  pub none : None ≡ first_with label (map told boxes)
  pub others : map told rest ≡ without_first label (map told boxes)

none_at : {A : Type 0} (told : A → PolicyMeaning) (boxes : List A) (label : ℕ) → NoneBefore label (map told boxes) (length boxes) → TookNone told label boxes boxes
unfolding without_first
none_at told [] label before = record { none = refl; others = refl }
none_at told (box ∷ boxes) label before =
    let other : has_label label (told box) ≡ false = before 0 (omega arith) in
    let left = none_at told boxes label (λ k lt. before (suc k) (omega (arith, lt))) in
    record { none = rw other left.none; others = rw other (ap (λ (policies : List PolicyMeaning). told box ∷ policies) left.others) }

pub took_none : {A : Type 0} (told : A → PolicyMeaning) (boxes all : List A) (label place : ℕ) → boxes ≡ all → length boxes ≤ place → NoneBefore label (map told boxes) place → TookNone told label all boxes
took_none told boxes all label place same end before =
    subst (λ whole. TookNone told label whole boxes) same (none_at told boxes label (λ k lt. before k (omega (arith, lt, end))))
