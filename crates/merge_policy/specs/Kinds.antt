-- The five kinds: what each answers, and what it remembers after each call.
--
-- Hold and Eager remember nothing, Delay the least age, Batch the least number of offers and whether it is going, and Adaptive its
-- limit.
use Rattle.std.specs.Prelude.{ℕ, ◌*◌, ◌/◌, ◌==◌, nat_le, min, max, Bool, not, ◌&&◌, ◌||◌, if◌then◌else◌, List, [], ◌∷◌, length, slice_index, position, Option, Some, None}
use Rattle.merge_policy.specs.declared.policy.Offer.{Offer}
use Rattle.merge_policy.specs.declared.labels.TheConstants.{EAGER, DELAY, BATCH, ADAPTIVE}
use Rattle.merge_policy.specs.Meaning.{PolicyMeaning}

-- the number that `tune` sets
abbrev pub number_of : List ℕ → ℕ
number_of state = slice_index state 0

-- what Batch remembers
abbrev pub batch_state : ℕ → Bool → List ℕ
batch_state number going = number ∷ (if going then 1 else 0) ∷ []

-- whether Batch writes on, however few offers there are
abbrev pub is_going : List ℕ → Bool
is_going state = slice_index state 1 == 1

-- Batch goes on until the list is empty, and begins where it has at least as many offers as its number
abbrev pub is_going_on : ℕ → List ℕ → Bool
is_going_on offers state = not (offers == 0) && (is_going state || nat_le (number_of state) offers)

-- the first position, where there is one
abbrev pub front : List Offer → Option ℕ
front [] = None
front (offer ∷ offers) = Some 0

-- the page is of at least this age
abbrev pub is_old : ℕ → Offer → Bool
is_old age offer = nat_le age offer.age

-- the page was changed often, or is old
abbrev pub is_due : ℕ → Offer → Bool
is_due limit offer = nat_le limit offer.edits || nat_le (4 * limit) offer.age

-- what `pick` answers
abbrev pub choice : PolicyMeaning → List Offer → Option ℕ
choice policy offers =
    if policy.label == EAGER then front offers
    else if policy.label == DELAY then position (is_old (number_of policy.state)) offers
    else if policy.label == BATCH then (if is_going_on (length offers) policy.state then front offers else None)
    else if policy.label == ADAPTIVE then position (is_due (number_of policy.state)) offers
    else None

-- what `barrier` answers
abbrev pub barred : PolicyMeaning → ℕ → Bool
barred policy hung =
    if policy.label == BATCH then nat_le (number_of policy.state) hung
    else (policy.label == EAGER || policy.label == DELAY || policy.label == ADAPTIVE)

-- after `tune`
abbrev pub tuned : PolicyMeaning → ℕ → PolicyMeaning
tuned policy n =
    if policy.label == DELAY then record policy { state = n ∷ [] }
    else if policy.label == BATCH then record policy { state = batch_state (max n 1) (is_going policy.state) }
    else if policy.label == ADAPTIVE then record policy { state = max 1 (min n 1024) ∷ [] }
    else policy

-- after `pick`
abbrev pub asked : PolicyMeaning → List Offer → PolicyMeaning
asked policy offers =
    if policy.label == BATCH then record policy { state = batch_state (number_of policy.state) (is_going_on (length offers) policy.state) }
    else policy

-- the limit after a page with so many changes was written
abbrev pub limit_after : ℕ → ℕ → ℕ
limit_after limit edits = if nat_le limit edits then min (2 * limit) 1024 else max (limit / 2) 1

-- after `wrote`
abbrev pub told : PolicyMeaning → ℕ → PolicyMeaning
told policy edits =
    if policy.label == ADAPTIVE then record policy { state = limit_after (number_of policy.state) edits ∷ [] }
    else policy
