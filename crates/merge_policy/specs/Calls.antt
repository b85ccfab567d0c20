-- What one call of a policy does: a policy of the five kinds does what specs/Kinds.antt says, one with another label anything in range.
use Rattle.std.specs.Prelude.{◌≡◌, ℕ, ◌<◌, Bool, List, length, [], Option, None, Some, IfSome, false, refl}
use Rattle.std.proofs.Common.{◌∙◌, arith}
use Rattle.merge_policy.specs.declared.policy.Offer.{Offer}
use Rattle.merge_policy.specs.declared.labels.TheConstants.{HOLD}
use Rattle.merge_policy.specs.Meaning.{PolicyMeaning}
use Rattle.merge_policy.specs.Kinds.{choice, barred, tuned, asked, told}

-- it has the label of one of the five kinds
abbrev pub IsKnown : PolicyMeaning → Type 0
IsKnown policy = policy.label < 5

-- it keeps its label, and where that is known it is afterwards as said
pub record Becomes (after old new : PolicyMeaning) : Type 0 where
  pub label : new.label ≡ old.label
  pub known : IsKnown old → new ≡ after

-- what `tune` does
abbrev pub IsTuned : ℕ → PolicyMeaning → PolicyMeaning → Type 0
IsTuned n old new = Becomes (tuned old n) old new

-- what `pick` may answer
pub record IsChoice (offers : List Offer) (answer : Option ℕ) (policy : PolicyMeaning) : Type 0 where
  pub in_range : IfSome answer (λ place. place < length offers)
  pub known : IsKnown policy → answer ≡ choice policy offers

-- what `pick` does
pub record Picks (offers : List Offer) (answer : Option ℕ) (old new : PolicyMeaning) : Type 0 where
  pub chosen : IsChoice offers answer old
  pub policy : Becomes (asked old offers) old new

-- what `wrote` does
abbrev pub IsTold : ℕ → PolicyMeaning → PolicyMeaning → Type 0
IsTold edits old new = Becomes (told old edits) old new

-- what `barrier` may answer
abbrev pub IsBarred : ℕ → Bool → PolicyMeaning → Type 0
IsBarred hung answer policy = IsKnown policy → answer ≡ barred policy hung

-- what `barrier` does
pub record Bars (hung : ℕ) (answer : Bool) (old new : PolicyMeaning) : Type 0 where
  pub barred : IsBarred hung answer old
  pub policy : Becomes old old new

-- an empty list gives none
pub nothing_gives_none : (answer : Option ℕ) (policy : PolicyMeaning) → IsChoice [] answer policy → answer ≡ None
nothing_gives_none None policy is = refl
nothing_gives_none (Some place) policy is = absurd (omega (arith, is.in_range))

-- Hold writes no page
pub hold_picks_none : (offers : List Offer) (answer : Option ℕ) (policy : PolicyMeaning) → policy.label ≡ HOLD → IsChoice offers answer policy → answer ≡ None
hold_picks_none offers answer policy label is =
    let known : IsKnown policy = omega (arith, label) in
    is.known known ∙ rw label refl

-- and makes no barrier
pub hold_makes_no_barrier : (hung : ℕ) (answer : Bool) (policy : PolicyMeaning) → policy.label ≡ HOLD → IsBarred hung answer policy → answer ≡ false
hold_makes_no_barrier hung answer policy label is =
    let known : IsKnown policy = omega (arith, label) in
    is known ∙ rw label refl
