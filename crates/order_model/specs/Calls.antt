-- The list of calls, the latest first, and what follows from it.
use Rattle.std.specs.Prelude.{◌&&◌, ◌||◌, ℕ, List, [], ◌∷◌, Bool, false, not, cond, eqb}
use Rattle.order_model.specs.declared.Slot.{Slot}
use Rattle.order_model.specs.contracts.SlotPartialEq.TheImpl.{eq-value}

-- one block, or one data page
abbrev pub same_slot : Slot → Slot → Bool
same_slot a b = eq-value.it a b

pub data Call : Type 0 where
  Change : Slot → (at from to : ℕ) → Call
  Tried : ℕ → Call
  Written : ℕ → Call
  Fixed : Call

-- the page was written, and no change was on it since
abbrev pub wrote_last : ℕ → List Call → Bool
wrote_last page [] = false
wrote_last page (Change s at from to ∷ calls) = not (eqb at page) && wrote_last page calls
wrote_last page (Tried at ∷ calls) = wrote_last page calls
wrote_last page (Written at ∷ calls) = eqb at page || wrote_last page calls
wrote_last page (Fixed ∷ calls) = wrote_last page calls

-- The calls since the page was last settled: a page is settled at a barrier that comes after a write of it with no change on it since that write.
abbrev pub since : ℕ → List Call → List Call
since page [] = []
since page (Change s at from to ∷ calls) = Change s at from to ∷ since page calls
since page (Tried at ∷ calls) = Tried at ∷ since page calls
since page (Written at ∷ calls) = Written at ∷ since page calls
since page (Fixed ∷ calls) = cond (wrote_last page calls) [] (Fixed ∷ since page calls)

-- the slot was changed
abbrev pub is_changed : Slot → List Call → Bool
is_changed slot [] = false
is_changed slot (Change s at from to ∷ calls) = same_slot s slot || is_changed slot calls
is_changed slot (Tried at ∷ calls) = is_changed slot calls
is_changed slot (Written at ∷ calls) = is_changed slot calls
is_changed slot (Fixed ∷ calls) = is_changed slot calls

-- what the last change of the slot left
abbrev pub value_left : Slot → List Call → ℕ
value_left slot [] = 0
value_left slot (Change s at from to ∷ calls) = cond (same_slot s slot) to (value_left slot calls)
value_left slot (Tried at ∷ calls) = value_left slot calls
value_left slot (Written at ∷ calls) = value_left slot calls
value_left slot (Fixed ∷ calls) = value_left slot calls

-- v was the slot's value before its first change, or at a try to write its page after that
abbrev pub is_met : Slot → ℕ → ℕ → List Call → Bool
is_met slot page v [] = false
is_met slot page v (Change s at from to ∷ calls) = (same_slot s slot && (not (is_changed slot calls) && eqb from v)) || is_met slot page v calls
is_met slot page v (Tried at ∷ calls) = (eqb at page && (is_changed slot calls && eqb (value_left slot calls) v)) || is_met slot page v calls
is_met slot page v (Written at ∷ calls) = is_met slot page v calls
is_met slot page v (Fixed ∷ calls) = is_met slot page v calls

-- the slot, which stands on the page, was changed since the page was settled, and v was its value neither then nor at a try since
abbrev pub is_unborn : Slot → ℕ → ℕ → List Call → Bool
is_unborn slot page v calls = is_changed slot (since page calls) && not (is_met slot page v (since page calls))
