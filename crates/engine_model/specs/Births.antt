-- What the calls that birth_marks is told, the latest first, say of the possible values of a slot.
use Rattle.std.specs.Prelude.{List, None, Option, Some, [], cond, false, true, ℕ, ◌<◌, ◌∷◌, ◌≡◌, ◌⊎◌}
use Rattle.order_model.specs.World.{IsData, Layout, Possible, World}
use Rattle.order_model.specs.declared.Slot.{Slot}
use Rattle.order_model.specs.declared.Slot.TheVariants.{Name, Print}
use Rattle.order_model.specs.Calls.{Call, Change, Fixed, Tried, Written, is_changed, is_met, same_slot, since, value_left, wrote_last}

-- The calls in words. The slot had the value x when its page was settled: what it has after the calls since then,
abbrev pub value_after : Slot → ℕ → List Call → ℕ
value_after slot x [] = x
value_after slot x (Change s at from to ∷ cs) = cond (same_slot s slot) to (value_after slot x cs)
value_after slot x (Tried at ∷ cs) = value_after slot x cs
value_after slot x (Written at ∷ cs) = value_after slot x cs
value_after slot x (Fixed ∷ cs) = value_after slot x cs

-- that each change went on from what it had,
abbrev pub GoesOn : Slot → ℕ → List Call → Type 0
GoesOn slot x [] = Unit {0}
GoesOn slot x (Change s at from to ∷ cs) = (same_slot s slot ≡ true → from ≡ value_after slot x cs) × GoesOn slot x cs
GoesOn slot x (Tried at ∷ cs) = GoesOn slot x cs
GoesOn slot x (Written at ∷ cs) = GoesOn slot x cs
GoesOn slot x (Fixed ∷ cs) = GoesOn slot x cs

-- and that it had v at a try to write its page
abbrev pub TriedWith : Slot → ℕ → ℕ → ℕ → List Call → Type 0
TriedWith slot x page v [] = ⊥
TriedWith slot x page v (Change s at from to ∷ cs) = TriedWith slot x page v cs
TriedWith slot x page v (Tried at ∷ cs) = ((at ≡ page) × (value_after slot x cs ≡ v)) ⊎ TriedWith slot x page v cs
TriedWith slot x page v (Written at ∷ cs) = TriedWith slot x page v cs
TriedWith slot x page v (Fixed ∷ cs) = TriedWith slot x page v cs

-- where a slot stands, and its value in a content of that page
abbrev pub place_of : Layout → Slot → ℕ
place_of lay (Name l) = lay.map_page l
place_of lay (Print p) = lay.print_page p

abbrev pub has_print : Option (List ℕ) → ℕ
has_print None = 0
has_print (Some print) = 1

abbrev pub value_in : Layout → Slot → List ℕ → ℕ
value_in lay (Name l) c = lay.name_in c l
value_in lay (Print p) c = has_print (lay.print_in c p)

abbrev pub cached_value : Layout → World → Slot → ℕ
cached_value lay w slot = value_in lay slot (w.cached (place_of lay slot))

abbrev pub IsSlot : Layout → Slot → Type 0
IsSlot lay (Name l) = l < lay.blocks
IsSlot lay (Print p) = IsData lay p

-- What the calls say of a slot's possible values, which a recorded slot has met and an unrecorded one has cached.
pub record BirthKnown (lay : Layout) (w : World) (calls : List Call) (slot : Slot) : Type 0 where
  pub recorded : (c : List ℕ) → is_changed slot (since (place_of lay slot) calls) ≡ true → Possible w (place_of lay slot) c
      → is_met slot (place_of lay slot) (value_in lay slot c) (since (place_of lay slot) calls) ≡ true
  pub unrecorded : (c : List ℕ) → is_changed slot (since (place_of lay slot) calls) ≡ false → Possible w (place_of lay slot) c
      → value_in lay slot c ≡ cached_value lay w slot
  pub left : is_changed slot (since (place_of lay slot) calls) ≡ true
      → value_left slot (since (place_of lay slot) calls) ≡ cached_value lay w slot
  pub written : wrote_last (place_of lay slot) calls ≡ true
      → value_in lay slot (w.newest (place_of lay slot)) ≡ cached_value lay w slot
  -- what is recorded stands on a node
  pub node : is_changed slot (since (place_of lay slot) calls) ≡ true
      → (w.dirty (place_of lay slot) ≡ true) ⊎ ((w.hung (place_of lay slot) ≡ true) × (wrote_last (place_of lay slot) calls ≡ true))

-- a change of a slot
pub record Edit : Type 0 where
  pub slot : Slot
  pub at : ℕ
  pub from : ℕ
  pub to : ℕ

abbrev pub AllDirty : World → List Edit → Type 0
AllDirty w [] = Unit {0}
AllDirty w (e ∷ es) = (w.dirty e.at ≡ true) × AllDirty w es

-- no slot is recorded
abbrev pub NothingRecorded : Layout → List Call → Type 0
NothingRecorded lay calls = (slot : Slot) → IsSlot lay slot → is_changed slot (since (place_of lay slot) calls) ≡ false

-- the calls with these changes, the latest first
abbrev pub told : List Edit → List Call → List Call
told [] calls = calls
told (e ∷ es) calls = Change e.slot e.at e.from e.to ∷ told es calls

-- the changes lead the slot's value from x to y
abbrev pub Leads : Layout → Slot → List Edit → ℕ → ℕ → Type 0
Leads lay slot [] x y = x ≡ y
Leads lay slot (e ∷ es) x y =
    (same_slot e.slot slot ≡ true → (e.at ≡ place_of lay slot) × (e.to ≡ y) × Leads lay slot es x e.from)
    × (same_slot e.slot slot ≡ false → Leads lay slot es x y)
