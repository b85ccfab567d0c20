-- What is recorded, what each call does to that, and how it follows from the list of calls.
use Rattle.std.specs.Prelude.{◌≡◌, ◌&&◌, ◌||◌, ℕ, List, Bool, true, false, not, cond, eqb, nat_le, nat_lt, Option, Some, None}
use Rattle.std.specs.Map.{lookup}
use Rattle.order_model.specs.declared.Slot.{Slot}
use Rattle.birth_marks.specs.declared.births.Pair.{Pair}
use Rattle.birth_marks.specs.declared.births.Record.{Record}
use Rattle.birth_marks.specs.declared.births.Met.{Met}
use Rattle.birth_marks.specs.contracts.births.PairPartialEq.TheImpl.{eq-value as same_pair}
use Rattle.birth_marks.specs.Pages.{PagesView, mark_of}
use Rattle.order_model.specs.Calls.{Call, is_changed, is_met, same_slot, since, value_left, wrote_last}

-- The last change of each slot, when a slot met a value, the marks of the pages, and for how many changes there is room. A later moment has a greater number.
pub record BirthsView : Type 0 where
  pub records : List (Slot × Record)
  pub moments : List (Pair × Met)
  pub pages : PagesView
  pub spare : ℕ

abbrev pub record_in : BirthsView → Slot → Option Record
record_in b s = lookup (same_slot s) b.records

abbrev pub moment_in : BirthsView → Slot → ℕ → Option Met
moment_in b s v = lookup (same_pair.it (record { slot = s; value = v })) b.moments

-- the change came after the page was settled
abbrev pub is_live : PagesView → Option Record → Bool
is_live pages None = false
is_live pages (Some r) = nat_lt (mark_of pages r.page).settled_at r.moment

abbrev pub page_in : Option Record → ℕ
page_in None = 0
page_in (Some r) = r.page

abbrev pub left_in : Option Record → ℕ
left_in None = 0
left_in (Some r) = r.value

-- the moment is none before the first
abbrev pub is_after : ℕ → Option Met → Bool
is_after first None = false
is_after first (Some m) = nat_le first m.moment

-- the value was noted since the first change, or it is the present one and was tried
abbrev pub meets : PagesView → ℕ → Option Met → Option Record → Bool
meets pages v m None = false
meets pages v m (Some r) = is_after r.first m || (eqb r.value v && nat_le r.moment (mark_of pages r.page).tried_at)

-- what the last change left was tried since, and so was what stood before all changes
abbrev pub is_tried : PagesView → Option Record → Bool
is_tried pages None = true
is_tried pages (Some r) = nat_le r.moment (mark_of pages r.page).tried_at

-- when the first change was, if that is not now
abbrev pub first_of : Option Record → ℕ → ℕ
first_of None now = now
first_of (Some r) now = r.first

-- the slot is recorded: it was changed since its page was settled
abbrev pub recorded_in : BirthsView → Slot → Bool
recorded_in b s = is_live b.pages (record_in b s)

-- its page, and the value that its last change left
abbrev pub place_in : BirthsView → Slot → ℕ
place_in b s = page_in (record_in b s)

abbrev pub value_in : BirthsView → Slot → ℕ
value_in b s = left_in (record_in b s)

-- it is recorded, and had the value when its page was settled or at a try since
abbrev pub met_in : BirthsView → Slot → ℕ → Bool
met_in b s v = recorded_in b s && meets b.pages v (moment_in b s v) (record_in b s)

-- it is recorded, and has not met the value
abbrev pub is_unborn_in : BirthsView → Slot → ℕ → Bool
is_unborn_in b s v = recorded_in b s && not (met_in b s v)

-- the page was written, and no change was on it since
abbrev pub written_in : BirthsView → ℕ → Bool
written_in b page = (mark_of b.pages page).written

-- what is recorded of each slot is the same
pub record SameSlots (old new : BirthsView) : Type 0 where
  pub recorded : (s : Slot) → recorded_in new s ≡ recorded_in old s
  pub place : (s : Slot) → place_in new s ≡ place_in old s
  pub value : (s : Slot) → value_in new s ≡ value_in old s

pub record Same (old new : BirthsView) : Type 0 where
  pub slots : SameSlots old new
  pub met : (s : Slot) (v : ℕ) → met_in new s v ≡ met_in old s v
  pub written : (p : ℕ) → written_in new p ≡ written_in old p

-- a slot was changed, from whatever it had: where the slots stand
pub record PlacedAt (old new : BirthsView) (slot : Slot) (at : ℕ) : Type 0 where
  pub recorded : (s : Slot) → recorded_in new s ≡ (same_slot slot s || recorded_in old s)
  pub place : (s : Slot) → place_in new s ≡ cond (same_slot slot s) at (place_in old s)

-- a slot went from one value to another
pub record Changed (old new : BirthsView) (slot : Slot) (at from to : ℕ) : Type 0 where
  pub recorded : (s : Slot) → recorded_in new s ≡ (same_slot slot s || recorded_in old s)
  pub place : (s : Slot) → place_in new s ≡ cond (same_slot slot s) at (place_in old s)
  pub value : (s : Slot) → value_in new s ≡ cond (same_slot slot s) to (value_in old s)
  pub met : (s : Slot) (v : ℕ) → met_in new s v ≡ ((same_slot slot s && (not (recorded_in old s) && eqb from v)) || met_in old s v)
  pub written : (p : ℕ) → written_in new p ≡ (not (eqb at p) && written_in old p)

-- what is recorded of each other slot is the same, and so is what it met
pub record SameBut (slot : Slot) (old new : BirthsView) : Type 0 where
  pub recorded : (s : Slot) → same_slot slot s ≡ false → recorded_in new s ≡ recorded_in old s
  pub place : (s : Slot) → same_slot slot s ≡ false → place_in new s ≡ place_in old s
  pub value : (s : Slot) → same_slot slot s ≡ false → value_in new s ≡ value_in old s
  pub met : (s : Slot) (v : ℕ) → same_slot slot s ≡ false → met_in new s v ≡ met_in old s v

-- a write of the page was about to be made: its slots met their values
pub record TriedAt (old new : BirthsView) (at : ℕ) : Type 0 where
  pub slots : SameSlots old new
  pub met : (s : Slot) (v : ℕ) → met_in new s v ≡ ((eqb at (place_in old s) && (recorded_in old s && eqb (value_in old s) v)) || met_in old s v)
  pub written : (p : ℕ) → written_in new p ≡ written_in old p

-- the page was written; of a page with no recorded slot this need not be kept
pub record WrittenAt (old new : BirthsView) (at : ℕ) : Type 0 where
  pub slots : SameSlots old new
  pub met : (s : Slot) (v : ℕ) → met_in new s v ≡ met_in old s v
  pub here : (s : Slot) → recorded_in old s ≡ true → written_in new (place_in old s) ≡ (eqb at (place_in old s) || written_in old (place_in old s))
  pub other : (p : ℕ) → eqb at p ≡ false → written_in new p ≡ written_in old p

-- a barrier settled the pages that were written with no change since, and their slots are recorded no longer
pub record FixedAll (old new : BirthsView) : Type 0 where
  pub recorded : (s : Slot) → recorded_in new s ≡ (recorded_in old s && not (written_in old (place_in old s)))
  pub place : (s : Slot) → recorded_in new s ≡ true → place_in new s ≡ place_in old s
  pub value : (s : Slot) → recorded_in new s ≡ true → value_in new s ≡ value_in old s
  pub met : (s : Slot) (v : ℕ) → met_in new s v ≡ (recorded_in new s && met_in old s v)
  pub written : (s : Slot) → recorded_in new s ≡ true → written_in new (place_in old s) ≡ written_in old (place_in old s)

-- Nothing is kept of a slot that is not recorded, nor of a value that it has not met.
pub record KeepsRecorded (b : BirthsView) : Type 0 where
  pub slots : (s : Slot) (r : Record) → record_in b s ≡ Some r → recorded_in b s ≡ true
  pub values : (s : Slot) (v : ℕ) (m : Met) → moment_in b s v ≡ Some m → met_in b s v ≡ true

-- Each slot stands on its page, and what is recorded is what the calls say.
pub record Remembers (place : Slot → ℕ) (b : BirthsView) (calls : List Call) : Type 0 where
  pub recorded : (s : Slot) → recorded_in b s ≡ is_changed s (since (place s) calls)
  pub place_is : (s : Slot) → recorded_in b s ≡ true → place_in b s ≡ place s
  pub value : (s : Slot) → recorded_in b s ≡ true → value_in b s ≡ value_left s (since (place s) calls)
  pub met : (s : Slot) (v : ℕ) → met_in b s v ≡ is_met s (place s) v (since (place s) calls)
  pub written : (s : Slot) → recorded_in b s ≡ true → written_in b (place s) ≡ wrote_last (place s) calls
