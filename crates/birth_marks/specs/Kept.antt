-- What the tables keep.
use Rattle.std.specs.Prelude.{◌≡◌, ◌⊎◌, ◌≤◌, ◌<◌, ◌+◌, ◌^◌, ℕ, Bool, List, Option, true, false, cond, eqb, None, Some, is_some}
use Rattle.std.specs.Map.{lookup}
use Rattle.order_model.specs.declared.Slot.{Slot}
use Rattle.birth_marks.specs.declared.births.Record.{Record}
use Rattle.birth_marks.specs.declared.births.Met.{Met}
use Rattle.birth_marks.specs.declared.births.Pair.{Pair}
use Rattle.birth_marks.specs.contracts.births.PairPartialEq.TheImpl.{eq-value as same_pair}
use Rattle.order_model.specs.Calls.{same_slot}
use Rattle.birth_marks.specs.Pages.{PagesView, is_known, mark_of, settled}
use Rattle.birth_marks.specs.Births.{BirthsView, is_live, moment_in, record_in}

-- every moment lies behind, the page of each record is known, and something was noted for that of a recorded slot
pub record AreBehind (b : BirthsView) (moment : ℕ) : Type 0 where
  pub settled : (p : ℕ) → (mark_of b.pages p).settled_at ≤ moment
  pub tried : (p : ℕ) → (mark_of b.pages p).tried_at ≤ moment
  pub changed : (s : Slot) (r : Record) → record_in b s ≡ Some r → r.moment ≤ moment
  pub first : (s : Slot) (r : Record) → record_in b s ≡ Some r → r.first ≤ moment
  pub known : (s : Slot) (r : Record) → record_in b s ≡ Some r → is_known b.pages r.page ≡ true
  pub noted : (s : Slot) (r : Record) → record_in b s ≡ Some r → is_live b.pages (Some r) ≡ true → is_some (mark_of b.pages r.page).last ≡ true
  pub met : (s : Slot) (v : ℕ) (m : Met) → moment_in b s v ≡ Some m → m.moment ≤ moment

-- there is room for so many changes
pub record HasRoom (changes pages records moments moment : ℕ) : Type 0 where
  pub pages_fit : changes ≤ pages
  pub records_fit : changes ≤ records
  pub moments_fit : changes ≤ moments
  pub few : moment + changes < 2 ^ 64

-- the last change is of a slot on this page
abbrev pub stands_on : ℕ → Option Record → Bool
stands_on page None = false
stands_on page (Some r) = eqb r.page page

-- From the pair that was noted last for a page, if there is one, each pair that was noted for the page is reached by going back, and
-- each of its slots has a pair. Going back stays on the page, and leads to earlier moments.
pub record HeadsPage (page moment : ℕ) (last : Option Pair) (records : List (Slot × Record)) (moments : List (Pair × Met)) : Type 0 where
  pub head : (q : Pair) → last ≡ Some q → (is_some (lookup (same_pair.it q) moments) ≡ true) × (stands_on page (lookup (same_slot q.slot) records) ≡ true)
  pub reached : (q : Pair) (m : Met) → lookup (same_pair.it q) moments ≡ Some m → stands_on page (lookup (same_slot q.slot) records) ≡ true
      → (last ≡ Some q) ⊎ ((n : Pair) × ((k : Met) × ((lookup (same_pair.it n) moments ≡ Some k) × ((k.before ≡ Some q) × (stands_on page (lookup (same_slot n.slot) records) ≡ true)))))
  pub back : (n : Pair) (k : Met) (q : Pair) → lookup (same_pair.it n) moments ≡ Some k → stands_on page (lookup (same_slot n.slot) records) ≡ true → k.before ≡ Some q
      → (m : Met) × ((lookup (same_pair.it q) moments ≡ Some m) × ((m.moment < k.moment) × (stands_on page (lookup (same_slot q.slot) records) ≡ true)))
  pub noted : (s : Slot) → stands_on page (lookup (same_slot s) records) ≡ true → (v : ℕ) × (is_some (lookup (same_pair.it (record { slot = s; value = v })) moments) ≡ true)
  pub behind : (q : Pair) (m : Met) → lookup (same_pair.it q) moments ≡ Some m → m.moment ≤ moment

-- What is kept is of recorded slots alone: each value that is noted was noted since the first change of its slot. And it is reached
-- from its page, so that a barrier can take it out.
pub record AreLinked (b : BirthsView) (moment : ℕ) : Type 0 where
  pub live : (s : Slot) (r : Record) → record_in b s ≡ Some r → is_live b.pages (Some r) ≡ true
  pub owned : (q : Pair) (m : Met) → lookup (same_pair.it q) b.moments ≡ Some m → is_some (record_in b q.slot) ≡ true
  pub since_first : (s : Slot) (v : ℕ) (r : Record) (m : Met) → record_in b s ≡ Some r → moment_in b s v ≡ Some m → r.first ≤ m.moment
  pub heads : (page : ℕ) → HeadsPage page moment (mark_of b.pages page).last b.records b.moments

-- all that is kept for a page is taken out, and nothing else
pub record Gone (page : ℕ) (records : List (Slot × Record)) (moments : List (Pair × Met)) (records' : List (Slot × Record)) (moments' : List (Pair × Met)) : Type 0 where
  pub slots : (s : Slot) → lookup (same_slot s) records' ≡ cond (stands_on page (lookup (same_slot s) records)) None (lookup (same_slot s) records)
  pub pairs : (q : Pair) → lookup (same_pair.it q) moments' ≡ cond (stands_on page (lookup (same_slot q.slot) records)) None (lookup (same_pair.it q) moments)

-- Going back, all pairs before the next one are taken out, with their slots.
pub record TakenOff (page : ℕ) (next : Option Pair) (records : List (Slot × Record)) (moments : List (Pair × Met)) (records' : List (Slot × Record)) (moments' : List (Pair × Met)) : Type 0 where
  pub other_slots : (s : Slot) → stands_on page (lookup (same_slot s) records) ≡ false → lookup (same_slot s) records' ≡ lookup (same_slot s) records
  pub other_pairs : (q : Pair) → stands_on page (lookup (same_slot q.slot) records) ≡ false → lookup (same_pair.it q) moments' ≡ lookup (same_pair.it q) moments
  pub were : (s : Slot) (r : Record) → lookup (same_slot s) records' ≡ Some r → lookup (same_slot s) records ≡ Some r
  pub noted : (q : Pair) (m : Met) → lookup (same_pair.it q) moments' ≡ Some m → lookup (same_pair.it q) moments ≡ Some m
  pub whole : (s : Slot) (v : ℕ) (r : Record) → lookup (same_slot s) records' ≡ Some r
      → lookup (same_pair.it (record { slot = s; value = v })) moments' ≡ lookup (same_pair.it (record { slot = s; value = v })) moments
  pub reached : (q : Pair) (m : Met) → lookup (same_pair.it q) moments' ≡ Some m → stands_on page (lookup (same_slot q.slot) records) ≡ true
      → (next ≡ Some q) ⊎ ((n : Pair) × ((k : Met) × ((lookup (same_pair.it n) moments' ≡ Some k) × ((k.before ≡ Some q) × (stands_on page (lookup (same_slot n.slot) records) ≡ true)))))
  pub next_on : (q : Pair) → next ≡ Some q → stands_on page (lookup (same_slot q.slot) records) ≡ true
  pub earlier : (q : Pair) → next ≡ Some q → (m : Met) × ((lookup (same_pair.it q) moments' ≡ Some m)
      × ((n : Pair) (k : Met) → lookup (same_pair.it n) moments ≡ Some k → stands_on page (lookup (same_slot n.slot) records) ≡ true → k.moment ≤ m.moment → lookup (same_pair.it n) moments' ≡ Some k))

-- only what was of no recorded slot is gone
pub record Swept (pages : PagesView) (records : List (Slot × Record)) (moments : List (Pair × Met)) (records' : List (Slot × Record)) (moments' : List (Pair × Met)) : Type 0 where
  pub live : (s : Slot) → is_live pages (lookup (same_slot s) records) ≡ true → lookup (same_slot s) records' ≡ lookup (same_slot s) records
  pub were : (s : Slot) (r : Record) → lookup (same_slot s) records' ≡ Some r → lookup (same_slot s) records ≡ Some r
  pub met : (s : Slot) (v : ℕ) → is_live pages (lookup (same_slot s) records) ≡ true
      → lookup (same_pair.it (record { slot = s; value = v })) moments' ≡ lookup (same_pair.it (record { slot = s; value = v })) moments
  pub noted : (q : Pair) (m : Met) → lookup (same_pair.it q) moments' ≡ Some m → lookup (same_pair.it q) moments ≡ Some m

-- and there is no less room
pub record SweptSoFar (pages : PagesView) (records : List (Slot × Record)) (moments : List (Pair × Met)) (records' : List (Slot × Record)) (moments' : List (Pair × Met))
    (records_room moments_room records_room' moments_room' : ℕ) : Type 0 where
  pub swept : Swept pages records moments records' moments'
  pub records_fit : records_room ≤ records_room'
  pub moments_fit : moments_room ≤ moments_room'

-- The pages that were taken off the list are settled, what was noted for them may be gone, and the others are as they were.
pub record SettledSoFar (moment : ℕ) (pages pages' : PagesView) : Type 0 where
  pub marks : (p : ℕ) → settled moment (mark_of pages' p) ≡ settled moment (mark_of pages p)
  pub behind : (p : ℕ) → (mark_of pages' p).settled_at ≤ moment
  pub known : (p : ℕ) → is_known pages' p ≡ is_known pages p
  pub spare : pages'.spare ≡ pages.spare
