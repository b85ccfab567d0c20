-- What is taken out of the tables was of no recorded slot.
use Rattle.std.proofs.Common.{◌≡◌, ◌≤◌, ℕ, Bool, true, false, cond, eqb, List, Option, Some, None, inl, inr, refl, sym, ◌∙◌, ap, subst, arith}
use Rattle.std.proofs.lemmas.Bool.Decides.{nat_tests}
use Rattle.std.proofs.lemmas.Bool.{cases_Bool}
use Rattle.std.specs.Map.{lookup}
use Rattle.order_model.specs.declared.Slot.{Slot}
use Rattle.birth_marks.specs.declared.births.Met.{Met}
use Rattle.birth_marks.specs.declared.births.Pair.{Pair}
use Rattle.birth_marks.specs.declared.births.Record.{Record}
use Rattle.order_model.specs.Calls.{same_slot}
use Rattle.birth_marks.specs.declared.pages.Mark.{Mark}
use Rattle.birth_marks.specs.Pages.{PagesView, is_known, mark_of, settled}
use Rattle.birth_marks.specs.Births.{BirthsView, FixedAll, is_live, left_in, page_in}
use Rattle.birth_marks.specs.Kept.{AreBehind, SettledSoFar, Swept}

module _ (pages : PagesView) (rs : List (Slot × Record)) (ms : List (Pair × Met)) (rs' : List (Slot × Record)) (ms' : List (Pair × Met)) (k : Swept pages rs ms rs' ms') where
  pub swept_behind : (spare moment : ℕ) → AreBehind (record { records = rs; moments = ms; pages = pages; spare = spare }) moment
      → AreBehind (record { records = rs'; moments = ms'; pages = pages; spare = spare }) moment
  swept_behind spare moment is = record {
    settled = is.settled;
    tried = is.tried;
    changed = λ s r h. is.changed s r (k.were s r h);
    first = λ s r h. is.first s r (k.were s r h);
    known = λ s r h. is.known s r (k.were s r h);
    noted = λ s r h. is.noted s r (k.were s r h);
    met = λ s v m h. is.met s v m (k.noted (record { slot = s; value = v }) m h);
  }

  live_still : (s : Slot) → is_live pages (lookup (same_slot s) rs') ≡ is_live pages (lookup (same_slot s) rs)
  live_still s = elim (cases_Bool (is_live pages (lookup (same_slot s) rs))) [
    | inl on ↦ ap (is_live pages) (k.live s on)
    | inr off ↦ dead off (lookup (same_slot s) rs') refl
  ]
    where
      dead : is_live pages (lookup (same_slot s) rs) ≡ false → (o : Option Record) → lookup (same_slot s) rs' ≡ o → is_live pages (lookup (same_slot s) rs') ≡ is_live pages (lookup (same_slot s) rs)
      dead off None e = rw (e, off)
      dead off (Some r) e = ap (is_live pages) (e ∙ sym (k.were s r e))

  pub swept_fixed : (old : BirthsView) (spare : ℕ) → FixedAll old (record { records = rs; moments = ms; pages = pages; spare = spare })
      → FixedAll old (record { records = rs'; moments = ms'; pages = pages; spare = spare })
  swept_fixed old spare f = record {
    recorded = λ s. live_still s ∙ f.recorded s;
    place = λ s h. let on = sym (live_still s) ∙ h in ap page_in (k.live s on) ∙ f.place s on;
    value = λ s h. let on = sym (live_still s) ∙ h in ap left_in (k.live s on) ∙ f.value s on;
    met = λ s v. elim (cases_Bool (is_live pages (lookup (same_slot s) rs))) [
      | inl on ↦ rw (k.live s on, k.met s v on) (f.met s v)
      | inr off ↦ let gone = live_still s ∙ off in rw gone
    ];
    written = λ s h. f.written s (sym (live_still s) ∙ h);
  }

-- pages were settled since
pub swept_later : (pages later : PagesView) (rs : List (Slot × Record)) (ms : List (Pair × Met)) (rs' : List (Slot × Record)) (ms' : List (Pair × Met))
    → ((p : ℕ) → (mark_of pages p).settled_at ≤ (mark_of later p).settled_at) → Swept pages rs ms rs' ms' → Swept later rs ms rs' ms'
swept_later pages later rs ms rs' ms' rises k = record {
  live = λ s on. k.live s (was_live (lookup (same_slot s) rs) on);
  were = k.were;
  met = λ s v on. k.met s v (was_live (lookup (same_slot s) rs) on);
  noted = k.noted;
}
  where
    was_live : (o : Option Record) → is_live later o ≡ true → is_live pages o ≡ true
    was_live None on = on
    was_live (Some r) on = let up = rises r.page in grind (arith, nat_tests, up, on)

-- and then more was taken out
pub swept_then : (pages : PagesView) (rs : List (Slot × Record)) (ms : List (Pair × Met)) (rs' : List (Slot × Record)) (ms' : List (Pair × Met)) (rs'' : List (Slot × Record)) (ms'' : List (Pair × Met))
    → Swept pages rs ms rs' ms' → Swept pages rs' ms' rs'' ms'' → Swept pages rs ms rs'' ms''
swept_then pages rs ms rs' ms' rs'' ms'' k l = record {
  live = λ s on. l.live s (still s on) ∙ k.live s on;
  were = λ s r h. k.were s r (l.were s r h);
  met = λ s v on. l.met s v (still s on) ∙ k.met s v on;
  noted = λ q m h. k.noted q m (l.noted q m h);
}
  where
    still : (s : Slot) → is_live pages (lookup (same_slot s) rs) ≡ true → is_live pages (lookup (same_slot s) rs') ≡ true
    still s on = ap (is_live pages) (k.live s on) ∙ on

-- one page more is settled
module _ (moment : ℕ) (first pages later : PagesView) (page : ℕ) (k : SettledSoFar moment first pages)
    (marks : (p : ℕ) → mark_of later p ≡ cond (eqb page p) (settled moment (mark_of pages p)) (mark_of pages p)) where
  pub settled_one_more : ((p : ℕ) → is_known later p ≡ is_known pages p) → later.spare ≡ pages.spare → SettledSoFar moment first later
  settled_one_more known spare = record {
    marks = λ p. ap (settled moment) (marks p) ∙ (again (eqb page p) (mark_of pages p) ∙ k.marks p);
    behind = λ p. subst (λ (m : Mark). m.settled_at ≤ moment) (sym (marks p)) (few (eqb page p) (mark_of pages p) (k.behind p));
    known = λ p. known p ∙ k.known p;
    spare = spare ∙ k.spare;
  }
    where
      again : (t : Bool) (m : Mark) → settled moment (cond t (settled moment m) m) ≡ settled moment m
      again true m = refl
      again false m = refl

      few : (t : Bool) (m : Mark) → m.settled_at ≤ moment → (cond t (settled moment m) m).settled_at ≤ moment
      few false m h = h
      few true m h = fewer m.written m.settled_at h
        where
          fewer : (w : Bool) (n : ℕ) → n ≤ moment → cond w moment n ≤ moment
          fewer true n h = omega arith
          fewer false n h = h

  pub settled_rises : (p : ℕ) → (mark_of pages p).settled_at ≤ (mark_of later p).settled_at
  settled_rises p = subst (λ (m : Mark). (mark_of pages p).settled_at ≤ m.settled_at) (sym (marks p)) (more (eqb page p) (mark_of pages p) (k.behind p))
    where
      more : (t : Bool) (m : Mark) → m.settled_at ≤ moment → m.settled_at ≤ (cond t (settled moment m) m).settled_at
      more false m h = omega arith
      more true m h = later_on m.written m.settled_at h
        where
          later_on : (w : Bool) (n : ℕ) → n ≤ moment → n ≤ cond w moment n
          later_on true n h = h
          later_on false n h = omega arith
