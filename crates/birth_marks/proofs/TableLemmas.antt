-- What the tables say after each call.
use Rattle.std.proofs.Common.{◌≡◌, inl, inr, ℕ, ◌≤◌, ◌+◌, ◌&&◌, ◌||◌, Bool, true, false, not, cond, eqb, Option, Some, None, refl, sym, ◌∙◌, ap, subst, arith, eq-eqb, eqb-true}
use Rattle.std.specs.Prelude.{is_some, nat_le, nat_lt}
use Rattle.std.specs.Map.{lookup}
use Rattle.std.proofs.lemmas.Bool.{cases_Bool}
use Rattle.std.proofs.lemmas.Bool.Decides.{nat_tests}
use Rattle.order_model.specs.declared.Slot.{Slot}
use Rattle.order_model.specs.declared.Slot.TheVariants.{Name, Print}
use Rattle.birth_marks.specs.contracts.births.PairPartialEq.TheImpl.{eq-value as same_pair}
use Rattle.birth_marks.specs.declared.births.Pair.{Pair}
use Rattle.birth_marks.specs.declared.births.Record.{Record}
use Rattle.birth_marks.specs.declared.births.Met.{Met}
use Rattle.birth_marks.specs.declared.pages.Mark.{Mark}
use Rattle.birth_marks.specs.Pages.{PagesView, is_known, mark_of, settled}
use Rattle.order_model.specs.Calls.{same_slot}
use Rattle.birth_marks.specs.Births.{BirthsView, Changed, SameBut, FixedAll, PlacedAt, Same, TriedAt, WrittenAt, first_of, is_after, is_live, is_tried, left_in, meets, met_in, moment_in, page_in, place_in, record_in, recorded_in, value_in, written_in}
use Rattle.birth_marks.specs.Kept.{AreBehind}

module _ (pages later : PagesView) where
  -- of pages that were not settled since
  pub live_same : ((p : ℕ) → (mark_of later p).settled_at ≡ (mark_of pages p).settled_at) → (r s : Option Record) → s ≡ r → is_live later s ≡ is_live pages r
  live_same same None s e = rw e
  live_same same (Some r) s e = rw e (rw (same r.page))

  -- nor tried
  meets_same : ((p : ℕ) → (mark_of later p).tried_at ≡ (mark_of pages p).tried_at) → (v : ℕ) (m n : Option Met) (r s : Option Record) → n ≡ m → s ≡ r
      → meets later v n s ≡ meets pages v m r
  meets_same same v m n None s d e = rw e
  meets_same same v m n (Some r) s d e = rw (e, d) (rw (same r.page))

module _ (b c : BirthsView) (records : (s : Slot) → record_in c s ≡ record_in b s) (moments : (s : Slot) (v : ℕ) → moment_in c s v ≡ moment_in b s v) where
  -- the same records over other marks
  pub behind_still : (moment : ℕ) → AreBehind b moment → ((p : ℕ) → (mark_of c.pages p).settled_at ≤ moment) → ((p : ℕ) → (mark_of c.pages p).tried_at ≤ moment)
      → ((p : ℕ) → is_known c.pages p ≡ is_known b.pages p)
      → ((s : Slot) (r : Record) → record_in b s ≡ Some r → is_live c.pages (Some r) ≡ true → is_some (mark_of c.pages r.page).last ≡ true) → AreBehind c moment
  behind_still moment is settled tried known noted = record {
    settled = settled;
    tried = tried;
    changed = λ s r h. is.changed s r (sym (records s) ∙ h);
    first = λ s r h. is.first s r (sym (records s) ∙ h);
    known = λ s r h. known r.page ∙ is.known s r (sym (records s) ∙ h);
    noted = λ s r h. noted s r (sym (records s) ∙ h);
    met = λ s v m h. is.met s v m (sym (moments s v) ∙ h);
  }

  pub same_still : ((p : ℕ) → mark_of c.pages p ≡ mark_of b.pages p) → Same b c
  same_still same = record {
    slots = record {
      recorded = live;
      place = λ s. ap page_in (records s);
      value = λ s. ap left_in (records s);
    };
    met = λ s v. rw (live s, meets_same b.pages c.pages (λ p. ap (λ (m : Mark). m.tried_at) (same p)) v (moment_in b s v) (moment_in c s v) (record_in b s) (record_in c s) (moments s v) (records s));
    written = λ p. ap (λ (m : Mark). m.written) (same p);
  }
    where
      live : (s : Slot) → recorded_in c s ≡ recorded_in b s
      live s = live_same b.pages c.pages (λ p. ap (λ (m : Mark). m.settled_at) (same p)) (record_in b s) (record_in c s) (records s)

-- a try: the present values are met
module _ (b c : BirthsView) (records : (s : Slot) → record_in c s ≡ record_in b s) (moments : (s : Slot) (v : ℕ) → moment_in c s v ≡ moment_in b s v) (moment at : ℕ) (is : AreBehind b moment)
    (marks : (p : ℕ) → mark_of c.pages p ≡ record (mark_of b.pages p) { tried_at = cond (eqb at p && is_known b.pages p) moment (mark_of b.pages p).tried_at })
    (known : (p : ℕ) → is_known c.pages p ≡ is_known b.pages p) where
  tried_one : (l e m t : Bool) → (l && (m || (e && true))) ≡ ((true && (l && e)) || (l && (m || (e && t))))
  tried_one l e m t = grind arith

  tried_met : (v : ℕ) (m n : Option Met) (o q : Option Record) → n ≡ m → q ≡ o → ((r : Record) → o ≡ Some r → (r.moment ≤ moment) × (is_known b.pages r.page ≡ true))
      → (is_live c.pages q && meets c.pages v n q) ≡ ((eqb at (page_in o) && (is_live b.pages o && eqb (left_in o) v)) || (is_live b.pages o && meets b.pages v m o))
  tried_met v m n None q d e is = elim (cases_Bool (eqb at 0)) [ inl f ↦ rw (e, f) | inr f ↦ rw (e, f) ]
  tried_met v m n (Some r) q d e is =
      let k = is r refl in
      let le : nat_le r.moment moment ≡ true = grind (arith, nat_tests, k.0) in
      elim (cases_Bool (eqb at r.page)) [
        | inl f ↦ rw (d, e) (rw (marks r.page, k.1, f, le) (tried_one (nat_lt (mark_of b.pages r.page).settled_at r.moment) (eqb r.value v) (is_after r.first m) (nat_le r.moment (mark_of b.pages r.page).tried_at)))
        | inr f ↦ rw (d, e) (rw (marks r.page, f))
      ]

  pub tried_behind : AreBehind c moment
  tried_behind = behind_still b c records moments moment is (λ p. rw (marks p) (is.settled p)) (λ p. rw (marks p) (few (eqb at p && is_known b.pages p) _ (is.tried p))) known
      (λ s r h on. rw (marks r.page) (is.noted s r h (sym (live_same b.pages c.pages (λ p. rw (marks p)) (Some r) (Some r) refl) ∙ on)))
    where
      few : (a : Bool) (t : ℕ) → t ≤ moment → cond a moment t ≤ moment
      few true t h = omega arith
      few false t h = h

  pub tried_is : TriedAt b c at
  tried_is = record {
    slots = record {
      recorded = λ s. live_same b.pages c.pages (λ p. rw (marks p)) (record_in b s) (record_in c s) (records s);
      place = λ s. ap page_in (records s);
      value = λ s. ap left_in (records s);
    };
    met = λ s v. tried_met v (moment_in b s v) (moment_in c s v) (record_in b s) (record_in c s) (moments s v) (records s) (λ r h. (is.changed s r h, is.known s r h));
    written = λ p. ap (λ (m : Mark). m.written) (marks p);
  }

-- the page was written
module _ (b c : BirthsView) (records : (s : Slot) → record_in c s ≡ record_in b s) (moments : (s : Slot) (v : ℕ) → moment_in c s v ≡ moment_in b s v) (moment at : ℕ) (is : AreBehind b moment)
    (marks : (p : ℕ) → mark_of c.pages p ≡ record (mark_of b.pages p) { written = (eqb at p && is_some (mark_of b.pages p).last) || (mark_of b.pages p).written; listed = (eqb at p && is_some (mark_of b.pages p).last) || (mark_of b.pages p).listed })
    (known : (p : ℕ) → is_known c.pages p ≡ is_known b.pages p) where
  pub written_behind : AreBehind c moment
  written_behind = behind_still b c records moments moment is (λ p. rw (marks p) (is.settled p)) (λ p. rw (marks p) (is.tried p)) known
      (λ s r h on. rw (marks r.page) (is.noted s r h (sym (live_same b.pages c.pages (λ p. rw (marks p)) (Some r) (Some r) refl) ∙ on)))

  written_here : (o : Option Record) → ((r : Record) → o ≡ Some r → is_live b.pages (Some r) ≡ true → is_some (mark_of b.pages r.page).last ≡ true) → is_live b.pages o ≡ true
      → (mark_of c.pages (page_in o)).written ≡ (eqb at (page_in o) || (mark_of b.pages (page_in o)).written)
  written_here None is h = absurd (cc)
  written_here (Some r) is h = let k = is r refl h in elim (cases_Bool (eqb at r.page)) [ inl f ↦ rw (marks r.page, k, f) | inr f ↦ rw (marks r.page, f) ]

  pub written_is : WrittenAt b c at
  written_is = record {
    slots = record {
      recorded = live;
      place = λ s. ap page_in (records s);
      value = λ s. ap left_in (records s);
    };
    met = λ s v. rw (live s, meets_same b.pages c.pages (λ p. rw (marks p)) v (moment_in b s v) (moment_in c s v) (record_in b s) (record_in c s) (moments s v) (records s));
    here = λ s h. written_here (record_in b s) (is.noted s) h;
    other = λ p h. ap (λ (m : Mark). m.written) (marks p) ∙ rw h;
  }
    where
      live : (s : Slot) → recorded_in c s ≡ recorded_in b s
      live s = live_same b.pages c.pages (λ p. rw (marks p)) (record_in b s) (record_in c s) (records s)

-- a barrier
module _ (b c : BirthsView) (records : (s : Slot) → record_in c s ≡ record_in b s) (moments : (s : Slot) (v : ℕ) → moment_in c s v ≡ moment_in b s v) (moment : ℕ) (is : AreBehind b moment)
    (marks : (p : ℕ) → mark_of c.pages p ≡ settled moment (mark_of b.pages p)) (known : (p : ℕ) → is_known c.pages p ≡ is_known b.pages p) where
  settled_one : (w : Bool) (t n : ℕ) → n ≤ moment → nat_lt (cond w moment t) n ≡ (nat_lt t n && not w)
  settled_one true t n h = let off : nat_lt moment n ≡ false = grind (arith, nat_tests) in rw off (elim (cases_Bool (nat_lt t n)) [ inl f ↦ rw f | inr f ↦ rw f ])
  settled_one false t n h = elim (cases_Bool (nat_lt t n)) [ inl f ↦ rw f | inr f ↦ rw f ]

  settled_live : (o q : Option Record) → q ≡ o → ((r : Record) → o ≡ Some r → r.moment ≤ moment)
      → is_live c.pages q ≡ (is_live b.pages o && not (mark_of b.pages (page_in o)).written)
  settled_live None q e is = rw e
  settled_live (Some r) q e is = rw e (rw (marks r.page) (settled_one (mark_of b.pages r.page).written (mark_of b.pages r.page).settled_at r.moment (is r refl)))

  twice : (l w m : Bool) → ((l && not w) && m) ≡ ((l && not w) && (l && m))
  twice l w m = grind arith

  not_written : (l w : Bool) → (l && not w) ≡ true → w ≡ false
  not_written l w h = grind arith

  was_live : (l w : Bool) → (l && not w) ≡ true → l ≡ true
  was_live l w h = grind arith

  pub fixed_behind : AreBehind c moment
  fixed_behind = behind_still b c records moments moment is (λ p. rw (marks p) (few (mark_of b.pages p).written _ (is.settled p))) (λ p. rw (marks p) (is.tried p)) known
      (λ s r h on. let both = sym (settled_live (Some r) (Some r) refl (λ q e. is.changed s q (h ∙ e))) ∙ on in
      rw (marks r.page) (rw (not_written (is_live b.pages (Some r)) (mark_of b.pages r.page).written both) (is.noted s r h (was_live (is_live b.pages (Some r)) (mark_of b.pages r.page).written both))))
    where
      few : (a : Bool) (t : ℕ) → t ≤ moment → cond a moment t ≤ moment
      few true t h = omega arith
      few false t h = h

  pub fixed_is : FixedAll b c
  fixed_is = record {
    recorded = live;
    place = λ s h. ap page_in (records s);
    value = λ s h. ap left_in (records s);
    met = λ s v. rw (live s, meets_same b.pages c.pages (λ p. rw (marks p)) v (moment_in b s v) (moment_in c s v) (record_in b s) (record_in c s) (moments s v) (records s))
        (twice (recorded_in b s) (written_in b (place_in b s)) (meets b.pages v (moment_in b s v) (record_in b s)));
    written = λ s h. ap (λ (m : Mark). m.written) (marks (place_in b s)) ∙ sym (not_written (recorded_in b s) (written_in b (place_in b s)) (sym (live s) ∙ h));
  }
    where
      live : (s : Slot) → recorded_in c s ≡ (recorded_in b s && not (written_in b (place_in b s)))
      live s = settled_live (record_in b s) (record_in c s) (records s) (is.changed s)

-- a change
pub slot_is : (s t : Slot) → same_slot s t ≡ true → s ≡ t
slot_is (Name a) (Name b) h = ap Name (eqb-true a b h)
slot_is (Print a) (Print b) h = ap Print (eqb-true a b h)
slot_is (Name a) (Print b) h = absurd (cc)
slot_is (Print a) (Name b) h = absurd (cc)

pub slot_same : (s : Slot) → same_slot s s ≡ true
slot_same (Name a) = eq-eqb a a refl
slot_same (Print a) = eq-eqb a a refl

pub pair_is : (s t : Slot) (v w : ℕ) → same_pair.it (record { slot = s; value = v }) (record { slot = t; value = w }) ≡ (same_slot s t && eqb v w)
pair_is s t v w = refl

module _ (b c : BirthsView) (slot : Slot) (at from to moment : ℕ) (is : AreBehind b moment) (was : Option Record) (was_is : was ≡ cond (recorded_in b slot) (record_in b slot) None)
    (records : (s : Slot) → record_in c s ≡ cond (same_slot slot s) (Some (record { page = at; value = to; first = first_of was (moment + 1); moment = moment + 1 })) (record_in b s))
    (before : Option Pair) (moments : (q : Pair) → lookup (same_pair.it q) c.moments ≡ cond ((is_tried b.pages was && not (is_after (first_of was (moment + 1)) (moment_in b slot from))) && same_pair.it (record { slot = slot; value = from }) q) (Some (record { moment = moment + 1; before = before })) (lookup (same_pair.it q) b.moments))
    (last : Option Pair) (last_is : last ≡ cond (is_tried b.pages was && not (is_after (first_of was (moment + 1)) (moment_in b slot from))) (Some (record { slot = slot; value = from })) (mark_of b.pages at).last)
    (marks : (p : ℕ) → mark_of c.pages p ≡ record (mark_of b.pages p) { written = cond (eqb at p) false (mark_of b.pages p).written; last = cond (eqb at p) last (mark_of b.pages p).last })
    (known : (p : ℕ) → is_known c.pages p ≡ (eqb at p || is_known b.pages p)) where
  abbrev noted : Met
  noted = record { moment = moment + 1; before = before }

  abbrev first_met : Bool
  first_met = is_tried b.pages was && not (is_after (first_of was (moment + 1)) (moment_in b slot from))

  abbrev present : Record
  present = record { page = at; value = to; first = first_of was (moment + 1); moment = moment + 1 }

  record_here : (s : Slot) → same_slot slot s ≡ true → record_in c s ≡ Some present
  record_here s e = records s ∙ rw e

  record_there : (s : Slot) → same_slot slot s ≡ false → record_in c s ≡ record_in b s
  record_there s e = records s ∙ rw e

  moment_there : (s : Slot) (v : ℕ) → same_slot slot s ≡ false → moment_in c s v ≡ moment_in b s v
  moment_there s v e = moments (record { slot = s; value = v }) ∙ rw (pair_is slot s from v, e) (none first_met)
    where
      none : (t : Bool) → cond (t && false) (Some noted) (moment_in b s v) ≡ moment_in b s v
      none true = refl
      none false = refl

  moment_here : (v : ℕ) → moment_in c slot v ≡ cond (first_met && eqb from v) (Some noted) (moment_in b slot v)
  moment_here v = moments (record { slot = slot; value = v }) ∙ rw (pair_is slot slot from v, slot_same slot)

  now_live : is_live c.pages (Some present) ≡ true
  now_live = let h = is.settled at in rw (marks at) (grind (arith, nat_tests))

  tried_off : nat_le (moment + 1) (mark_of c.pages at).tried_at ≡ false
  tried_off = let h = is.tried at in rw (marks at) (grind (arith, nat_tests))

  or_true : (x : Bool) → true ≡ (x || true)
  or_true x = grind arith

  or_off : (x y : Bool) → (x || (y && false)) ≡ (x || false)
  or_off x y = grind arith

  now_met : (m : Option Met) (x y : Bool) → ((n : Met) → m ≡ Some n → n.moment ≤ moment) → (is_after (moment + 1) (cond (true && x) (Some noted) m) || (y && false)) ≡ (x || false)
  now_met m true y later = let le : nat_le (moment + 1) (moment + 1) ≡ true = grind (arith, nat_tests) in rw le
  now_met None false y later = or_off false y
  now_met (Some n) false y later = let h = later n refl in let gt : nat_le (moment + 1) n.moment ≡ false = grind (arith, nat_tests) in rw gt (or_off false y)

  none_after : (m : Option Met) → ((n : Met) → m ≡ Some n → n.moment ≤ moment) → is_after (moment + 1) m ≡ false
  none_after None later = refl
  none_after (Some n) later = let h = later n refl in grind (arith, nat_tests)

  unmet : (v : ℕ) (o : Option Record) (m : Option Met) → ((n : Met) → m ≡ Some n → n.moment ≤ moment) → was ≡ None → is_live b.pages o ≡ false
      → (is_after (first_of was (moment + 1)) (cond (first_met && eqb from v) (Some noted) m) || (eqb to v && false))
      ≡ ((not (is_live b.pages o) && eqb from v) || (is_live b.pages o && meets b.pages v m o))
  unmet v o m later e off = rw (e, off, none_after (moment_in b slot from) (is.met slot from)) (now_met m (eqb from v) (eqb to v) later)

  live_met : (first : ℕ) (m : Option Met) (x t a y : Bool) → first ≤ moment → (x ≡ true → a ≡ is_after first m)
      → (is_after first (cond ((t && not a) && x) (Some noted) m) || (y && false)) ≡ (is_after first m || (x && t))
  live_met first m true true true y h same = let k = same refl in rw (← k) (or_off true y)
  live_met first m true true false y h same = let le : nat_le first (moment + 1) ≡ true = grind (arith, nat_tests) in rw le (or_true (is_after first m))
  live_met first m true false a y h same = or_off (is_after first m) y
  live_met first m false true true y h same = or_off (is_after first m) y
  live_met first m false true false y h same = or_off (is_after first m) y
  live_met first m false false a y h same = or_off (is_after first m) y

  -- whether the slot met the value: the slot that was changed
  met_here : (v : ℕ) (o : Option Record) (m : Option Met) → (from ≡ v → m ≡ moment_in b slot from) → ((n : Met) → m ≡ Some n → n.moment ≤ moment) → ((r : Record) → o ≡ Some r → r.first ≤ moment) → was ≡ cond (is_live b.pages o) o None
      → (is_live b.pages o ≡ true → left_in o ≡ from)
      → (is_after (first_of was (moment + 1)) (cond (first_met && eqb from v) (Some noted) m) || (eqb to v && false))
      ≡ ((not (is_live b.pages o) && eqb from v) || (is_live b.pages o && meets b.pages v m o))
  met_here v None m same later first e left = unmet v None m later e refl
  met_here v (Some r) m same later first e left = elim (cases_Bool (is_live b.pages (Some r))) [
    | inr off ↦ unmet v (Some r) m later (e ∙ rw off) off
    | inl on ↦ rw (e, on) (rw (left on) (live_met r.first m (eqb from v) (nat_le r.moment (mark_of b.pages r.page).tried_at) (is_after r.first (moment_in b slot from)) (eqb to v) (first r refl) (λ h. ap (is_after r.first) (sym (same (eqb-true from v h))))))
  ]

  pub changed_is : (recorded_in b slot ≡ true → value_in b slot ≡ from) → Changed b c slot at from to
  changed_is left = record {
    recorded = λ s. elim (cases_Bool (same_slot slot s)) [
      | inl e ↦ rw (record_here s e, now_live, e)
      | inr e ↦ live_there s e ∙ rw e
    ];
    place = λ s. elim (cases_Bool (same_slot slot s)) [ inl e ↦ ap page_in (record_here s e) ∙ rw e | inr e ↦ ap page_in (record_there s e) ∙ rw e ];
    value = λ s. elim (cases_Bool (same_slot slot s)) [ inl e ↦ ap left_in (record_here s e) ∙ rw e | inr e ↦ ap left_in (record_there s e) ∙ rw e ];
    met = λ s v. elim (cases_Bool (same_slot slot s)) [
      | inl e ↦ subst (λ t. met_in c t v ≡ ((same_slot slot t && (not (recorded_in b t) && eqb from v)) || met_in b t v)) (slot_is slot s e) (here v)
      | inr e ↦ rw (live_there s e, meets_same b.pages c.pages (λ p. rw (marks p)) v (moment_in b s v) (moment_in c s v) (record_in b s) (record_in c s) (moment_there s v e) (record_there s e), e)
    ];
    written = λ p. ap (λ (m : Mark). m.written) (marks p) ∙ unwritten (eqb at p) (written_in b p);
  }
    where
      live_there : (s : Slot) → same_slot slot s ≡ false → recorded_in c s ≡ recorded_in b s
      live_there s e = live_same b.pages c.pages (λ p. rw (marks p)) (record_in b s) (record_in c s) (record_there s e)

      unwritten : (x w : Bool) → cond x false w ≡ (not x && w)
      unwritten true w = refl
      unwritten false w = refl

      here : (v : ℕ) → met_in c slot v ≡ ((same_slot slot slot && (not (recorded_in b slot) && eqb from v)) || met_in b slot v)
      here v = rw (record_here slot (slot_same slot), now_live, slot_same slot, moment_here v, tried_off)
          (met_here v (record_in b slot) (moment_in b slot v) (λ h. ap (moment_in b slot) (sym h)) (is.met slot v) (is.first slot) was_is left)

  pub placed_is : PlacedAt b c slot at
  placed_is = record {
    recorded = λ s. elim (cases_Bool (same_slot slot s)) [
      | inl e ↦ rw (record_here s e, now_live, e)
      | inr e ↦ live_same b.pages c.pages (λ p. rw (marks p)) (record_in b s) (record_in c s) (record_there s e) ∙ rw e
    ];
    place = λ s. elim (cases_Bool (same_slot slot s)) [ inl e ↦ ap page_in (record_here s e) ∙ rw e | inr e ↦ ap page_in (record_there s e) ∙ rw e ];
  }

  pub others_same : SameBut slot b c
  others_same = record {
    recorded = live_there;
    place = λ s e. ap page_in (record_there s e);
    value = λ s e. ap left_in (record_there s e);
    met = λ s v e. rw (live_there s e, meets_same b.pages c.pages (λ p. rw (marks p)) v (moment_in b s v) (moment_in c s v) (record_in b s) (record_in c s) (moment_there s v e) (record_there s e));
  }
    where
      live_there : (s : Slot) → same_slot slot s ≡ false → recorded_in c s ≡ recorded_in b s
      live_there s e = live_same b.pages c.pages (λ p. rw (marks p)) (record_in b s) (record_in c s) (record_there s e)

  pub changed_behind : (recorded_in b slot ≡ true → place_in b slot ≡ at) → AreBehind c (moment + 1)
  changed_behind stays = record {
    settled = λ p. let h = is.settled p in rw (marks p) (omega arith);
    tried = λ p. let h = is.tried p in rw (marks p) (omega arith);
    changed = λ s r h. elim (cases_Bool (same_slot slot s)) [
      | inl e ↦ let q = is_present s r e h in subst (λ (x : Record). x.moment ≤ moment + 1) q (omega arith)
      | inr e ↦ let old = is.changed s r (sym (record_there s e) ∙ h) in omega arith
    ];
    first = λ s r h. elim (cases_Bool (same_slot slot s)) [
      | inl e ↦ let q = is_present s r e h in subst (λ (x : Record). x.first ≤ moment + 1) q (first_le (recorded_in b slot) (record_in b slot) was_is (is.first slot))
      | inr e ↦ let old = is.first s r (sym (record_there s e) ∙ h) in omega arith
    ];
    known = λ s r h. elim (cases_Bool (same_slot slot s)) [
      | inl e ↦ let q = is_present s r e h in subst (λ (x : Record). is_known c.pages x.page ≡ true) q (known at ∙ rw (eq-eqb at at refl))
      | inr e ↦ known r.page ∙ rw (is.known s r (sym (record_there s e) ∙ h)) (sym (or_true (eqb at r.page)))
    ];
    noted = λ s r h on. elim (cases_Bool (same_slot slot s)) [
      | inl e ↦ let q = is_present s r e h in
          subst (λ (x : Record). is_some (mark_of c.pages x.page).last ≡ true) q (rw (marks at, eq-eqb at at refl) (rw last_is (noted_here first_met refl)))
      | inr e ↦ let was_on = sym (live_same b.pages c.pages (λ p. rw (marks p)) (Some r) (Some r) refl) ∙ on in
          rw (marks r.page) (noted_there r.page (is.noted s r (sym (record_there s e) ∙ h) was_on))
    ];
    met = λ s v m h. was_noted (first_met && same_pair.it (record { slot = slot; value = from }) (record { slot = s; value = v })) (moment_in b s v) m
        (sym (moments (record { slot = s; value = v })) ∙ h) (is.met s v);
  }
    where
      -- a slot that was recorded has something noted for its page, and else the value before is noted
      noted_before : (o : Option Record) → record_in b slot ≡ o → is_live b.pages o ≡ true → page_in o ≡ at → is_some (mark_of b.pages at).last ≡ true
      noted_before None e on place = absurd (cc)
      noted_before (Some r) e on place = subst (λ p. is_some (mark_of b.pages p).last ≡ true) place (is.noted slot r e on)

      noted_here : (t : Bool) → first_met ≡ t → is_some (cond t (Some (record { slot = slot; value = from })) (mark_of b.pages at).last) ≡ true
      noted_here true e = refl
      noted_here false e = elim (cases_Bool (recorded_in b slot)) [
        | inl on ↦ noted_before (record_in b slot) refl on (stays on)
        | inr off ↦ let none : was ≡ None = was_is ∙ rw off in
            let first : first_met ≡ true = rw (none, none_after (moment_in b slot from) (is.met slot from)) in
            let no : true ≡ false = sym first ∙ e in absurd (cc)
      ]

      noted_there : (p : ℕ) → is_some (mark_of b.pages p).last ≡ true → is_some (cond (eqb at p) last (mark_of b.pages p).last) ≡ true
      noted_there p h = elim (cases_Bool (eqb at p)) [
        | inl same ↦ rw (same, last_is) (either first_met (subst (λ k. is_some (mark_of b.pages k).last ≡ true) (sym (eqb-true at p same)) h))
        | inr apart ↦ rw apart h
      ]
        where
          either : (t : Bool) → is_some (mark_of b.pages at).last ≡ true → is_some (cond t (Some (record { slot = slot; value = from })) (mark_of b.pages at).last) ≡ true
          either true h = refl
          either false h = h

      is_present : (s : Slot) (r : Record) → same_slot slot s ≡ true → record_in c s ≡ Some r → present ≡ r
      is_present s r e h = let q : Some present ≡ Some r = sym (record_here s e) ∙ h in cc

      first_le : (l : Bool) (o : Option Record) → was ≡ cond l o None → ((r : Record) → o ≡ Some r → r.first ≤ moment) → first_of was (moment + 1) ≤ moment + 1
      first_le false o e first = rw e (omega arith)
      first_le true None e first = rw e (omega arith)
      first_le true (Some r) e first = let h = first r refl in rw e (omega arith)

      was_noted : (a : Bool) (o : Option Met) (m : Met) → cond a (Some noted) o ≡ Some m → ((n : Met) → o ≡ Some n → n.moment ≤ moment) → m.moment ≤ moment + 1
      was_noted true o m h old = let q : noted ≡ m = cc in subst (λ (x : Met). x.moment ≤ moment + 1) q (omega arith)
      was_noted false o m h old = let q = old m h in omega arith
