-- What is recorded follows the list of calls.
use Rattle.std.proofs.Common.{◌≡◌, ◌⊎◌, inl, inr, ℕ, ◌&&◌, ◌||◌, Bool, true, false, not, cond, eqb, List, [], ◌∷◌, refl, sym, ◌∙◌, ap, subst, arith, eq-eqb}
use Rattle.std.proofs.lemmas.Bool.{and_parts, cases_Bool}
use Rattle.order_model.specs.declared.Slot.{Slot}
use Rattle.order_model.specs.Calls.{Call, Change, Fixed, Tried, Written, is_changed, is_met, is_unborn, same_slot, since, value_left, wrote_last}
use Rattle.birth_marks.proofs.TableLemmas.{slot_is}
use Rattle.birth_marks.specs.Births.{BirthsView, Changed, FixedAll, Remembers, Same, TriedAt, WrittenAt, met_in, place_in, recorded_in, value_in, written_in}

tried_step : (p q x y at v : ℕ) (r l m n : Bool) → r ≡ l → m ≡ n → (r ≡ true → p ≡ q) → (r ≡ true → x ≡ y) → ((eqb at p && (r && eqb x v)) || m) ≡ ((eqb at q && (l && eqb y v)) || n)
tried_step p q x y at v true l m n e f place value = let d = place refl in let g = value refl in cc
tried_step p q x y at v false l m n e f place value = rw (← e, f) (neither (eqb at p) (eqb at q) n)
  where
    neither : (x y z : Bool) → ((x && false) || z) ≡ ((y && false) || z)
    neither x y z = grind arith

settle_step : (x r l w u : Bool) → x ≡ (r && not w) → r ≡ l → (r ≡ true → w ≡ u) → x ≡ (l && not u)
settle_step x true l w u h e f = let d = f refl in cc
settle_step x false l w u h e f = h ∙ rw (← e)

change_step : (s r l x m n : Bool) → r ≡ l → m ≡ n → ((s && (not r && x)) || m) ≡ ((s && (not l && x)) || n)
change_step s r l x m n e f = cc

unborn_step : (x y z w : Bool) → x ≡ y → z ≡ w → (x && not z) ≡ (y && not w)
unborn_step x y z w e f = cc

and_off : (x : Bool) → (x && false) ≡ false
and_off x = grind arith

and_on : (x : Bool) → (x && true) ≡ x
and_on x = grind arith

settled_changed : (s : Slot) (w x : Bool) (calls : List Call) → x ≡ (is_changed s calls && not w) → x ≡ is_changed s (cond w [] (Fixed ∷ calls))
settled_changed s true x calls h = h ∙ and_off (is_changed s calls)
settled_changed s false x calls h = h ∙ and_on (is_changed s calls)

not_true : (x y : Bool) → true ≡ (x && not y) → y ≡ false
not_true x true h = let e : true ≡ false = h ∙ and_off x in absurd (cc)
not_true x false h = refl

module _ (place : Slot → ℕ) (b c : BirthsView) (calls : List Call) (is : Remembers place b calls) where
  pub same_remembered : Same b c → Remembers place c calls
  same_remembered k = record {
    recorded = λ s. k.slots.recorded s ∙ is.recorded s;
    place_is = λ s h. k.slots.place s ∙ is.place_is s (sym (k.slots.recorded s) ∙ h);
    value = λ s h. k.slots.value s ∙ is.value s (sym (k.slots.recorded s) ∙ h);
    met = λ s v. k.met s v ∙ is.met s v;
    written = λ s h. k.written (place s) ∙ is.written s (sym (k.slots.recorded s) ∙ h);
  }

  pub tried_remembered : (at : ℕ) → TriedAt b c at → Remembers place c (Tried at ∷ calls)
  tried_remembered at k = record {
    recorded = λ s. k.slots.recorded s ∙ is.recorded s;
    place_is = λ s h. k.slots.place s ∙ is.place_is s (sym (k.slots.recorded s) ∙ h);
    value = λ s h. k.slots.value s ∙ is.value s (sym (k.slots.recorded s) ∙ h);
    met = λ s v. k.met s v ∙ met s v;
    written = λ s h. k.written (place s) ∙ is.written s (sym (k.slots.recorded s) ∙ h);
  }
    where
      met : (s : Slot) (v : ℕ) → ((eqb at (place_in b s) && (recorded_in b s && eqb (value_in b s) v)) || met_in b s v)
          ≡ ((eqb at (place s) && (is_changed s (since (place s) calls) && eqb (value_left s (since (place s) calls)) v)) || is_met s (place s) v (since (place s) calls))
      met s v = tried_step (place_in b s) (place s) (value_in b s) (value_left s (since (place s) calls)) at v (recorded_in b s) (is_changed s (since (place s) calls)) (met_in b s v)
          (is_met s (place s) v (since (place s) calls)) (is.recorded s) (is.met s v) (is.place_is s) (is.value s)

  pub written_remembered : (at : ℕ) → WrittenAt b c at → Remembers place c (Written at ∷ calls)
  written_remembered at k = record {
    recorded = λ s. k.slots.recorded s ∙ is.recorded s;
    place_is = λ s h. k.slots.place s ∙ is.place_is s (sym (k.slots.recorded s) ∙ h);
    value = λ s h. k.slots.value s ∙ is.value s (sym (k.slots.recorded s) ∙ h);
    met = λ s v. k.met s v ∙ is.met s v;
    written = λ s h. let on = sym (k.slots.recorded s) ∙ h in
        let e = is.place_is s on in
        subst (λ p. written_in c p ≡ (eqb at p || wrote_last p calls)) e
        (k.here s on ∙ ap (λ w. eqb at (place_in b s) || w) (subst (λ p. written_in b p ≡ wrote_last p calls) (sym e) (is.written s on)));
  }

  pub fixed_remembered : FixedAll b c → Remembers place c (Fixed ∷ calls)
  fixed_remembered k = record {
    recorded = λ s. settled_changed s (wrote_last (place s) calls) (recorded_in c s) (since (place s) calls) (left s);
    place_is = λ s h. k.place s h ∙ is.place_is s (was s h);
    value = λ s h. k.value s h ∙ is.value s (was s h) ∙ rw (unwritten s h);
    met = λ s v. met s v (cases_Bool (wrote_last (place s) calls));
    written = λ s h. let on = was s h in
        let e = is.place_is s on in
        subst (λ p. written_in c p ≡ wrote_last p calls) e (k.written s h ∙ subst (λ p. written_in b p ≡ wrote_last p calls) (sym e) (is.written s on));
  }
    where
      was : (s : Slot) → recorded_in c s ≡ true → recorded_in b s ≡ true
      was s h = (and_parts (recorded_in b s) _ (sym (k.recorded s) ∙ h)).0

      left : (s : Slot) → recorded_in c s ≡ (is_changed s (since (place s) calls) && not (wrote_last (place s) calls))
      left s = settle_step (recorded_in c s) (recorded_in b s) (is_changed s (since (place s) calls)) (written_in b (place_in b s)) (wrote_last (place s) calls) (k.recorded s) (is.recorded s)
          (λ on. ap (written_in b) (is.place_is s on) ∙ is.written s on)

      unwritten : (s : Slot) → recorded_in c s ≡ true → wrote_last (place s) calls ≡ false
      unwritten s h = not_true (is_changed s (since (place s) calls)) (wrote_last (place s) calls) (sym h ∙ left s)

      thrice : (x m : Bool) → ((x && true) && (x && m)) ≡ (x && m)
      thrice x m = grind arith

      still : (s : Slot) (v : ℕ) (x : Bool) → x ≡ (recorded_in b s && true) → (x && met_in b s v) ≡ met_in b s v
      still s v x e = rw e (thrice (recorded_in b s) _)

      met : (s : Slot) (v : ℕ) → (wrote_last (place s) calls ≡ true) ⊎ (wrote_last (place s) calls ≡ false)
          → met_in c s v ≡ is_met s (place s) v (cond (wrote_last (place s) calls) [] (Fixed ∷ since (place s) calls))
      met s v (inl w) = let gone : recorded_in c s ≡ false = left s ∙ rw w (and_off (is_changed s (since (place s) calls))) in k.met s v ∙ ap (λ x. x && met_in b s v) gone ∙ rw w
      met s v (inr w) = let there : recorded_in c s ≡ (recorded_in b s && true) = left s ∙ rw w (ap (λ x. x && true) (sym (is.recorded s))) in
          k.met s v ∙ still s v (recorded_in c s) there ∙ is.met s v ∙ rw w

  pub changed_remembered : (slot : Slot) (at from to : ℕ) → place slot ≡ at → Changed b c slot at from to → Remembers place c (Change slot at from to ∷ calls)
  changed_remembered slot at from to on k = record {
    recorded = λ s. k.recorded s ∙ ap (λ x. same_slot slot s || x) (is.recorded s);
    place_is = λ s h. k.place s ∙ elim (cases_Bool (same_slot slot s)) [
      | inl e ↦ rw e (sym on ∙ ap place (slot_is slot s e))
      | inr e ↦ rw e (is.place_is s (was s h e))
    ];
    value = λ s h. k.value s ∙ elim (cases_Bool (same_slot slot s)) [ inl e ↦ rw e | inr e ↦ rw e (is.value s (was s h e)) ];
    met = λ s v. k.met s v ∙ change_step (same_slot slot s) (recorded_in b s) (is_changed s (since (place s) calls)) (eqb from v) (met_in b s v) (is_met s (place s) v (since (place s) calls)) (is.recorded s) (is.met s v);
    written = λ s h. k.written (place s) ∙ elim (cases_Bool (same_slot slot s)) [
      | inl e ↦ rw (eq-eqb at (place s) (sym on ∙ ap place (slot_is slot s e)))
      | inr e ↦ ap (λ x. not (eqb at (place s)) && x) (is.written s (was s h e))
    ];
  }
    where
      was : (s : Slot) → recorded_in c s ≡ true → same_slot slot s ≡ false → recorded_in b s ≡ true
      was s h e = or_right_only (same_slot slot s) (recorded_in b s) (sym (k.recorded s) ∙ h) e
        where
          or_right_only : (x y : Bool) → (x || y) ≡ true → x ≡ false → y ≡ true
          or_right_only x y h e = grind arith

pub nothing_remembered : (place : Slot → ℕ) (b : BirthsView) → ((s : Slot) → recorded_in b s ≡ false) → Remembers place b []
nothing_remembered place b none = record {
  recorded = none;
  place_is = λ s h. absurd (off s h);
  value = λ s h. absurd (off s h);
  met = λ s v. rw (none s);
  written = λ s h. absurd (off s h);
}
  where
    off : (s : Slot) → recorded_in b s ≡ true → ⊥
    off s h = let e : true ≡ false = sym h ∙ none s in cc

pub unborn_remembered : (place : Slot → ℕ) (b : BirthsView) (calls : List Call) → Remembers place b calls → (s : Slot) (v : ℕ) → (recorded_in b s && not (met_in b s v)) ≡ is_unborn s (place s) v calls
unborn_remembered place b calls is s v = unborn_step (recorded_in b s) (is_changed s (since (place s) calls)) (met_in b s v) (is_met s (place s) v (since (place s) calls)) (is.recorded s) (is.met s v)
