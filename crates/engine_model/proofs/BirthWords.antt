-- The test of birth_marks says what its words say.
use Rattle.std.proofs.Common.{◌≡◌, ◌≢◌, ◌⊎◌, inl, inr, ℕ, true, false, ◌||◌, cond, refl, sym, ap, ◌∙◌, List, [], ◌∷◌, eq-eqb, eqb-true, true≢false}
use Rattle.std.proofs.lemmas.Bool.{cases_Bool, or_cases, or_left, or_right, or_parts, and_parts, and_from, not-true, not_from_false, false_from_ne_true}
use Rattle.order_model.specs.Calls.{Call, Change, Fixed, Tried, Written, is_changed, is_met, is_unborn, same_slot, since, value_left}
use Rattle.order_model.specs.declared.Slot.{Slot}
use Rattle.engine_model.specs.Births.{GoesOn, TriedWith, value_after}

module _ (slot : Slot) (x page v : ℕ) where
  unchanged_value : (cs : List Call) → is_changed slot cs ≡ false → value_after slot x cs ≡ x
  unchanged_value [] h = refl
  unchanged_value (Change s at from to ∷ cs) h = let q = or_parts _ _ h in ap (λ b. cond b to (value_after slot x cs)) q.0 ∙ unchanged_value cs q.1
  unchanged_value (Tried at ∷ cs) h = unchanged_value cs h
  unchanged_value (Written at ∷ cs) h = unchanged_value cs h
  unchanged_value (Fixed ∷ cs) h = unchanged_value cs h

  changed_value : (cs : List Call) → is_changed slot cs ≡ true → value_after slot x cs ≡ value_left slot cs
  changed_value [] h = absurd (true≢false (sym h))
  changed_value (Change s at from to ∷ cs) h = elim (cases_Bool (same_slot s slot)) [
    | inl is ↦ ap (λ b. cond b to (value_after slot x cs)) is ∙ sym (ap (λ b. cond b to (value_left slot cs)) is)
    | inr off ↦ ap (λ b. cond b to (value_after slot x cs)) off ∙ changed_value cs (sym (ap (λ b. b || is_changed slot cs) off) ∙ h) ∙ sym (ap (λ b. cond b to (value_left slot cs)) off)
  ]
  changed_value (Tried at ∷ cs) h = changed_value cs h
  changed_value (Written at ∷ cs) h = changed_value cs h
  changed_value (Fixed ∷ cs) h = changed_value cs h

  met_words : (cs : List Call) → GoesOn slot x cs → is_met slot page v cs ≡ true → (v ≡ x) ⊎ TriedWith slot x page v cs
  met_words [] g h = absurd (true≢false (sym h))
  met_words (Change s at from to ∷ cs) g h = elim (or_cases _ _ h) [
    | inr more ↦ met_words cs g.1 more
    | inl here ↦
        let q = and_parts _ _ here in
        let first = and_parts _ _ q.1 in
        inl (sym (eqb-true from v first.1) ∙ g.0 q.0 ∙ unchanged_value cs (not-true _ first.0))
  ]
  met_words (Tried at ∷ cs) g h = elim (or_cases _ _ h) [
    | inr more ↦ elim (met_words cs g more) [ inl e ↦ inl e | inr t ↦ inr (inr t) ]
    | inl here ↦
        let q = and_parts _ _ here in
        let was = and_parts _ _ q.1 in
        inr (inl (eqb-true at page q.0, changed_value cs was.0 ∙ eqb-true _ v was.1))
  ]
  met_words (Written at ∷ cs) g h = met_words cs g h
  met_words (Fixed ∷ cs) g h = met_words cs g h

  base_met : (cs : List Call) → GoesOn slot x cs → is_changed slot cs ≡ true → v ≡ x → is_met slot page v cs ≡ true
  base_met [] g h e = absurd (true≢false (sym h))
  base_met (Change s at from to ∷ cs) g h e = elim (cases_Bool (is_changed slot cs)) [
    | inl more ↦ or_right _ _ (base_met cs g.1 more e)
    | inr first ↦
        let is : same_slot s slot ≡ true = elim (or_cases _ _ h) [ inl i ↦ i | inr more ↦ absurd (true≢false (sym more ∙ first)) ] in
        or_left _ _ (and_from _ _ is (and_from _ _ (not_from_false _ first) (eq-eqb from v (g.0 is ∙ unchanged_value cs first ∙ sym e))))
  ]
  base_met (Tried at ∷ cs) g h e = or_right _ _ (base_met cs g h e)
  base_met (Written at ∷ cs) g h e = base_met cs g h e
  base_met (Fixed ∷ cs) g h e = base_met cs g h e

  tried_met : (cs : List Call) → TriedWith slot x page v cs → (is_met slot page v cs ≡ true) ⊎ (v ≡ x)
  tried_met [] t = absurd t
  tried_met (Change s at from to ∷ cs) t = elim (tried_met cs t) [ inl m ↦ inl (or_right _ _ m) | inr e ↦ inr e ]
  tried_met (Tried at ∷ cs) (inl t) = elim (cases_Bool (is_changed slot cs)) [
    | inl changed ↦ inl (or_left _ _ (and_from _ _ (eq-eqb at page t.0) (and_from _ _ changed (eq-eqb _ v (sym (changed_value cs changed) ∙ t.1)))))
    | inr first ↦ inr (sym t.1 ∙ unchanged_value cs first)
  ]
  tried_met (Tried at ∷ cs) (inr t) = elim (tried_met cs t) [ inl m ↦ inl (or_right _ _ m) | inr e ↦ inr e ]
  tried_met (Written at ∷ cs) t = tried_met cs t
  tried_met (Fixed ∷ cs) t = tried_met cs t

  pub unborn_to : (calls : List Call) → GoesOn slot x (since page calls) → is_unborn slot page v calls ≡ true
      → (is_changed slot (since page calls) ≡ true) × (v ≢ x) × (TriedWith slot x page v (since page calls) → ⊥)
  unborn_to calls g u =
      let q = and_parts _ _ u in
      let not_met : is_met slot page v (since page calls) ≡ true → ⊥ = λ m. true≢false (sym m ∙ not-true _ q.1) in (
        q.0,
        (λ e. not_met (base_met (since page calls) g q.0 e)),
        (λ t. elim (tried_met (since page calls) t) [ inl m ↦ not_met m | inr e ↦ not_met (base_met (since page calls) g q.0 e) ]),
      )

  pub unborn_from : (calls : List Call) → GoesOn slot x (since page calls)
      → (is_changed slot (since page calls) ≡ true) × (v ≢ x) × (TriedWith slot x page v (since page calls) → ⊥) → is_unborn slot page v calls ≡ true
  unborn_from calls g w = and_from _ _ w.0 (not_from_false _ (false_from_ne_true _ (λ m. elim (met_words (since page calls) g m) [ inl e ↦ w.1 e | inr t ↦ w.2 t ])))
