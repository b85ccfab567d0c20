-- What birth_marks was told accounts for the possible values of its slots.
use Rattle.std.proofs.Common.{◌≡◌, ◌≢◌, ◌⊎◌, inl, inr, ℕ, true, false, ◌||◌, cond, refl, sym, ap, ◌∙◌, subst, List, [], ◌∷◌, eq-eqb, eqb-true, ne_eqb, true≢false}
use Rattle.std.proofs.lemmas.Bool.{cases_eq, cases_Bool, or_cases, or_left, or_right, or_parts, and_parts, and_from, not-true, not_from_false}
use Rattle.order_model.specs.World.{Layout, World, Possible}
use Rattle.engine_model.specs.DeviceSteps.{Barrier, KeepsMarks, MovesMarks, Taken, AtRest}
use Rattle.engine_model.specs.Edits.{CacheOnly}
use Rattle.order_model.specs.declared.Slot.{Slot}
use Rattle.order_model.specs.declared.Slot.TheVariants.{Name, Print}
use Rattle.order_model.specs.Calls.{Call, Change, Tried, Written, Fixed, same_slot, wrote_last, since, is_changed, value_left, is_met, is_unborn}
use Rattle.engine_model.specs.Births.{AllDirty, Edit, BirthKnown, Leads, told, place_of, value_in, cached_value}

pub same_is_slot : (a b : Slot) → same_slot a b ≡ true → a ≡ b
same_is_slot (Name a) (Name b) h = ap Name (eqb-true a b h)
same_is_slot (Name a) (Print b) h = absurd (true≢false (sym h))
same_is_slot (Print a) (Name b) h = absurd (true≢false (sym h))
same_is_slot (Print a) (Print b) h = ap Print (eqb-true a b h)

pub start_births : (lay : Layout) (w : World) (slot : Slot) → AtRest w → BirthKnown lay w [] slot
start_births lay w slot rest = record {
  recorded = λ c h q. absurd (true≢false (sym h));
  unrecorded = λ c h q. ap (value_in lay slot) (rest.one _ c q ∙ sym (rest.cached _));
  left = λ h. absurd (true≢false (sym h));
  written = λ h. absurd (true≢false (sym h));
  node = λ h. absurd (true≢false (sym h));
}

-- where the slot is not recorded and its page is settled
pub settled_births : (lay : Layout) (w : World) (calls : List Call) (slot : Slot) → is_changed slot (since (place_of lay slot) calls) ≡ false
    → ((c : List ℕ) → Possible w (place_of lay slot) c → c ≡ w.cached (place_of lay slot)) → BirthKnown lay w calls slot
settled_births lay w calls slot off one = record {
  recorded = λ c h q. absurd (true≢false (sym h ∙ off));
  unrecorded = λ c h q. ap (value_in lay slot) (one c q);
  left = λ h. absurd (true≢false (sym h ∙ off));
  written = λ h. ap (value_in lay slot) (one _ (inl refl));
  node = λ h. absurd (true≢false (sym h ∙ off));
}

pub tried_births : (lay : Layout) (w : World) (calls : List Call) (slot : Slot) (page : ℕ) → BirthKnown lay w calls slot → BirthKnown lay w (Tried page ∷ calls) slot
tried_births lay w calls slot page old = record {
  recorded = λ c h q. or_right _ _ (old.recorded c h q);
  unrecorded = old.unrecorded;
  left = old.left;
  written = old.written;
  node = old.node;
}

module _ (lay : Layout) (w v : World) (calls : List Call) (slot : Slot) (page : ℕ) (old : BirthKnown lay w calls slot) (t : Taken w v page) where
  same_cached : cached_value lay v slot ≡ cached_value lay w slot
  same_cached = ap (value_in lay slot) (t.cached _)

  -- the content that was written has the cached value
  here : (c : List ℕ) → place_of lay slot ≡ page → c ≡ w.cached page → value_in lay slot c ≡ cached_value lay w slot
  here c e is = ap (value_in lay slot) (is ∙ ap w.cached (sym e))

  recorded : (c : List ℕ) → is_changed slot (since (place_of lay slot) calls) ≡ true → Possible v (place_of lay slot) c
      → is_met slot (place_of lay slot) (value_in lay slot c) (since (place_of lay slot) (Tried page ∷ calls)) ≡ true
  recorded c h q = elim (t.possible _ c q) [
    | inl was ↦ or_right _ _ (old.recorded c h was)
    | inr n ↦ or_left _ _ (and_from _ _ (eq-eqb page _ (sym n.0)) (and_from _ _ h (eq-eqb _ _ (old.left h ∙ sym (here c n.0 n.1)))))
  ]

  unrecorded : (c : List ℕ) → is_changed slot (since (place_of lay slot) calls) ≡ false → Possible v (place_of lay slot) c → value_in lay slot c ≡ cached_value lay v slot
  unrecorded c h q = elim (t.possible _ c q) [ inl was ↦ old.unrecorded c h was | inr n ↦ here c n.0 n.1 ] ∙ sym same_cached

  newest_here : place_of lay slot ≡ page → value_in lay slot (v.newest (place_of lay slot)) ≡ cached_value lay v slot
  newest_here e = here (v.newest (place_of lay slot)) e (ap v.newest e ∙ t.newest_here) ∙ sym same_cached

  newest_other : place_of lay slot ≢ page → wrote_last (place_of lay slot) calls ≡ true → value_in lay slot (v.newest (place_of lay slot)) ≡ cached_value lay v slot
  newest_other ne h = ap (value_in lay slot) (t.newest_other _ ne) ∙ old.written h ∙ sym same_cached

  pub failed_births : KeepsMarks w v → BirthKnown lay v (Tried page ∷ calls) slot
  failed_births m = record {
    node = λ h. elim (old.node h) [ inl y ↦ inl (m.dirty _ ∙ y) | inr y ↦ inr (m.hung _ ∙ y.0, y.1) ];
    recorded = recorded;
    unrecorded = unrecorded;
    left = λ h. old.left h ∙ sym same_cached;
    written = λ h. elim (cases_eq (place_of lay slot) page) [ inl e ↦ newest_here e | inr ne ↦ newest_other ne h ];
  }

  pub done_births : MovesMarks lay w v page → BirthKnown lay v (Written page ∷ (Tried page ∷ calls)) slot
  done_births m = record {
    node = λ h. elim (cases_eq (place_of lay slot) page) [
      | inl e ↦ inr (m.hung _ ∙ or_right _ _ (eq-eqb _ page e), or_left _ _ (eq-eqb page _ (sym e)))
      | inr ne ↦ elim (old.node h) [
        | inl y ↦ inl (m.dirty _ ∙ and_from _ _ y (not_from_false _ (ne_eqb _ page ne)))
        | inr y ↦ inr (m.hung _ ∙ or_left _ _ y.0, or_right _ _ y.1)
      ]
    ];
    recorded = recorded;
    unrecorded = unrecorded;
    left = λ h. old.left h ∙ sym same_cached;
    written = λ h. elim (cases_eq (place_of lay slot) page) [
      | inl e ↦ newest_here e
      | inr ne ↦ newest_other ne (elim (or_cases _ _ h) [ inl is ↦ absurd (ne (sym (eqb-true page _ is))) | inr more ↦ more ])
    ];
  }

pub fixed_births : (lay : Layout) (w v : World) (calls : List Call) (slot : Slot) → BirthKnown lay w calls slot → Barrier w v → BirthKnown lay v (Fixed ∷ calls) slot
fixed_births lay w v calls slot old b =
    let same : cached_value lay v slot ≡ cached_value lay w slot = ap (value_in lay slot) (b.cached _) in
    let now : wrote_last (place_of lay slot) calls ≡ true → value_in lay slot (v.newest (place_of lay slot)) ≡ cached_value lay v slot =
    λ h. ap (value_in lay slot) (b.newest _) ∙ old.written h ∙ sym same in
    elim (cases_Bool (wrote_last (place_of lay slot) calls)) [
      | inl settled ↦ record {
        recorded = λ c h q. absurd (true≢false (sym h ∙ ap (λ x. is_changed slot (cond x [] (Fixed ∷ since (place_of lay slot) calls))) settled));
        unrecorded = λ c h q. ap (value_in lay slot) (b.possible _ c q) ∙ old.written settled ∙ sym same;
        left = λ h. absurd (true≢false (sym h ∙ ap (λ x. is_changed slot (cond x [] (Fixed ∷ since (place_of lay slot) calls))) settled));
        written = now;
        node = λ h. absurd (true≢false (sym h ∙ ap (λ x. is_changed slot (cond x [] (Fixed ∷ since (place_of lay slot) calls))) settled));
      }
      | inr no_cycle ↦
          let still : since (place_of lay slot) (Fixed ∷ calls) ≡ Fixed ∷ since (place_of lay slot) calls = ap (λ x. cond x [] (Fixed ∷ since (place_of lay slot) calls)) no_cycle in
          record {
            recorded = λ c h q. ap (is_met slot (place_of lay slot) (value_in lay slot c)) still ∙ old.recorded c (sym (ap (is_changed slot) still) ∙ h) (inl (b.possible _ c q));
            unrecorded = λ c h q. old.unrecorded c (sym (ap (is_changed slot) still) ∙ h) (inl (b.possible _ c q)) ∙ sym same;
            left = λ h. ap (value_left slot) still ∙ old.left (sym (ap (is_changed slot) still) ∙ h) ∙ sym same;
            written = now;
            node = λ h. elim (old.node (sym (ap (is_changed slot) still) ∙ h)) [ inl y ↦ inl (b.dirty _ ∙ y) | inr y ↦ absurd (true≢false (sym y.1 ∙ no_cycle)) ];
          }
    ]

-- the same of a slot whose cached value is x
record ValueKnown (lay : Layout) (w : World) (calls : List Call) (slot : Slot) (x : ℕ) : Type 0 where
  recorded : (c : List ℕ) → is_changed slot (since (place_of lay slot) calls) ≡ true → Possible w (place_of lay slot) c
      → is_met slot (place_of lay slot) (value_in lay slot c) (since (place_of lay slot) calls) ≡ true
  unrecorded : (c : List ℕ) → is_changed slot (since (place_of lay slot) calls) ≡ false → Possible w (place_of lay slot) c → value_in lay slot c ≡ x
  left : is_changed slot (since (place_of lay slot) calls) ≡ true → value_left slot (since (place_of lay slot) calls) ≡ x
  written : wrote_last (place_of lay slot) calls ≡ true → value_in lay slot (w.newest (place_of lay slot)) ≡ x

module _ (lay : Layout) (w : World) (slot : Slot) where
  one_edit : (calls : List Call) (e : Edit) (x : ℕ) → same_slot e.slot slot ≡ true → e.at ≡ place_of lay slot → ValueKnown lay w calls slot e.from
      → ValueKnown lay w (Change e.slot e.at e.from e.to ∷ calls) slot e.to
  one_edit calls e x is at old = record {
    recorded = λ c h q. elim (cases_Bool (is_changed slot (since (place_of lay slot) calls))) [
      | inl changed ↦ or_right _ _ (old.recorded c changed q)
      | inr first ↦ or_left _ _ (and_from _ _ is (and_from _ _ (not_from_false _ first) (eq-eqb _ _ (sym (old.unrecorded c first q)))))
    ];
    unrecorded = λ c h q. absurd (true≢false (sym is ∙ (or_parts _ _ h).0));
    left = λ h. rw is;
    written = λ h. absurd (true≢false (sym (eq-eqb e.at _ at) ∙ not-true _ (and_parts _ _ h).0));
  }

  other_edit : (calls : List Call) (e : Edit) (x : ℕ) → same_slot e.slot slot ≡ false → ValueKnown lay w calls slot x
      → ValueKnown lay w (Change e.slot e.at e.from e.to ∷ calls) slot x
  other_edit calls e x off old = record {
    recorded = λ c h q. or_right _ _ (old.recorded c (still h) q);
    unrecorded = λ c h q. old.unrecorded c (or_parts _ _ h).1 q;
    left = λ h. rw off (old.left (still h));
    written = λ h. old.written (and_parts _ _ h).1;
  }
    where
      still : is_changed slot (since (place_of lay slot) (Change e.slot e.at e.from e.to ∷ calls)) ≡ true → is_changed slot (since (place_of lay slot) calls) ≡ true
      still h = elim (or_cases _ _ h) [ inl is ↦ absurd (true≢false (sym is ∙ off)) | inr more ↦ more ]

  edits_known : (calls : List Call) (edits : List Edit) (x y : ℕ) → ValueKnown lay w calls slot x → Leads lay slot edits x y → ValueKnown lay w (told edits calls) slot y
  edits_known calls [] x y old leads = subst (λ z. ValueKnown lay w calls slot z) leads old
  edits_known calls (e ∷ es) x y old leads = elim (cases_Bool (same_slot e.slot slot)) [
    | inl is ↦ let q = leads.0 is in
        subst (λ z. ValueKnown lay w (Change e.slot e.at e.from e.to ∷ told es calls) slot z) q.1 (one_edit (told es calls) e x is q.0 (edits_known calls es x e.from old q.2))
    | inr off ↦ other_edit (told es calls) e y off (edits_known calls es x y old (leads.1 off))
  ]

-- the pages of changed slots are dirty
node_edited : (lay : Layout) (w v : World) (calls : List Call) (edits : List Edit) (slot : Slot) (x y : ℕ) → BirthKnown lay w calls slot → CacheOnly lay w v → AllDirty v edits
    → Leads lay slot edits x y → is_changed slot (since (place_of lay slot) (told edits calls)) ≡ true
    → (v.dirty (place_of lay slot) ≡ true) ⊎ ((v.hung (place_of lay slot) ≡ true) × (wrote_last (place_of lay slot) (told edits calls) ≡ true))
node_edited lay w v calls [] slot x y old rest dirty leads h = elim (old.node h) [ inl d ↦ inl (rest.dirty_kept _ d) | inr d ↦ inr (rest.hung _ ∙ d.0, d.1) ]
node_edited lay w v calls (e ∷ es) slot x y old rest dirty leads h = elim (cases_eq e.at (place_of lay slot)) [
  | inl at ↦ inl (ap v.dirty (sym at) ∙ dirty.0)
  | inr ne ↦ elim (cases_Bool (same_slot e.slot slot)) [
    | inl is ↦ absurd (ne (leads.0 is).0)
    | inr off ↦ elim (node_edited lay w v calls es slot x y old rest dirty.1 (leads.1 off) (sym (ap (λ b. b || is_changed slot (since (place_of lay slot) (told es calls))) off) ∙ h)) [
      | inl d ↦ inl d
      | inr d ↦ inr (d.0, and_from _ _ (not_from_false _ (ne_eqb e.at _ ne)) d.1)
    ]
  ]
]

pub edited_births : (lay : Layout) (w v : World) (calls : List Call) (edits : List Edit) (slot : Slot) → BirthKnown lay w calls slot → CacheOnly lay w v → AllDirty v edits
    → Leads lay slot edits (cached_value lay w slot) (cached_value lay v slot) → BirthKnown lay v (told edits calls) slot
edited_births lay w v calls edits slot old rest dirty leads =
    let now = edits_known lay w slot calls edits (cached_value lay w slot) (cached_value lay v slot)
    (record { recorded = old.recorded; unrecorded = old.unrecorded; left = old.left; written = old.written }) leads in
    record {
      recorded = λ c h q. now.recorded c h (rest.possible _ c q);
      unrecorded = λ c h q. now.unrecorded c h (rest.possible _ c q);
      left = now.left;
      written = λ h. ap (value_in lay slot) (rest.newest _) ∙ now.written h;
      node = node_edited lay w v calls edits slot (cached_value lay w slot) (cached_value lay v slot) old rest dirty leads;
    }

-- an unborn value is in no possible content
pub unborn_births : (lay : Layout) (w : World) (calls : List Call) (slot : Slot) (value : ℕ) → BirthKnown lay w calls slot → is_unborn slot (place_of lay slot) value calls ≡ true
    → (c : List ℕ) → Possible w (place_of lay slot) c → value_in lay slot c ≢ value
unborn_births lay w calls slot value old u c q e =
    let parts = and_parts _ _ u in
    true≢false (sym (old.recorded c parts.0 q) ∙ ap (λ x. is_met slot (place_of lay slot) x (since (place_of lay slot) calls)) e ∙ not-true _ parts.1)
