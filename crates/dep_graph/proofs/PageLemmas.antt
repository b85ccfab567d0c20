-- Look-ups in lists of page numbers.
use Rattle.std.proofs.Common.{◌≡◌, inl, inr, ℕ, suc, ◌+◌, ◌<◌, ◌≤◌, Bool, true, false, not, ◌&&◌, ◌||◌, List, [], ◌∷◌, ◌++◌, length, take, drop, filter, get_or, refl, sym, ◌∙◌, ap, subst, arith, eqb, ltb, eqb-true, eq-eqb, ne_eqb}
use Rattle.std.proofs.lemmas.Bool.{cases_Bool, cases_eq, cases_lt, or_parts, or_right, lt-ltb, ltb-true, ltb-false}
use Rattle.std.proofs.lemmas.List.{length-append, length-drop, length-take-le}
use Rattle.std.specs.List.Sorted.{IsPartitionedBy, IsPartitionPoint}
use Rattle.dep_graph.specs.Rising.{Leads, Rises}
use Rattle.dep_graph.specs.Pages.{holds, IsAt, IsPlace, IsRising}
use Rattle.dep_graph.proofs.RisingLemmas.{partitioned, leads_at, rises_at, rises_insert, rises_remove, absent_after, any_insert, any_remove, any_at, any_none, any_where}

pub flip : (a b : ℕ) → eqb a b ≡ eqb b a
flip a b = elim (cases_eq a b) [
  | inl e ↦ rw e
  | inr ne ↦ ne_eqb a b ne ∙ sym (ne_eqb b a (λ e. ne (sym e)))
]

apart : (a b : ℕ) → a < b → (eqb a b ≡ false) × (eqb b a ≡ false)
apart a b lt = (ne_eqb a b (λ e. omega arith), ne_eqb b a (λ e. omega arith))

-- a test that the pages below one meet cuts the list in two
pub parted : (ps : List ℕ) (page : ℕ) → IsRising ps → IsPartitionedBy (λ p. ltb p page) ps
parted ps page up = partitioned (λ a b. a < b) (λ p. ltb p page) (λ a b lt h. lt-ltb a page (let under = ltb-true b page h in omega arith)) ps up

pub place_from : (ps : List ℕ) (page k : ℕ) → k ≤ length ps → IsPartitionPoint (λ p. ltb p page ≡ true) (λ p. ltb p page ≡ false) ps k → IsPlace ps page k
place_from ps page k le point = record {
  within = le;
  below = λ j lt. ltb-true _ _ (point.0 j 0 (omega arith) lt);
  above = λ j from lt. ltb-false _ _ (point.1 j 0 from lt);
}

-- the place of a page cuts the list
pub found : (ps : List ℕ) (k page : ℕ) → k < length ps → get_or ps k 0 ≡ page → holds ps page ≡ true
found ps k page lt is = any_at (λ p. eqb p page) ps k 0 lt (eq-eqb _ _ is)

pub not_found : (ps : List ℕ) (k page : ℕ) → IsRising ps → IsPlace ps page k → (k < length ps → get_or ps k 0 ≡ page → ⊥) → holds ps page ≡ false
not_found ps k page up at ne = any_none (λ p. eqb p page) ps 0 (λ j lt. ne_eqb _ _ (λ e. elim (cases_lt j k) [
  | inl before ↦ let b = at.below j before in omega arith
  | inr from ↦ elim (cases_eq j k) [
    | inl same ↦ ne (omega arith) (ap (λ i. get_or ps i 0) (sym same) ∙ e)
    | inr other ↦
        let k_lt : k < length ps = omega arith in
        let more = rises_at (λ a b. a < b) ps 0 up k j (omega arith) lt in
        let least = at.above k (omega arith) k_lt in
        omega arith
  ]
]))

pub held_at : (ps : List ℕ) (k page : ℕ) → IsRising ps → IsPlace ps page k → k < length ps → eqb (get_or ps k 0) page ≡ holds ps page
held_at ps k page up at lt = elim (cases_eq (get_or ps k 0) page) [
  | inl is ↦ eq-eqb _ _ is ∙ sym (found ps k page lt is)
  | inr ne ↦ ne_eqb _ _ ne ∙ sym (not_found ps k page up at (λ in' is. ne is))
]

-- the page that is held stands at its place
pub at_place : (ps : List ℕ) (k page : ℕ) → IsRising ps → IsPlace ps page k → holds ps page ≡ true → IsAt ps page k
at_place ps k page up at h =
    let w = any_where (λ p. eqb p page) ps 0 h in
    let is : get_or ps w.0 0 ≡ page = eqb-true _ _ w.2 in
    elim (cases_lt w.0 k) [
      | inl before ↦ absurd (let b = at.below w.0 before in omega arith)
      | inr from ↦ elim (cases_eq w.0 k) [
        | inl same ↦ record { within = omega (arith, w.1, same); is = ap (λ i. get_or ps i 0) (sym same) ∙ is }
        | inr other ↦ absurd (
            let lt : k < w.0 = omega (arith, from, other) in
            let within : k < length ps = omega (arith, lt, w.1) in
            let more = rises_at (λ a b. a < b) ps 0 up k w.0 lt w.1 in
            let least = at.above k (omega arith) within in
            omega arith)
      ]
    ]

pub holds_insert : (ps : List ℕ) (k page a : ℕ) → holds (take k ps ++ page ∷ drop k ps) a ≡ holds ps a || eqb a page
holds_insert ps k page a = any_insert (λ p. eqb p a) ps k page ∙ ap (λ b. holds ps a || b) (flip page a)

pub rising_insert : (ps : List ℕ) (k page : ℕ) → IsRising ps → IsPlace ps page k → holds ps page ≡ false → IsRising (take k ps ++ page ∷ drop k ps)
rising_insert ps k page up at absent = rises_insert (λ a b. a < b) ps k page 0 up at.within at.below (λ j from lt. elim (cases_eq (get_or ps j 0) page) [
  | inl is ↦ absurd (let on : holds ps page ≡ true = found ps j page lt is in cc)
  | inr ne ↦ let least = at.above j from lt in omega arith
])

pub holds_remove : (ps : List ℕ) (k page a : ℕ) → IsRising ps → k < length ps → get_or ps k 0 ≡ page → holds (take k ps ++ drop (suc k) ps) a ≡ holds ps a && not (eqb a page)
holds_remove ps k page a up lt is = elim (cases_eq a page) [
  | inl e ↦ rw (e, eq-eqb page page refl) (gone ∙ off (holds ps page))
  | inr ne ↦ rw (ne_eqb a page ne) (stay (holds (take k ps ++ drop (suc k) ps) a) (holds ps a) (any_remove (λ p. eqb p a) ps k 0 lt ∙ ap (λ b. holds (take k ps ++ drop (suc k) ps) a || b) (ap (λ x. eqb x a) is ∙ ne_eqb page a (λ e. ne (sym e)))))
]
  where
    gone : holds (take k ps ++ drop (suc k) ps) page ≡ false
    gone = subst (λ x. holds (take k ps ++ drop (suc k) ps) x ≡ false) is (absent_after (λ a b. a < b) eqb apart ps k 0 up lt)

    off : (x : Bool) → false ≡ (x && not true)
    off x = grind arith

    stay : (x y : Bool) → y ≡ (x || false) → x ≡ (y && not false)
    stay x y e = grind arith

-- a page that is held is at least the first
pub leads_holds : (x : ℕ) (ps : List ℕ) (a : ℕ) → Leads (λ a b. a < b) x ps → holds ps a ≡ true → x < a
leads_holds x ps a up h =
    let w = any_where (λ p. eqb p a) ps 0 h in
    let is : get_or ps w.0 0 ≡ a = eqb-true _ _ w.2 in
    let led : x < get_or ps w.0 0 = leads_at (λ a b. a < b) x ps 0 up w.0 w.1 in
    omega arith

least_is : (p : ℕ) (ps : List ℕ) (a : ℕ) → Leads (λ a b. a < b) p ps → holds (p ∷ ps) a ≡ true → p ≤ a
least_is p ps a up h = elim (cases_eq p a) [
  | inl same ↦ omega arith
  | inr ne ↦ let more : p < a = leads_holds p ps a up (rw (ne_eqb p a ne) at h) in omega arith
]

-- pages of which each is one of the others are no more
pub fewer : (ps qs : List ℕ) → IsRising ps → IsRising qs → ((a : ℕ) → holds ps a ≡ true → holds qs a ≡ true) → length ps ≤ length qs
unfolding Rises
fewer [] qs up on sub = omega arith
fewer (p ∷ ps) [] up on sub = absurd (let bad : false ≡ true = sub p (rw (eq-eqb p p refl)) in cc)
fewer (p ∷ ps) (q ∷ qs) up on sub = elim (cases_eq p q) [
  | inl same ↦
      let rest : length ps ≤ length qs = fewer ps qs up.1 on.1 (λ a h. let lt : p < a = leads_holds p ps a up.0 h in past a (omega arith) (sub a (later a h))) in
      omega arith
  | inr ne ↦
      let above : q < p = leads_holds q qs p on.0 (not_head p (λ e. ne (sym e)) (sub p first)) in
      let rest : suc (length ps) ≤ length qs = fewer (p ∷ ps) qs up on.1 (λ a h. let le : p ≤ a = least_is p ps a up.0 h in past a (omega arith) (sub a h)) in
      omega arith
]
  where
    first : holds (p ∷ ps) p ≡ true
    first = rw (eq-eqb p p refl)

    later : (a : ℕ) → holds ps a ≡ true → holds (p ∷ ps) a ≡ true
    later a h = or_right (eqb p a) (holds ps a) h

    not_head : (a : ℕ) → (q ≡ a → ⊥) → holds (q ∷ qs) a ≡ true → holds qs a ≡ true
    not_head a other h = rw (ne_eqb q a other) at h

    past : (a : ℕ) → q < a → holds (q ∷ qs) a ≡ true → holds qs a ≡ true
    past a lt h = not_head a (λ e. omega arith) h

-- and one fewer, where one of the others is not there
pub fewer_by_one : (ps qs : List ℕ) (x : ℕ) → IsRising ps → IsRising qs → ((a : ℕ) → holds ps a ≡ true → holds qs a ≡ true) → holds qs x ≡ true → holds ps x ≡ false → length ps < length qs
unfolding Rises
fewer_by_one ps [] x up on sub h off = absurd (cc)
fewer_by_one [] (q ∷ qs) x up on sub h off = omega arith
fewer_by_one (p ∷ ps) (q ∷ qs) x up on sub h off = elim (cases_eq p q) [
  | inl same ↦
      let off_rest = or_parts (eqb p x) (holds ps x) off in
      let on_rest : holds qs x ≡ true = rw (ap (λ y. eqb y x) (sym same) ∙ off_rest.0) at h in
      let rest : length ps < length qs = fewer_by_one ps qs x up.1 on.1 (λ a held. let lt : p < a = leads_holds p ps a up.0 held in past a (omega arith) (sub a (or_right (eqb p a) (holds ps a) held))) on_rest off_rest.1 in
      omega arith
  | inr ne ↦
      let above : q < p = leads_holds q qs p on.0 (rw (ne_eqb q p (λ e. ne (sym e))) at (sub p (rw (eq-eqb p p refl)))) in
      let rest : suc (length ps) ≤ length qs = fewer (p ∷ ps) qs up on.1 (λ a held. let le : p ≤ a = least_is p ps a up.0 held in past a (omega arith) (sub a held)) in
      omega arith
]
  where
    past : (a : ℕ) → q < a → holds (q ∷ qs) a ≡ true → holds qs a ≡ true
    past a lt held = rw (ne_eqb q a (λ e. omega arith)) at held

-- the page at a place is the least that is not below it
pub least_from : (ps : List ℕ) (k from a : ℕ) → IsRising ps → IsPlace ps from k → holds ps a ≡ true → from ≤ a → (k < length ps) × (get_or ps k 0 ≤ a)
least_from ps k from a up at h le =
    let w = any_where (λ p. eqb p a) ps 0 h in
    let is : get_or ps w.0 0 ≡ a = eqb-true _ _ w.2 in
    let after : k ≤ w.0 = elim (cases_lt w.0 k) [
      | inl before ↦ absurd (let b = at.below w.0 before in omega arith)
      | inr past ↦ past
    ] in (
      omega (arith, w.1, after),
      elim (cases_eq k w.0) [
        | inl same ↦ let e : get_or ps k 0 ≡ a = ap (λ i. get_or ps i 0) same ∙ is in omega arith
        | inr other ↦ let lt : get_or ps k 0 < get_or ps w.0 0 = rises_at (λ a b. a < b) ps 0 up k w.0 (omega (arith, after, other)) w.1 in omega arith
      ],
    )

pub holds_filter : (q : ℕ → Bool) (ps : List ℕ) (a : ℕ) → holds (filter q ps) a ≡ holds ps a && q a
holds_filter q [] a = refl
holds_filter q (p ∷ ps) a = elim (cases_eq p a) [
  | inl e ↦ elim (cases_Bool (q p)) [
    | inl is ↦ rw (is, holds_filter q ps a, eq-eqb p a e, ap q (sym e), is)
    | inr off ↦ rw (off, holds_filter q ps a, eq-eqb p a e, ap q (sym e), off) (never (holds ps a))
  ]
  | inr ne ↦ elim (cases_Bool (q p)) [
    | inl is ↦ rw (is, holds_filter q ps a, ne_eqb p a ne)
    | inr off ↦ rw (off, holds_filter q ps a, ne_eqb p a ne)
  ]
]
  where
    never : (x : Bool) → (x && false) ≡ false
    never x = grind arith

-- lists of the same pages are as long
pub as_long : (ps qs : List ℕ) → IsRising ps → IsRising qs → ((a : ℕ) → holds ps a ≡ holds qs a) → length ps ≡ length qs
as_long ps qs up on same =
    let le = fewer ps qs up on (λ a h. sym (same a) ∙ h) in
    let ge = fewer qs ps on up (λ a h. same a ∙ h) in
    omega arith

-- a list of one page less is shorter by 1
pub shorter_by_one : (ps qs : List ℕ) (x : ℕ) → IsRising ps → IsRising qs → ((a : ℕ) → holds qs a ≡ holds ps a && not (eqb a x)) → holds ps x ≡ true → length ps ≡ length qs + 1
shorter_by_one ps qs x up on less there =
    let w = any_where (λ p. eqb p x) ps 0 there in
    let rest = as_long (take w.0 ps ++ drop (suc w.0) ps) qs (rises_remove (λ a b. a < b) ps w.0 up) on (λ a. holds_remove ps w.0 x a up w.1 (eqb-true _ _ w.2) ∙ sym (less a)) in
    let len = length-append (take w.0 ps) (drop (suc w.0) ps) in
    let front = length-take-le w.0 ps (omega (arith, w.1)) in
    let back = length-drop (suc w.0) ps in
    omega (arith, w.1)

-- and one of one page more is longer by 1
pub longer_by_one : (ps qs : List ℕ) (x : ℕ) → IsRising ps → IsRising qs → ((a : ℕ) → holds qs a ≡ holds ps a || eqb a x) → holds ps x ≡ false → length qs ≡ length ps + 1
longer_by_one ps qs x up on more off = shorter_by_one qs ps x on up (λ a. rw (more a) (without a)) (more x ∙ or_right _ _ (eq-eqb x x refl))
  where
    stays : (y : Bool) → y ≡ ((y || false) && not false)
    stays y = grind arith

    without : (a : ℕ) → holds ps a ≡ ((holds ps a || eqb a x) && not (eqb a x))
    without a = elim (cases_eq a x) [
      | inl e ↦ rw (e, eq-eqb x x refl, off)
      | inr ne ↦ rw (ne_eqb a x ne) (stays (holds ps a))
    ]
