-- What is kept for a page is reached from the pair that was noted last for it, and is taken out from there.
use Rattle.std.proofs.Common.{◌≡◌, ◌⊎◌, ⊎_elim, inl, inr, ℕ, zero, suc, ◌≤◌, ◌<◌, ◌+◌, ◌&&◌, Bool, true, false, cond, eqb, List, Option, Some, None, refl, sym, ◌∙◌, ap, arith, eq-eqb, eqb-true}
use Rattle.std.specs.Prelude.{is_some}
use Rattle.std.specs.Map.{lookup}
use Rattle.std.proofs.lemmas.Bool.{and_parts, cases_Bool}
use Rattle.order_model.specs.declared.Slot.{Slot}
use Rattle.birth_marks.specs.declared.births.Met.{Met}
use Rattle.birth_marks.specs.declared.births.Pair.{Pair}
use Rattle.birth_marks.specs.declared.births.Record.{Record}
use Rattle.birth_marks.specs.contracts.births.PairPartialEq.TheImpl.{eq-value as same_pair}
use Rattle.order_model.specs.Calls.{same_slot}
use Rattle.birth_marks.specs.Kept.{Gone, HeadsPage, TakenOff, stands_on}
use Rattle.birth_marks.proofs.TableLemmas.{slot_is, slot_same}

-- equal pairs
pub pair_same : (q n : Pair) → same_pair.it q n ≡ true → q ≡ n
pair_same q n h = let both = and_parts (same_slot q.slot n.slot) (eqb q.value n.value) h in
    ap (λ (s : Slot). record { slot = s; value = q.value }) (slot_is q.slot n.slot both.0) ∙ ap (λ (v : ℕ). record { slot = n.slot; value = v }) (eqb-true q.value n.value both.1)

pub pair_itself : (q : Pair) → same_pair.it q q ≡ true
pair_itself q = ap (λ (b : Bool). b && eqb q.value q.value) (slot_same q.slot) ∙ eq-eqb q.value q.value refl

pub slots_apart : (q n : Pair) → same_slot q.slot n.slot ≡ false → same_pair.it q n ≡ false
slots_apart q n off = ap (λ (b : Bool). b && eqb q.value n.value) off

-- what stands there
pub found : {A : Type 0} (o : Option A) → is_some o ≡ true → (a : A) × (o ≡ Some a)
found None h = absurd (cc)
found (Some a) h = (a, refl)

pub is_there : {A : Type 0} (o : Option A) (a : A) → o ≡ Some a → is_some o ≡ true
is_there o a e = rw e refl

pub one_of : {A : Type 0} (a b : A) → Some a ≡ Some b → a ≡ b
one_of a b e = cc

module _ (page moment : ℕ) (last : Option Pair) (rs : List (Slot × Record)) (ms : List (Pair × Met)) (heads : HeadsPage page moment last rs ms) where
  -- nothing is taken out yet
  pub taken_start : TakenOff page last rs ms rs ms
  taken_start = record {
    other_slots = λ s off. refl;
    other_pairs = λ q off. refl;
    were = λ s r h. h;
    noted = λ q m h. h;
    whole = λ s v r h. refl;
    reached = heads.reached;
    next_on = λ q h. (heads.head q h).1;
    earlier = λ q h. let m = found (lookup (same_pair.it q) ms) (heads.head q h).0 in (m.0, (m.1, λ n k e on le. e));
  }

  -- the next pair, with its slot
  module _ (q : Pair) (rs' : List (Slot × Record)) (ms' : List (Pair × Met)) (k : TakenOff page (Some q) rs ms rs' ms') (m : Met) (at : lookup (same_pair.it q) ms' ≡ Some m) (rs'' : List (Slot × Record)) (ms'' : List (Pair × Met))
      (records : (s : Slot) → lookup (same_slot s) rs'' ≡ cond (same_slot q.slot s) None (lookup (same_slot s) rs'))
      (moments : (n : Pair) → lookup (same_pair.it n) ms'' ≡ cond (same_pair.it q n) None (lookup (same_pair.it n) ms')) where
    on_page : stands_on page (lookup (same_slot q.slot) rs) ≡ true
    on_page = k.next_on q refl

    at_first : lookup (same_pair.it q) ms ≡ Some m
    at_first = k.noted q m at

    other_slot : (s : Slot) → stands_on page (lookup (same_slot s) rs) ≡ false → same_slot q.slot s ≡ false
    other_slot s off = elim (cases_Bool (same_slot q.slot s)) [
      | inr e ↦ e
      | inl e ↦ let no : true ≡ false = sym on_page ∙ (ap (λ (t : Slot). stands_on page (lookup (same_slot t) rs)) (slot_is q.slot s e) ∙ off) in absurd (cc)
    ]

    still : (n : Pair) (x : Met) → same_pair.it q n ≡ false → lookup (same_pair.it n) ms' ≡ Some x → lookup (same_pair.it n) ms'' ≡ Some x
    still n x off h = moments n ∙ rw off h

    was : (n : Pair) (x : Met) → lookup (same_pair.it n) ms'' ≡ Some x → (same_pair.it q n ≡ false) × (lookup (same_pair.it n) ms' ≡ Some x)
    was n x h = elim (cases_Bool (same_pair.it q n)) [
      | inl e ↦ let no : None ≡ Some x = sym (moments n ∙ rw e refl) ∙ h in absurd (cc)
      | inr e ↦ (e, sym (moments n ∙ rw e refl) ∙ h)
    ]

    -- an earlier pair is another
    before_it : (n : Pair) (x : Met) → lookup (same_pair.it n) ms ≡ Some x → x.moment < m.moment → same_pair.it q n ≡ false
    before_it n x h lt = elim (cases_Bool (same_pair.it q n)) [
      | inr e ↦ e
      | inl e ↦ let one : m ≡ x = one_of m x (sym at_first ∙ (ap (λ (p : Pair). lookup (same_pair.it p) ms) (pair_same q n e) ∙ h)) in
          let same : m.moment ≡ x.moment = ap (λ (y : Met). y.moment) one in absurd (omega (arith, lt, same))
    ]

    -- the one that leads to a pair, after this one
    leads : (n : Pair) (x : Met) → same_pair.it q n ≡ false
        → (Some q ≡ Some n) ⊎ ((l : Pair) × ((y : Met) × ((lookup (same_pair.it l) ms' ≡ Some y) × ((y.before ≡ Some n) × (stands_on page (lookup (same_slot l.slot) rs) ≡ true)))))
        → (m.before ≡ Some n) ⊎ ((l : Pair) × ((y : Met) × ((lookup (same_pair.it l) ms'' ≡ Some y) × ((y.before ≡ Some n) × (stands_on page (lookup (same_slot l.slot) rs) ≡ true)))))
    leads n x off (inl next) = let one : q ≡ n = one_of q n next in
        let no : true ≡ false = sym (pair_itself q) ∙ (ap (same_pair.it q) one ∙ off) in absurd (cc)
    leads n x off (inr (l, (y, (h, (back, on))))) = elim (cases_Bool (same_pair.it q l)) [
      | inl e ↦ let one : m ≡ y = one_of m y (sym at ∙ (ap (λ (p : Pair). lookup (same_pair.it p) ms') (pair_same q l e) ∙ h)) in
          inl (ap (λ (z : Met). z.before) one ∙ back)
      | inr e ↦ inr (l, (y, (still l y e h, (back, on))))
    ]

    pub taken_one : TakenOff page m.before rs ms rs'' ms''
    taken_one = record {
      other_slots = λ s off. records s ∙ rw (other_slot s off) (k.other_slots s off);
      other_pairs = λ n off. moments n ∙ rw (slots_apart q n (other_slot n.slot off)) (k.other_pairs n off);
      were = λ s r h. k.were s r (left s r h).1;
      noted = λ n x h. k.noted n x (was n x h).1;
      whole = λ s v r h. let l = left s r h in
          moments (record { slot = s; value = v }) ∙ rw (slots_apart q (record { slot = s; value = v }) l.0) (k.whole s v r l.1);
      reached = λ n x h on. let w = was n x h in leads n x w.0 (k.reached n x w.1 on);
      next_on = λ n h. (heads.back q m n at_first on_page h).1.1.1;
      earlier = λ n h. earlier n h (heads.back q m n at_first on_page h) (k.earlier q refl);
    }
      where
        left : (s : Slot) (r : Record) → lookup (same_slot s) rs'' ≡ Some r → (same_slot q.slot s ≡ false) × (lookup (same_slot s) rs' ≡ Some r)
        left s r h = elim (cases_Bool (same_slot q.slot s)) [
          | inl e ↦ let no : None ≡ Some r = sym (records s ∙ rw e refl) ∙ h in absurd (cc)
          | inr e ↦ (e, sym (records s ∙ rw e refl) ∙ h)
        ]

        earlier : (n : Pair) → m.before ≡ Some n
            → (x : Met) × ((lookup (same_pair.it n) ms ≡ Some x) × ((x.moment < m.moment) × (stands_on page (lookup (same_slot n.slot) rs) ≡ true)))
            → (y : Met) × ((lookup (same_pair.it q) ms' ≡ Some y) × ((l : Pair) (z : Met) → lookup (same_pair.it l) ms ≡ Some z → stands_on page (lookup (same_slot l.slot) rs) ≡ true → z.moment ≤ y.moment → lookup (same_pair.it l) ms' ≡ Some z))
            → (x : Met) × ((lookup (same_pair.it n) ms'' ≡ Some x) × ((l : Pair) (z : Met) → lookup (same_pair.it l) ms ≡ Some z → stands_on page (lookup (same_slot l.slot) rs) ≡ true → z.moment ≤ x.moment → lookup (same_pair.it l) ms'' ≡ Some z))
        earlier n h (x, (there, (lt, on))) (y, (e, all)) =
            let one : m.moment ≡ y.moment = ap (λ (z : Met). z.moment) (one_of m y (sym at ∙ e)) in (
              x,
              (
                still n x (before_it n x there lt) (all n x there on (omega (arith, lt, one))),
                λ l z f on_it le. still l z (before_it l z f (omega (arith, le, lt))) (all l z f on_it (omega (arith, le, lt, one))),
              ),
            )

  -- at the end nothing of the page is left
  module _ (rs' : List (Slot × Record)) (ms' : List (Pair × Met)) (k : TakenOff page None rs ms rs' ms') where
    none_left : (fuel : ℕ) (q : Pair) (m : Met) → moment < m.moment + fuel → lookup (same_pair.it q) ms' ≡ Some m → stands_on page (lookup (same_slot q.slot) rs) ≡ true → ⊥
    none_left zero q m lt h on = omega (arith, lt, heads.behind q m (k.noted q m h))
    none_left (suc fuel) q m lt h on = ⊎_elim
        (λ next. let no : None ≡ Some q = next in cc)
        (λ by. later (none_left fuel) by)
        (k.reached q m h on)
      where
        later : ((n : Pair) (x : Met) → moment < x.moment + fuel → lookup (same_pair.it n) ms' ≡ Some x → stands_on page (lookup (same_slot n.slot) rs) ≡ true → ⊥)
            → ((n : Pair) × ((x : Met) × ((lookup (same_pair.it n) ms' ≡ Some x) × ((x.before ≡ Some q) × (stands_on page (lookup (same_slot n.slot) rs) ≡ true))))) → ⊥
        later none (n, (x, (e, (back, on_it)))) = let b = heads.back n x q (k.noted n x e) on_it back in
            let one : b.0.moment ≡ m.moment = ap (λ (z : Met). z.moment) (one_of b.0 m (sym b.1.0 ∙ k.noted q m h)) in
            none n x (omega (arith, lt, b.1.1.0, one)) e on_it

    no_pair : (q : Pair) → stands_on page (lookup (same_slot q.slot) rs) ≡ true → (o : Option Met) → lookup (same_pair.it q) ms' ≡ o → o ≡ None
    no_pair q on None e = refl
    no_pair q on (Some m) e = absurd (none_left (suc moment) q m (omega arith) e on)

    no_slot : (s : Slot) → stands_on page (lookup (same_slot s) rs) ≡ true → (o : Option Record) → lookup (same_slot s) rs' ≡ o → o ≡ None
    no_slot s on None e = refl
    no_slot s on (Some r) e = let v = heads.noted s on in
        let m = found (lookup (same_pair.it (record { slot = s; value = v.0 })) ms) v.1 in
        absurd (none_left (suc moment) (record { slot = s; value = v.0 }) m.0 (omega arith) (k.whole s v.0 r e ∙ m.1) on)

    pub all_gone : Gone page rs ms rs' ms'
    all_gone = record {
      slots = λ s. elim (cases_Bool (stands_on page (lookup (same_slot s) rs))) [
        | inl on ↦ no_slot s on (lookup (same_slot s) rs') refl ∙ sym (ap (λ (t : Bool). cond t None (lookup (same_slot s) rs)) on)
        | inr off ↦ k.other_slots s off ∙ sym (ap (λ (t : Bool). cond t None (lookup (same_slot s) rs)) off)
      ];
      pairs = λ q. elim (cases_Bool (stands_on page (lookup (same_slot q.slot) rs))) [
        | inl on ↦ no_pair q on (lookup (same_pair.it q) ms') refl ∙ sym (ap (λ (t : Bool). cond t None (lookup (same_pair.it q) ms)) on)
        | inr off ↦ k.other_pairs q off ∙ sym (ap (λ (t : Bool). cond t None (lookup (same_pair.it q) ms)) off)
      ];
    }
