-- Look-ups in lists of pairs.
use Rattle.std.proofs.Common.{◌≡◌, ◌⊎◌, inl, inr, ℕ, zero, suc, ◌+◌, ◌-◌, ◌<◌, ◌≤◌, Bool, true, false, not, ◌&&◌, ◌||◌, List, [], ◌∷◌, ◌++◌, length, take, drop, get_or, refl, sym, ◌∙◌, ap, subst, arith, eqb, ltb, leb, eqb-true, eq-eqb, ne_eqb, filter}
use Rattle.std.proofs.lemmas.Bool.{and_parts, and_from, and_left, and_right, cases_Bool, cases_lt, cases_order, le-leb, leb-false, leb-true, lt-ltb, ltb-false, ltb-true, or_cases, or_from, or_left, or_right, true≢false}
use Rattle.std.specs.List.Sorted.{IsPartitionedBy, IsPartitionPoint}
use Rattle.dep_graph.specs.declared.pairs.Pair.{Pair}
use Rattle.dep_graph.specs.Rising.{Rises}
use Rattle.dep_graph.specs.Pairs.{has_pair, ends_at, from_page, not_from_page, same_pair, AreRising, IsPairPlace, IsRange, Precedes, precedes}
use Rattle.dep_graph.proofs.RisingLemmas.{absent_after, any_at, any_insert, any_none, any_remove, leads_at, partitioned, rises_at, rises_insert}
use Rattle.dep_graph.proofs.PageLemmas.{flip}

pub precedes_on : (p q r : Pair) → Precedes p q → Precedes q r → Precedes p r
precedes_on p q r (inl a) (inl b) = inl (omega arith)
precedes_on p q r (inl a) (inr b) = let e = b.0 in inl (omega arith)
precedes_on p q r (inr a) (inl b) = let e = a.0 in inl (omega arith)
precedes_on p q r (inr a) (inr b) = let e = a.0 in let f = b.0 in let g = a.1 in let h = b.1 in inr (omega arith, omega arith)

pub apart : (p q : Pair) → Precedes p q → (same_pair p q ≡ false) × (same_pair q p ≡ false)
apart p q (inl lt) = (
  and_left _ _ (ne_eqb p.before q.before (λ e. omega arith)),
  and_left _ _ (ne_eqb q.before p.before (λ e. omega arith)),
)
apart p q (inr b) =
    let lt : p.after < q.after = b.1 in
    (and_right _ _ (ne_eqb p.after q.after (λ e. omega arith)), and_right _ _ (ne_eqb q.after p.after (λ e. omega arith)))

-- of two pairs one precedes the other, or they are the same
pub trichotomy : (p q : Pair) → Precedes p q ⊎ (Precedes q p ⊎ (same_pair p q ≡ true))
trichotomy p q = elim (cases_order p.before q.before) [
  | inr (inl lt) ↦ inl (inl lt)
  | inr (inr gt) ↦ inr (inl (inl gt))
  | inl e ↦ elim (cases_order p.after q.after) [
    | inr (inl lt) ↦ inl (inr (e, lt))
    | inr (inr gt) ↦ inr (inl (inr (sym e, gt)))
    | inl f ↦ inr (inr (and_from _ _ (eq-eqb _ _ e) (eq-eqb _ _ f)))
  ]
]

pub found : (ps : List Pair) (k : ℕ) (pair d : Pair) → k < length ps → same_pair (get_or ps k d) pair ≡ true → has_pair ps pair.before pair.after ≡ true
found ps k pair d lt is = any_at (λ p. eqb p.before pair.before && eqb p.after pair.after) ps k d lt is

pub not_found : (ps : List Pair) (k : ℕ) (pair d : Pair) → AreRising ps → IsPairPlace ps pair k → (k < length ps → same_pair (get_or ps k d) pair ≡ false) → has_pair ps pair.before pair.after ≡ false
not_found ps k pair d up at ne = any_none (λ p. eqb p.before pair.before && eqb p.after pair.after) ps d (λ j lt. elim (cases_order j k) [
  | inl same ↦ subst (λ n. same_pair (get_or ps n d) pair ≡ false) (sym same) (ne (omega arith))
  | inr (inl before) ↦ (apart (get_or ps j d) pair (at.below j d before)).0
  | inr (inr past) ↦
      let k_lt : k < length ps = omega arith in
      let more : Precedes (get_or ps k d) (get_or ps j d) = rises_at Precedes ps d up k j past lt in
      elim (trichotomy (get_or ps k d) pair) [
        | inl less ↦ absurd (at.above k d (omega arith) k_lt less)
        | inr (inl led) ↦ (apart pair (get_or ps j d) (precedes_on pair (get_or ps k d) (get_or ps j d) led more)).1
        | inr (inr same) ↦ absurd (let off = ne k_lt in cc)
      ]
])

pub has_insert : (ps : List Pair) (k : ℕ) (pair : Pair) (a b : ℕ) → has_pair (take k ps ++ pair ∷ drop k ps) a b ≡ has_pair ps a b || (eqb a pair.before && eqb b pair.after)
has_insert ps k pair a b = any_insert (λ p. eqb p.before a && eqb p.after b) ps k pair ∙ rw (flip pair.before a, flip pair.after b)

pub ends_insert : (ps : List Pair) (k : ℕ) (pair : Pair) (b : ℕ) → ends_at (take k ps ++ pair ∷ drop k ps) b ≡ ends_at ps b + ends_at (pair ∷ []) b
unfolding ends_at
ends_insert ps zero pair b = omega arith
ends_insert [] (suc k) pair b = omega arith
ends_insert (p ∷ ps) (suc k) pair b = let more = ends_insert ps k pair b in omega arith

pub rising_insert : (ps : List Pair) (k : ℕ) (pair : Pair) → AreRising ps → IsPairPlace ps pair k → has_pair ps pair.before pair.after ≡ false → AreRising (take k ps ++ pair ∷ drop k ps)
rising_insert ps k pair up at absent = rises_insert Precedes ps k pair pair up at.within (λ j lt. at.below j pair lt) (λ j from lt. elim (trichotomy (get_or ps j pair) pair) [
  | inl less ↦ absurd (at.above j pair from lt less)
  | inr (inl led) ↦ led
  | inr (inr same) ↦ absurd (let on = found ps j pair pair lt same in cc)
])

-- what a test that only a stretch of the list passes keeps and leaves
module _ {X : Type 0} (q : X → Bool) where
  filter_none : (xs : List X) (d : X) → ((j : ℕ) → j < length xs → q (get_or xs j d) ≡ false) → (filter q xs ≡ []) × (filter (λ x. not (q x)) xs ≡ xs)
  filter_none [] d h = (refl, refl)
  filter_none (x ∷ xs) d h = let rest = filter_none xs d (λ j lt. h (suc j) (omega arith)) in rw (h zero (omega arith)) (rest.0, ap (λ ys. x ∷ ys) rest.1)

  pub cut : (xs : List X) (s e : ℕ) (d : X) → s ≤ e → e ≤ length xs → ((j : ℕ) → j < s → q (get_or xs j d) ≡ false) → ((j : ℕ) → s ≤ j → j < e → q (get_or xs j d) ≡ true)
      → ((j : ℕ) → e ≤ j → j < length xs → q (get_or xs j d) ≡ false) → (filter q xs ≡ take (e - s) (drop s xs)) × (filter (λ x. not (q x)) xs ≡ take s xs ++ drop e xs)
  cut xs zero zero d order within below inside above = filter_none xs d (λ j lt. above j (omega arith) lt)
  cut xs (suc s) zero d order within below inside above = absurd (omega arith)
  cut [] s (suc e) d order within below inside above = absurd (omega arith)
  cut (x ∷ xs) zero (suc e) d order within below inside above =
      let rest = cut xs zero e d (omega arith) (omega arith) (λ j lt. absurd (omega arith)) (λ j from lt. inside (suc j) (omega arith) (omega arith)) (λ j from lt. above (suc j) (omega arith) (omega arith)) in
      let less : suc e - 0 ≡ suc (e - 0) = omega arith in
      rw (inside zero (omega arith) (omega arith), less) (ap (λ ys. x ∷ ys) rest.0, rest.1)
  cut (x ∷ xs) (suc s) (suc e) d order within below inside above =
      let rest = cut xs s e d (omega arith) (omega arith) (λ j lt. below (suc j) (omega arith)) (λ j from lt. inside (suc j) (omega arith) (omega arith)) (λ j from lt. above (suc j) (omega arith) (omega arith)) in
      let less : suc e - suc s ≡ e - s = omega arith in
      rw (below zero (omega arith), less) (rest.0, ap (λ ys. x ∷ ys) rest.1)

-- the pairs that begin at a page, and the others
pub range_filter : (ps : List Pair) (page first end : ℕ) → IsRange ps page first end → (from_page ps page ≡ take (end - first) (drop first ps)) × (not_from_page ps page ≡ take first ps ++ drop end ps)
range_filter ps page first end r = let d : Pair = record { before = 0; after = 0 } in
    cut (λ (p : Pair). eqb p.before page) ps first end d r.order r.within (λ j lt. ne_eqb _ _ (λ e. let b = r.below j d lt in omega arith)) (λ j from lt. eq-eqb _ _ (r.inside j d from lt)) (λ j from lt. ne_eqb _ _ (λ e. let b = r.above j d from lt in omega arith))

-- what a binary search at a page finds
pub range_from : (ps : List Pair) (page first end : ℕ) → AreRising ps → first ≤ length ps → end ≤ length ps
    → IsPartitionPoint (λ (p : Pair). ltb p.before page ≡ true) (λ p. ltb p.before page ≡ false) ps first
    → IsPartitionPoint (λ (p : Pair). leb p.before page ≡ true) (λ p. leb p.before page ≡ false) ps end → IsRange ps page first end
range_from ps page first end up in' within low high = record {
  order = elim (cases_lt end first) [
    | inr le ↦ le
    | inl lt ↦ absurd (let a = ltb-true _ _ (low.0 end none (omega arith) lt) in let b = leb-false _ _ (high.1 end none (omega arith) (omega arith)) in omega arith)
  ];
  within = within;
  below = λ j d lt. ltb-true _ _ (low.0 j d (omega arith) lt);
  inside = λ j d from lt. let a = ltb-false _ _ (low.1 j d from (omega arith)) in let b = leb-true _ _ (high.0 j d (omega arith) lt) in omega arith;
  above = λ j d from lt. leb-false _ _ (high.1 j d from lt);
}
  where
    none : Pair
    none = record { before = 0; after = 0 }

pub parted_below : (ps : List Pair) (page : ℕ) → AreRising ps → IsPartitionedBy (λ (p : Pair). ltb p.before page) ps
parted_below ps page up = partitioned Precedes (λ p. ltb p.before page) (λ a b r h. let lt = ltb-true b.before page h in lt-ltb a.before page (elim r [ inl less ↦ omega arith | inr same ↦ let e = same.0 in omega arith ])) ps up

pub parted_upto : (ps : List Pair) (page : ℕ) → AreRising ps → IsPartitionedBy (λ (p : Pair). leb p.before page) ps
parted_upto ps page up = partitioned Precedes (λ p. leb p.before page) (λ a b r h. let le = leb-true b.before page h in le-leb a.before page (elim r [ inl less ↦ omega arith | inr same ↦ let e = same.0 in omega arith ])) ps up

pub precedes_is : (p q : Pair) → precedes p q ≡ true → Precedes p q
precedes_is p q h = elim (or_cases _ _ h) [
  | inl lt ↦ inl (ltb-true _ _ lt)
  | inr both ↦ let b = and_parts _ _ both in inr (eqb-true _ _ b.0, ltb-true _ _ b.1)
]

pub is_precedes : (p q : Pair) → Precedes p q → precedes p q ≡ true
is_precedes p q (inl lt) = or_left _ _ (lt-ltb _ _ lt)
is_precedes p q (inr both) = or_right _ _ (and_from _ _ (eq-eqb _ _ both.0) (lt-ltb _ _ both.1))

pub parted : (ps : List Pair) (pair : Pair) → AreRising ps → IsPartitionedBy (λ p. precedes p pair) ps
parted ps pair up = partitioned Precedes (λ p. precedes p pair) (λ a b r h. is_precedes a pair (precedes_on a b pair r (precedes_is b pair h))) ps up

pub place_from : (ps : List Pair) (pair : Pair) (k : ℕ) → k ≤ length ps → IsPartitionPoint (λ p. precedes p pair ≡ true) (λ p. precedes p pair ≡ false) ps k → IsPairPlace ps pair k
place_from ps pair k le point = record {
  within = le;
  below = λ j d lt. precedes_is _ _ (point.0 j d (omega arith) lt);
  above = λ j d from lt h. let is = is_precedes _ _ h in let off = point.1 j d from lt in true≢false (sym is ∙ off);
}

pub held_at : (ps : List Pair) (k : ℕ) (pair d : Pair) → AreRising ps → IsPairPlace ps pair k → k < length ps → same_pair (get_or ps k d) pair ≡ has_pair ps pair.before pair.after
held_at ps k pair d up at lt = elim (cases_Bool (same_pair (get_or ps k d) pair)) [
  | inl is ↦ is ∙ sym (found ps k pair d lt is)
  | inr off ↦ off ∙ sym (not_found ps k pair d up at (λ in'. off))
]

-- a pair that is held stands at its place
pub stands : (ps : List Pair) (k : ℕ) (pair d : Pair) → AreRising ps → IsPairPlace ps pair k → has_pair ps pair.before pair.after ≡ true → (k < length ps) × (same_pair (get_or ps k d) pair ≡ true)
stands ps k pair d up at on = elim (cases_lt k (length ps)) [
  | inr ge ↦ absurd (true≢false (sym on ∙ not_found ps k pair d up at (λ lt. absurd (omega arith))))
  | inl lt ↦ elim (cases_Bool (same_pair (get_or ps k d) pair)) [
    | inl is ↦ (lt, is)
    | inr off ↦ absurd (true≢false (sym on ∙ not_found ps k pair d up at (λ in'. off)))
  ]
]

-- and is gone once it is taken out
pub has_remove : (ps : List Pair) (k : ℕ) (pair d : Pair) → AreRising ps → k < length ps → same_pair (get_or ps k d) pair ≡ true
    → (a b : ℕ) → has_pair (take k ps ++ drop (suc k) ps) a b ≡ has_pair ps a b && not (eqb a pair.before && eqb b pair.after)
has_remove ps k pair d up lt is a b = bits (has_pair (take k ps ++ drop (suc k) ps) a b) (has_pair ps a b) (eqb a pair.before && eqb b pair.after)
    (any_remove (λ p. eqb p.before a && eqb p.after b) ps k d lt ∙ rw (flip (get_or ps k d).before a, flip (get_or ps k d).after b, before, after))
    (λ both. let p = and_parts (eqb a pair.before) (eqb b pair.after) both in
    rw (eqb-true a pair.before p.0 ∙ sym before, eqb-true b pair.after p.1 ∙ sym after) (absent_after Precedes same_pair apart ps k d up lt))
  where
    before : (get_or ps k d).before ≡ pair.before
    before = eqb-true (get_or ps k d).before pair.before (and_parts (eqb (get_or ps k d).before pair.before) (eqb (get_or ps k d).after pair.after) is).0

    after : (get_or ps k d).after ≡ pair.after
    after = eqb-true (get_or ps k d).after pair.after (and_parts (eqb (get_or ps k d).before pair.before) (eqb (get_or ps k d).after pair.after) is).1

    never : (x : Bool) → false ≡ (x && not true)
    never x = grind arith

    stays : (x y : Bool) → y ≡ (x || false) → x ≡ (y && not false)
    stays x y e = grind arith

    bits : (x y e : Bool) → y ≡ (x || e) → (e ≡ true → x ≡ false) → x ≡ (y && not e)
    bits x y true is off = off refl ∙ never y
    bits x y false is off = stays x y is

-- a pair does not stand among those before it
pub not_before : (ps : List Pair) (i : ℕ) (d : Pair) → AreRising ps → i < length ps → has_pair (take i ps) (get_or ps i d).before (get_or ps i d).after ≡ false
unfolding Rises
not_before [] i d up lt = absurd (omega arith)
not_before (p ∷ ps) zero d up lt = refl
not_before (p ∷ ps) (suc i) d up lt = or_from _ _ (apart p (get_or ps i d) (leads_at Precedes p ps d up.0 i (omega arith))).0 (not_before ps i d up.1 (omega arith))
