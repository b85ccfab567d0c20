-- Each change of a graph keeps what its vectors keep.
use Rattle.std.proofs.Common.{◌≡◌, ◌⊎◌, inl, inr, ℕ, ◌+◌, ◌-◌, Bool, true, false, not, ◌&&◌, ◌||◌, cond, List, [], ◌∷◌, length, refl, sym, ◌∙◌, ap, subst, arith, eqb, eqb-true, eq-eqb, ne_eqb}
use Rattle.std.proofs.lemmas.Bool.{and_from, and_parts, cases_Bool, cases_eq, or_cases, or_left, or_right, true≢false}
use Rattle.std.specs.Int.{from_bool}
use Rattle.dep_graph.specs.Rising.{Rises}
use Rattle.dep_graph.specs.declared.pairs.Pair.{Pair}
use Rattle.dep_graph.specs.Pages.{holds, IsRising}
use Rattle.dep_graph.specs.Pairs.{has_pair, ends_at, from_page, not_from_page, AreRising}
use Rattle.order_model.specs.Paths.{IsAcyclic, Closes}
use Rattle.dep_graph.specs.Waits.{Waits, count_at, waits_for}
use Rattle.dep_graph.specs.Kept.{IsKept, hung_alone}
use Rattle.dep_graph.proofs.PageLemmas.{as_long, longer_by_one, shorter_by_one}
use Rattle.dep_graph.proofs.PathLemmas.{acyclic_fewer, acyclic_more, way_begins}
use Rattle.dep_graph.proofs.GraphLemmas.{alone_is, alone_rises, has_ends, has_from, has_not_from, ends_parts}

eq_parts : (a b x y : ℕ) → (eqb a x && eqb b y) ≡ true → (a ≡ x) × (b ≡ y)
eq_parts a b x y h = let p = and_parts (eqb a x) (eqb b y) h in (eqb-true a x p.0, eqb-true b y p.1)

pub nothing_kept : (dirty : Waits) → dirty.pages ≡ [] → IsKept dirty [] 0 [] []
unfolding Rises ends_at count_at
nothing_kept dirty none = record {
  dirty_rising = subst IsRising (sym none) tt;
  hung_rising = tt;
  live_rising = tt;
  barred_rising = tt;
  alone = omega arith;
  counts = λ b. rw none;
  live_ends = λ a b h. absurd (cc);
  barred_ends = λ a b h. absurd (cc);
  acyclic = λ a way. let q = way_begins way in true≢false (sym q.1);
}

module _ (dirty : Waits) (hung : List ℕ) (hung_only : ℕ) (live barred : List Pair) (k : IsKept dirty hung hung_only live barred) where
  -- a page enters: where it is hung, it is hung alone no more
  module _ (page : ℕ) (later : Waits) (pages : (a : ℕ) → holds later.pages a ≡ holds dirty.pages a || eqb a page) where
    pub enter_hung : holds dirty.pages page ≡ false → holds hung page ≡ true → hung_only - 1 ≡ length (hung_alone later.pages hung)
    enter_hung off on =
        let less = shorter_by_one (hung_alone dirty.pages hung) (hung_alone later.pages hung) page (alone_rises dirty.pages hung k.hung_rising) (alone_rises later.pages hung k.hung_rising)
        (λ a. rw (alone_is dirty.pages hung a, alone_is later.pages hung a, pages a) (taken (holds hung a) (holds dirty.pages a) (eqb a page)))
        (alone_is dirty.pages hung page ∙ rw (on, off)) in
        omega (arith, k.alone)
      where
        taken : (x y z : Bool) → (x && not (y || z)) ≡ ((x && not y) && not z)
        taken x y z = grind arith

    pub enter_other : holds hung page ≡ false → hung_only ≡ length (hung_alone later.pages hung)
    enter_other off =
        k.alone ∙ as_long (hung_alone dirty.pages hung) (hung_alone later.pages hung) (alone_rises dirty.pages hung k.hung_rising) (alone_rises later.pages hung k.hung_rising)
        (λ a. rw (alone_is dirty.pages hung a, alone_is later.pages hung a, pages a) (elim (cases_eq a page) [
          | inl e ↦ rw (e, off)
          | inr ne ↦ rw (ne_eqb a page ne) (other (holds hung a) (holds dirty.pages a))
        ]))
      where
        other : (x y : Bool) → (x && not y) ≡ (x && not (y || false))
        other x y = grind arith

  pub kept_enter : (page : ℕ) (later : Waits) (hung_only' : ℕ) → ((a : ℕ) → holds later.pages a ≡ holds dirty.pages a || eqb a page) → ((a : ℕ) → waits_for later a ≡ waits_for dirty a)
      → IsRising later.pages → hung_only' ≡ length (hung_alone later.pages hung) → IsKept later hung hung_only' live barred
  kept_enter page later hung_only' pages counts up alone = record {
    dirty_rising = up;
    hung_rising = k.hung_rising;
    live_rising = k.live_rising;
    barred_rising = k.barred_rising;
    alone = alone;
    counts = λ b. counts b ∙ k.counts b;
    live_ends = λ a b h. let e = k.live_ends a b h in (still a e.0, still b e.1);
    barred_ends = λ a b h. let e = k.barred_ends a b h in (e.0, still b e.1);
    acyclic = k.acyclic;
  }
    where
      still : (a : ℕ) → holds dirty.pages a ≡ true → holds later.pages a ≡ true
      still a h = pages a ∙ or_left _ _ h

  -- an edge is added
  module _ (pair : Pair) (later : Waits) (pages : later.pages ≡ dirty.pages) (after : holds dirty.pages pair.after ≡ true)
      (counts : (a : ℕ) → waits_for later a ≡ cond (eqb a pair.after) (waits_for dirty a + 1) (waits_for dirty a)) where
    one_more : (x y : ℕ) (b : ℕ) → waits_for dirty b ≡ x → y ≡ x + ends_at (pair ∷ []) b → waits_for later b ≡ y
    unfolding ends_at
    one_more x y b was is = elim (cases_eq b pair.after) [
      | inl e ↦ let f = rw (eq-eqb b pair.after e) at (counts b) in let g = rw (eq-eqb pair.after b (sym e)) at is in omega arith
      | inr ne ↦ let f = rw (ne_eqb b pair.after ne) at (counts b) in let g = rw (ne_eqb pair.after b (λ e. ne (sym e))) at is in omega arith
    ]

    still : (a : ℕ) → holds dirty.pages a ≡ true → holds later.pages a ≡ true
    still a h = subst (λ l. holds l a ≡ true) (sym pages) h

    pub kept_live : (more : List Pair) → AreRising more → ((a b : ℕ) → has_pair more a b ≡ has_pair live a b || (eqb a pair.before && eqb b pair.after))
        → ((b : ℕ) → ends_at more b ≡ ends_at live b + ends_at (pair ∷ []) b) → holds dirty.pages pair.before ≡ true → (Closes (has_pair live) pair.before pair.after → ⊥)
        → IsKept later hung hung_only more barred
    kept_live more up has ends before opens = record {
      dirty_rising = subst IsRising (sym pages) k.dirty_rising;
      hung_rising = k.hung_rising;
      live_rising = up;
      barred_rising = k.barred_rising;
      alone = subst (λ l. hung_only ≡ length (hung_alone l hung)) (sym pages) k.alone;
      counts = λ b. one_more (ends_at live b + ends_at barred b) _ b (k.counts b) (let e = ends b in omega arith);
      live_ends = λ a b h. elim (or_cases _ _ (sym (has a b) ∙ h)) [
        | inl old ↦ let e = k.live_ends a b old in (still a e.0, still b e.1)
        | inr new ↦ let e = eq_parts a b pair.before pair.after new in (
          still a (subst (λ n. holds dirty.pages n ≡ true) (sym e.0) before),
          still b (subst (λ n. holds dirty.pages n ≡ true) (sym e.1) after),
        )
      ];
      barred_ends = λ a b h. let e = k.barred_ends a b h in (e.0, still b e.1);
      acyclic = acyclic_more (has_pair live) (has_pair more) pair.after (λ a b h. has a b ∙ or_left _ _ h) only k.acyclic not_closing;
    }
      where
        only : (a b : ℕ) → has_pair more a b ≡ true → (has_pair live a b ≡ true) ⊎ (b ≡ pair.after)
        only a b h = elim (or_cases _ _ (sym (has a b) ∙ h)) [
          | inl old ↦ inl old
          | inr new ↦ inr (eq_parts a b pair.before pair.after new).1
        ]

        not_closing : (a : ℕ) → has_pair more a pair.after ≡ true → (has_pair live a pair.after ≡ true) ⊎ (Closes (has_pair live) a pair.after → ⊥)
        not_closing a h = elim (or_cases _ _ (sym (has a pair.after) ∙ h)) [
          | inl old ↦ inl old
          | inr new ↦ inr (λ c. opens (subst (λ n. Closes (has_pair live) n pair.after) (eq_parts a pair.after pair.before pair.after new).0 c))
        ]

    pub kept_barrier : (more : List Pair) → AreRising more → ((a b : ℕ) → has_pair more a b ≡ has_pair barred a b || (eqb a pair.before && eqb b pair.after))
        → ((b : ℕ) → ends_at more b ≡ ends_at barred b + ends_at (pair ∷ []) b) → holds hung pair.before ≡ true → IsKept later hung hung_only live more
    kept_barrier more up has ends before = record {
      dirty_rising = subst IsRising (sym pages) k.dirty_rising;
      hung_rising = k.hung_rising;
      live_rising = k.live_rising;
      barred_rising = up;
      alone = subst (λ l. hung_only ≡ length (hung_alone l hung)) (sym pages) k.alone;
      counts = λ b. one_more (ends_at live b + ends_at barred b) _ b (k.counts b) (let e = ends b in omega arith);
      live_ends = λ a b h. let e = k.live_ends a b h in (still a e.0, still b e.1);
      barred_ends = λ a b h. elim (or_cases _ _ (sym (has a b) ∙ h)) [
        | inl old ↦ let e = k.barred_ends a b old in (e.0, still b e.1)
        | inr new ↦ let e = eq_parts a b pair.before pair.after new in (
          subst (λ n. holds hung n ≡ true) (sym e.0) before,
          still b (subst (λ n. holds dirty.pages n ≡ true) (sym e.1) after),
        )
      ];
      acyclic = k.acyclic;
    }

  -- a page to which no edge leads loses its dirty mark, and its Live edges go or wait for a barrier
  module _ (page : ℕ) (ready : waits_for dirty page ≡ 0) (later : Waits) (pages : (a : ℕ) → holds later.pages a ≡ holds dirty.pages a && not (eqb a page)) where
    kept_but : (a : ℕ) → holds dirty.pages a ≡ true → (a ≡ page → ⊥) → holds later.pages a ≡ true
    kept_but a h ne = pages a ∙ and_from _ _ h (let off = ne_eqb a page ne in rw off)

    not_after : (a b : ℕ) → has_pair live a b ≡ true → b ≡ page → ⊥
    not_after a b h e = let some = has_ends live a b h in let all = k.counts page in let same = ap (ends_at live) e in omega arith

    not_after_barred : (a b : ℕ) → has_pair barred a b ≡ true → b ≡ page → ⊥
    not_after_barred a b h e = let some = has_ends barred a b h in let all = k.counts page in let same = ap (ends_at barred) e in omega arith

    less_live : (a b : ℕ) → has_pair (not_from_page live page) a b ≡ true → (has_pair live a b ≡ true) × (a ≡ page → ⊥)
    less_live a b h = let p = and_parts (has_pair live a b) (not (eqb a page)) (sym (has_not_from live page a b) ∙ h) in
        (p.0, λ e. true≢false (sym p.1 ∙ (let is = eq-eqb a page e in rw is)))

    ends_left : (a b : ℕ) → has_pair (not_from_page live page) a b ≡ true → (holds later.pages a ≡ true) × (holds later.pages b ≡ true)
    ends_left a b h = let p = less_live a b h in let e = k.live_ends a b p.0 in (kept_but a e.0 p.1, kept_but b e.1 (not_after a b p.0))

    less_acyclic : IsAcyclic (has_pair (not_from_page live page))
    less_acyclic = acyclic_fewer (has_pair live) _ (λ a b h. (less_live a b h).0) k.acyclic

    pub kept_wrote : (hung' : List ℕ) (barred' : List Pair) → holds dirty.pages page ≡ true → IsRising later.pages → IsRising hung' → AreRising (not_from_page live page) → AreRising barred'
        → ((a : ℕ) → holds hung' a ≡ holds hung a || eqb a page) → ((a b : ℕ) → has_pair barred' a b ≡ has_pair barred a b || has_pair (from_page live page) a b)
        → ((b : ℕ) → waits_for later b + ends_at (from_page live page) b + ends_at barred b ≡ waits_for dirty b + ends_at barred' b)
        → IsKept later hung' (hung_only + 1) (not_from_page live page) barred'
    kept_wrote hung' barred' there up hung_up live_up barred_up is_hung is_barred counts = record {
      dirty_rising = up;
      hung_rising = hung_up;
      live_rising = live_up;
      barred_rising = barred_up;
      alone = let more = longer_by_one (hung_alone dirty.pages hung) (hung_alone later.pages hung') page (alone_rises dirty.pages hung k.hung_rising) (alone_rises later.pages hung' hung_up)
          (λ a. rw (alone_is later.pages hung' a, alone_is dirty.pages hung a, pages a, is_hung a) (added (holds hung a) (holds dirty.pages a) (eqb a page)))
          (alone_is dirty.pages hung page ∙ rw there (never (holds hung page))) in omega (arith, k.alone);
      counts = λ b. let all = k.counts b in let parts = ends_parts live page b in let is = counts b in omega arith;
      live_ends = ends_left;
      barred_ends = λ a b h. elim (or_cases _ _ (sym (is_barred a b) ∙ h)) [
        | inl old ↦ let e = k.barred_ends a b old in (is_hung a ∙ or_left _ _ e.0, kept_but b e.1 (not_after_barred a b old))
        | inr new ↦ let p = and_parts (has_pair live a b) (eqb a page) (sym (has_from live page a b) ∙ new) in
            (is_hung a ∙ or_right _ _ p.1, kept_but b (k.live_ends a b p.0).1 (not_after a b p.0))
      ];
      acyclic = less_acyclic;
    }
      where
        added : (x y z : Bool) → ((x || z) && not (y && not z)) ≡ ((x && not y) || z)
        added x y z = grind arith

        never : (x : Bool) → (x && not true) ≡ false
        never x = grind arith

    -- where it is hung, it is hung alone from now on
    drop_alone : holds dirty.pages page ≡ true → hung_only + from_bool (holds hung page) ≡ length (hung_alone later.pages hung)
    drop_alone there = elim (cases_Bool (holds hung page)) [
      | inl on ↦
          let more = longer_by_one (hung_alone dirty.pages hung) (hung_alone later.pages hung) page dirty_up later_up
          (λ a. rw (alone_is dirty.pages hung a, alone_is later.pages hung a, pages a) (elim (cases_eq a page) [
            | inl e ↦ rw (e, eq-eqb page page refl, on, there)
            | inr ne ↦ rw (ne_eqb a page ne) (other (holds hung a) (holds dirty.pages a))
          ]))
          (alone_is dirty.pages hung page ∙ rw (there, on)) in
          rw on (omega (arith, k.alone))
      | inr off ↦
          let same = as_long (hung_alone dirty.pages hung) (hung_alone later.pages hung) dirty_up later_up
          (λ a. rw (alone_is dirty.pages hung a, alone_is later.pages hung a, pages a) (elim (cases_eq a page) [
            | inl e ↦ rw (e, off)
            | inr ne ↦ rw (ne_eqb a page ne) (still (holds hung a) (holds dirty.pages a))
          ])) in
          rw off (omega (arith, k.alone))
    ]
      where
        dirty_up : IsRising (hung_alone dirty.pages hung)
        dirty_up = alone_rises dirty.pages hung k.hung_rising

        later_up : IsRising (hung_alone later.pages hung)
        later_up = alone_rises later.pages hung k.hung_rising

        other : (x y : Bool) → (x && not (y && not false)) ≡ ((x && not y) || false)
        other x y = grind arith

        still : (x y : Bool) → (x && not y) ≡ (x && not (y && not false))
        still x y = grind arith

    pub kept_drop : (hung_only' : ℕ) → holds dirty.pages page ≡ true → IsRising later.pages → AreRising (not_from_page live page) → hung_only' ≡ hung_only + from_bool (holds hung page)
        → ((b : ℕ) → waits_for later b + ends_at (from_page live page) b ≡ waits_for dirty b) → IsKept later hung hung_only' (not_from_page live page) barred
    kept_drop hung_only' there up live_up count counts = record {
      dirty_rising = up;
      hung_rising = k.hung_rising;
      live_rising = live_up;
      barred_rising = k.barred_rising;
      alone = count ∙ drop_alone there;
      counts = λ b. let all = k.counts b in let parts = ends_parts live page b in let is = counts b in omega arith;
      live_ends = ends_left;
      barred_ends = λ a b h. let e = k.barred_ends a b h in (e.0, kept_but b e.1 (not_after_barred a b h));
      acyclic = less_acyclic;
    }

  -- a barrier
  pub kept_fixed : (later : Waits) → later.pages ≡ dirty.pages → ((b : ℕ) → waits_for later b + ends_at barred b ≡ waits_for dirty b) → IsKept later [] 0 live []
  unfolding Rises ends_at
  kept_fixed later pages counts = record {
    dirty_rising = subst IsRising (sym pages) k.dirty_rising;
    hung_rising = tt;
    live_rising = k.live_rising;
    barred_rising = tt;
    alone = omega arith;
    counts = λ b. let all = k.counts b in let is = counts b in omega arith;
    live_ends = λ a b h. let e = k.live_ends a b h in (subst (λ l. holds l a ≡ true) (sym pages) e.0, subst (λ l. holds l b ≡ true) (sym pages) e.1);
    barred_ends = λ a b h. absurd (cc);
    acyclic = k.acyclic;
  }
