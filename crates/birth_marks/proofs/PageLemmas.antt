-- The list of the pages that the next barrier looks at.
use Rattle.std.proofs.Common.{◌≡◌, ◌++◌, ◌∷◌, [], inl, inr, ℕ, ◌≤◌, ◌<◌, ◌+◌, ◌||◌, Bool, true, false, cond, eqb, List, Option, Some, None, length, set, get_or, refl, sym, ◌∙◌, ap, subst, arith, eq-eqb, eqb-true, nat_eq, count_by}
use Rattle.std.proofs.lemmas.Grind.{common_steps}
use Rattle.std.specs.List.{list_any}
use Rattle.std.specs.Map.{lookup}
use Rattle.std.proofs.lemmas.Bool.{cases_Bool}
use Rattle.std.proofs.lemmas.List.{get_or-set_same, get_or-set_other, length-set, length-append}
use Rattle.std.proofs.lemmas.List.Folds.{list_any-append}
use Rattle.std.proofs.lemmas.List.Sums.{count_by-le-length, sum_by-set}
use Rattle.birth_marks.specs.declared.pages.Mark.{Mark}
use Rattle.birth_marks.specs.Pages.{AreListed, ArePlaced, IsPlaced, fresh, mark_at}

abbrev is_listed : Mark → Bool
is_listed m = m.listed

-- what stands for a missing mark does not matter
pub get_or_any : (xs : List Mark) (k : ℕ) (c d : Mark) → k < length xs → get_or xs k c ≡ get_or xs k d
get_or_any xs k c d inside = grind (arith, common_steps)

-- a mark was put in the place of another
count_set : (marks : List Mark) (i : ℕ) (m d : Mark) → i < length marks → count_by is_listed (set marks i m) + cond (get_or marks i d).listed 1 0 ≡ count_by is_listed marks + cond m.listed 1 0
count_set marks i m d inside = sum_by-set (λ (n : Mark). cond n.listed 1 0) marks i m d inside

-- where one is not listed, fewer are listed than there are
pub listed_below : (marks : List Mark) (i : ℕ) (d : Mark) → i < length marks → (get_or marks i d).listed ≡ false → count_by is_listed marks < length marks
listed_below marks i d inside off =
    let one = record d { listed = true } in
    let more : count_by is_listed (set marks i one) + 0 ≡ count_by is_listed marks + 1 = subst (λ b. count_by is_listed (set marks i one) + cond b 1 0 ≡ count_by is_listed marks + 1) off (count_set marks i one d inside) in
    let most = count_by-le-length is_listed (set marks i one) in
    let same = length-set marks i one in
    omega (arith, more, most, same)

module _ (places : List (ℕ × ℕ)) (marks : List Mark) (listed : List ℕ) (placed : ArePlaced places marks)
    (is : AreListed (record { places = places; marks = marks; listed = listed; spare = 0 })) (page i : ℕ) (at : lookup (nat_eq page) places ≡ Some i)
    (here : Mark) (read : here ≡ get_or marks i here) where
  is_placed : (i < length marks) × ((get_or marks i (fresh page)).page ≡ page)
  is_placed = subst (λ o. IsPlaced page o marks) at (placed page)

  read_is : get_or marks i (fresh page) ≡ here
  read_is = get_or_any marks i (fresh page) here is_placed.0 ∙ sym read

  pub is_inside : i < length marks
  is_inside = is_placed.0

  -- a page at the same place is this one
  same_page : (p j : ℕ) → lookup (nat_eq p) places ≡ Some j → j ≡ i → p ≡ page
  same_page p j e same = let there = subst (λ o. IsPlaced p o marks) e (placed p) in
      let near = subst (λ k. (get_or marks k (fresh p)).page ≡ p) same there.1 in
      sym near ∙ ap (λ (m : Mark). m.page) (get_or_any marks i (fresh p) (fresh page) is_placed.0) ∙ is_placed.1

  counted : (m : Mark) (t : Bool) → m.listed ≡ t → count_by is_listed (set marks i m) + cond here.listed 1 0 ≡ count_by is_listed marks + cond t 1 0
  counted m t e = subst (λ b. count_by is_listed (set marks i m) + cond here.listed 1 0 ≡ count_by is_listed marks + cond b 1 0) e
      (subst (λ (n : Mark). count_by is_listed (set marks i m) + cond n.listed 1 0 ≡ count_by is_listed marks + cond m.listed 1 0) read_is (count_set marks i m (fresh page) is_placed.0))

  -- the mark of a page once that at i is m: another, or m itself
  module _ (m : Mark) where
    other_mark : (p j : ℕ) → (eqb j i ≡ false) → mark_at p (Some j) (set marks i m) ≡ mark_at p (Some j) marks
    other_mark p j apart = get_or-set_other marks i j m (fresh p) (λ same. let yes_same = eq-eqb j i same in absurd (cc))

    same_mark : (p j : ℕ) → (eqb j i ≡ true) → mark_at p (Some j) (set marks i m) ≡ m
    same_mark p j same = subst (λ k. get_or (set marks i m) k (fresh p) ≡ m) (sym (eqb-true j i same)) (get_or-set_same marks i m (fresh p) is_placed.0)

    pub still_room : (room : ℕ) → length marks ≤ room → length (set marks i m) ≤ room
    still_room room fits = let long = length-set marks i m in omega (arith, fits, long)

    pub still_placed : m.page ≡ here.page → ArePlaced places (set marks i m)
    still_placed own p = placed_at (lookup (nat_eq p) places) refl
      where
        placed_at : (o : Option ℕ) → lookup (nat_eq p) places ≡ o → IsPlaced p o (set marks i m)
        placed_at None e = tt
        placed_at (Some j) e = let was = subst (λ o. IsPlaced p o marks) e (placed p) in
            let long = length-set marks i m in (
              omega (arith, was.0, long),
              elim (cases_Bool (eqb j i)) [
                | inl same ↦ ap (λ (n : Mark). n.page) (same_mark p j same) ∙ (own ∙ (sym (ap (λ (n : Mark). n.page) read_is) ∙ (is_placed.1 ∙ sym (same_page p j e (eqb-true j i same)))))
                | inr apart ↦ ap (λ (n : Mark). n.page) (other_mark p j apart) ∙ was.1
              ],
            )

  -- it was written
  pub written_listed : (m : Mark) → m.listed ≡ true
      → AreListed (record { places = places; marks = set marks i m; listed = cond here.listed listed (listed ++ page ∷ []); spare = 0 })
  written_listed m on = record {
    marked = λ p w. marked p (lookup (nat_eq p) places) refl w;
    there = λ p h. there p (lookup (nat_eq p) places) refl h;
    few = few here.listed refl;
  }
    where
      marked : (p : ℕ) (o : Option ℕ) → lookup (nat_eq p) places ≡ o → (mark_at p o (set marks i m)).written ≡ true → (mark_at p o (set marks i m)).listed ≡ true
      marked p None e w = absurd (cc)
      marked p (Some j) e w = elim (cases_Bool (eqb j i)) [
        | inl same ↦ ap (λ (n : Mark). n.listed) (same_mark m p j same) ∙ on
        | inr apart ↦ let q = other_mark m p j apart in
            ap (λ (n : Mark). n.listed) q ∙ subst (λ o. (mark_at p o marks).written ≡ true → (mark_at p o marks).listed ≡ true) e (is.marked p) (sym (ap (λ (n : Mark). n.written) q) ∙ w)
      ]

      longer : (p : ℕ) (t : Bool) → list_any (eqb p) listed ≡ true → list_any (eqb p) (cond t listed (listed ++ page ∷ [])) ≡ true
      longer p true h = h
      longer p false h = list_any-append (eqb p) listed (page ∷ []) ∙ rw h

      itself : (t : Bool) → here.listed ≡ t → list_any (eqb page) (cond t listed (listed ++ page ∷ [])) ≡ true
      itself true e = is.there page (subst (λ o. (mark_at page o marks).listed ≡ true) (sym at) (ap (λ (n : Mark). n.listed) read_is ∙ e))
      itself false e = list_any-append (eqb page) listed (page ∷ []) ∙ rw (eq-eqb page page refl) (or_true (list_any (eqb page) listed))
        where
          or_true : (x : Bool) → (x || true) ≡ true
          or_true x = grind arith

      there : (p : ℕ) (o : Option ℕ) → lookup (nat_eq p) places ≡ o → (mark_at p o (set marks i m)).listed ≡ true → list_any (eqb p) (cond here.listed listed (listed ++ page ∷ [])) ≡ true
      there p None e h = absurd (cc)
      there p (Some j) e h = elim (cases_Bool (eqb j i)) [
        | inl same ↦ subst (λ q. list_any (eqb q) (cond here.listed listed (listed ++ page ∷ [])) ≡ true) (sym (same_page p j e (eqb-true j i same))) (itself here.listed refl)
        | inr apart ↦ longer p here.listed (is.there p (subst (λ o. (mark_at p o marks).listed ≡ true) (sym e) (sym (ap (λ (n : Mark). n.listed) (other_mark m p j apart)) ∙ h)))
      ]

      few : (t : Bool) → here.listed ≡ t → length (cond t listed (listed ++ page ∷ [])) ≤ count_by is_listed (set marks i m)
      few true e = let more : count_by is_listed (set marks i m) + 1 ≡ count_by is_listed marks + 1 = subst (λ b. count_by is_listed (set marks i m) + cond b 1 0 ≡ count_by is_listed marks + 1) e (counted m true on) in
          omega (arith, more, is.few)
      few false e = let more : count_by is_listed (set marks i m) + 0 ≡ count_by is_listed marks + 1 = subst (λ b. count_by is_listed (set marks i m) + cond b 1 0 ≡ count_by is_listed marks + 1) e (counted m true on) in
          let long = length-append listed (page ∷ []) in
          omega (arith, more, long, is.few)

  -- it was settled, and was the last on the list
  pub settled_listed : (m : Mark) (rest : List ℕ) → m.written ≡ false → m.listed ≡ false → listed ≡ rest ++ page ∷ []
      → AreListed (record { places = places; marks = set marks i m; listed = rest; spare = 0 })
  settled_listed m rest unwritten off split = record {
    marked = λ p w. marked p (lookup (nat_eq p) places) refl w;
    there = λ p h. there p (lookup (nat_eq p) places) refl h;
    few = few here.listed refl;
  }
    where
      marked : (p : ℕ) (o : Option ℕ) → lookup (nat_eq p) places ≡ o → (mark_at p o (set marks i m)).written ≡ true → (mark_at p o (set marks i m)).listed ≡ true
      marked p None e w = absurd (cc)
      marked p (Some j) e w = elim (cases_Bool (eqb j i)) [
        | inl same ↦ let no : true ≡ false = sym w ∙ (ap (λ (n : Mark). n.written) (same_mark m p j same) ∙ unwritten) in absurd (cc)
        | inr apart ↦ let q = other_mark m p j apart in
            ap (λ (n : Mark). n.listed) q ∙ subst (λ o. (mark_at p o marks).written ≡ true → (mark_at p o marks).listed ≡ true) e (is.marked p) (sym (ap (λ (n : Mark). n.written) q) ∙ w)
      ]

      shorter : (p : ℕ) → eqb p page ≡ false → list_any (eqb p) listed ≡ true → list_any (eqb p) rest ≡ true
      shorter p apart h = let both : (list_any (eqb p) rest || (eqb p page || false)) ≡ true = sym (list_any-append (eqb p) rest (page ∷ [])) ∙ (ap (list_any (eqb p)) (sym split) ∙ h) in
          or_off (list_any (eqb p) rest) (subst (λ b. (list_any (eqb p) rest || (b || false)) ≡ true) apart both)
        where
          or_off : (x : Bool) → (x || false) ≡ true → x ≡ true
          or_off x h = grind arith

      -- a page at another place is another page
      apart_from : (p j : ℕ) → lookup (nat_eq p) places ≡ Some j → eqb j i ≡ false → eqb p page ≡ false
      apart_from p j e apart = elim (cases_Bool (eqb p page)) [
        | inr off ↦ off
        | inl same ↦ let q : Some j ≡ Some i = sym e ∙ (ap (λ k. lookup (nat_eq k) places) (eqb-true p page same) ∙ at) in
            let j_is : j ≡ i = cc in
            let no = eq-eqb j i j_is in absurd (cc)
      ]

      there : (p : ℕ) (o : Option ℕ) → lookup (nat_eq p) places ≡ o → (mark_at p o (set marks i m)).listed ≡ true → list_any (eqb p) rest ≡ true
      there p None e h = absurd (cc)
      there p (Some j) e h = elim (cases_Bool (eqb j i)) [
        | inl same ↦ let no : true ≡ false = sym h ∙ (ap (λ (n : Mark). n.listed) (same_mark m p j same) ∙ off) in absurd (cc)
        | inr apart ↦ shorter p (apart_from p j e apart) (is.there p (subst (λ o. (mark_at p o marks).listed ≡ true) (sym e) (sym (ap (λ (n : Mark). n.listed) (other_mark m p j apart)) ∙ h)))
      ]

      few : (t : Bool) → here.listed ≡ t → length rest ≤ count_by is_listed (set marks i m)
      few t e = let less : count_by is_listed (set marks i m) + cond t 1 0 ≡ count_by is_listed marks + 0 = subst (λ b. count_by is_listed (set marks i m) + cond b 1 0 ≡ count_by is_listed marks + 0) e (counted m false off) in
          let most : cond t 1 0 ≤ 1 = at_most t in
          let long = ap length split ∙ length-append rest (page ∷ []) in
          omega (arith, less, most, long, is.few)
        where
          at_most : (t : Bool) → cond t 1 0 ≤ 1
          at_most true = omega arith
          at_most false = omega arith
