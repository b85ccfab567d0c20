-- Moves between the table and the list.
use Rattle.std.proofs.Common.{◌≡◌, ◌⊎◌, inl, inr, ⊎_elim, ℕ, zero, suc, ◌+◌, ◌<◌, ◌≤◌, Bool, true, false, not, cond, ◌||◌, List, [], ◌∷◌, ◌++◌, length, take, drop, reverse, get_or, add-one, Option, Some, None, is_some, refl, sym, ◌∙◌, ap, subst, arith, eqb, eqb-true, eq-eqb}
use Rattle.std.specs.Prelude.{nat_lt}
use Rattle.std.specs.List.{IsDistinct}
use Rattle.std.proofs.lemmas.Bool.{cases_Bool, or_cases, or_left, or_parts, or_right}
use Rattle.std.proofs.Math.Seq.{drop-cons}
use Rattle.std.proofs.lemmas.List.{reverse-append, take_all}
use Rattle.std.proofs.lemmas.List.Folds.{list_any-append}
use Rattle.page_cache.specs.declared.entries.Entry.{Entry}
use Rattle.page_cache.specs.Entries.{entry_at, is_used_at, holds_of, dirty_of}
use Rattle.page_cache.specs.Recent.{RecentView, has, IsRising}
use Rattle.page_cache.specs.Moves.{Moves, SettlesSoFar, stays_at}
use Rattle.page_cache.proofs.RecentLemmas.{absent_behind, distinct_behind}

-- one more page of those that were written
used_one : (u x e r : Bool) (o : Option Entry) → (e ≡ true → u ≡ true) → cond (u || (x || (e || r))) o None ≡ cond (u || (x || r)) o None
used_one true x e r o h = refl
used_one false x true r o h = cc (h refl)
used_one false x false r o h = refl

moved_one : (u x y e r : Bool) (o : Option Entry) → (y ≡ true → (e || x) ≡ true) → (x ≡ true → u ≡ false) → (x ≡ true → (e || r) ≡ false) → (e ≡ true → u ≡ false) → (e ≡ true → r ≡ false)
    → cond (y || not (x || e)) (cond (u || (x || (e || r))) o None) None ≡ cond (u || (y || r)) o None
moved_one true true y e r o a b c d f = cc (b refl)
moved_one true false y true r o a b c d f = cc (d refl)
moved_one true false true false r o a b c d f = cc (a refl)
moved_one true false false false r o a b c d f = refl
moved_one false true true e r o a b c d f = refl
moved_one false true false true r o a b c d f = cc (c refl)
moved_one false true false false true o a b c d f = cc (c refl)
moved_one false true false false false o a b c d f = refl
moved_one false false true true r o a b c d f = refl
moved_one false false true false r o a b c d f = cc (a refl)
moved_one false false false true true o a b c d f = cc (f refl)
moved_one false false false true false o a b c d f = refl
moved_one false false false false true o a b c d f = refl
moved_one false false false false false o a b c d f = refl

abbrev used_of : Option Entry → Bool
used_of o = nat_lt 0 (holds_of o) || dirty_of o

first_there : (u x r : Bool) (o : Option Entry) → cond (u || (x || (true || r))) o None ≡ o
first_there true x r o = refl
first_there false true r o = refl
first_there false false r o = refl

take_again : (n : ℕ) (xs : List ℕ) → take n (take (suc n) xs) ≡ take n xs
take_again zero xs = refl
take_again (suc n) [] = refl
take_again (suc n) (x ∷ xs) = ap (λ ys. x ∷ ys) (take_again n xs)

take_in_front : (n p : ℕ) (xs : List ℕ) → take n (p ∷ take n xs) ≡ take n (p ∷ xs)
take_in_front zero p xs = refl
take_in_front (suc n) p xs = ap (λ ys. p ∷ ys) (take_again n xs)

more_moved : (n p : ℕ) (moved old ps qs : List ℕ) → ps ≡ take n (reverse moved ++ old) → qs ≡ take n (p ∷ ps) → qs ≡ take n (reverse (moved ++ p ∷ []) ++ old)
more_moved n p moved old ps qs is next = next ∙ ap (λ xs. take n (p ∷ xs)) is ∙ take_in_front n p (reverse moved ++ old) ∙ ap (λ xs. take n (xs ++ old)) (sym (reverse-append moved (p ∷ [])))

-- a greater page behind those that rise
rising_behind : (ps : List ℕ) (p : ℕ) → IsRising ps → ((q : ℕ) → has ps q ≡ true → q < p) → IsRising (ps ++ p ∷ [])
unfolding IsRising
rising_behind [] p up below = ((λ q h. cc), tt)
rising_behind (x ∷ xs) p up below = (first, rising_behind xs p up.1 (λ q h. below q (or_right (eqb q x) (has xs q) h)))
  where
    here : x < p
    here = below x (rw (eq-eqb x x refl))

    first : (q : ℕ) → has (xs ++ p ∷ []) q ≡ true → x < q
    first q h = elim (cases_Bool (has xs q)) [
      | inl is ↦ up.0 q is
      | inr is ↦ elim (cases_Bool (eqb q p)) [
        | inl same ↦ let e : q ≡ p = eqb-true q p same in omega (arith, here, e)
        | inr other ↦ absurd (let bad : true ≡ false = sym h ∙ list_any-append (eqb q) xs (p ∷ []) ∙ rw (is, other) in cc)
      ]
    ]

rising_rest : (p : ℕ) (ps : List ℕ) → IsRising (p ∷ ps) → ((q : ℕ) → has ps q ≡ true → p < q) × IsRising ps
unfolding IsRising
rising_rest p ps up = up

has_behind : (ps : List ℕ) (p a : ℕ) → has (ps ++ p ∷ []) a ≡ true → (has ps a ≡ true) ⊎ (a ≡ p)
has_behind ps p a h = elim (cases_Bool (has ps a)) [
  | inl is ↦ inl is
  | inr is ↦ elim (cases_Bool (eqb a p)) [
    | inl same ↦ inr (eqb-true a p same)
    | inr other ↦ absurd (let bad : true ≡ false = sym h ∙ list_any-append (eqb a) ps (p ∷ []) ∙ rw (is, other) in cc)
  ]
]

module _ (asks : Bool) (es es' es'' : List (ℕ × Entry)) (r r' r'' : RecentView) (written rest : List ℕ) (p : ℕ) (so : SettlesSoFar asks es r written (p ∷ rest) es' r') where
  -- what is known of it is what was known before all moves
  pub used_still : is_used_at es' p ≡ is_used_at es p
  used_still = ap used_of (so.settles.each p ∙ ap (λ b. cond (is_used_at es p || (has r'.pages p || (b || has rest p))) (entry_at es p) None) (eq-eqb p p refl) ∙ first_there (is_used_at es p) (has r'.pages p) (has rest p) (entry_at es p))

  -- a page that is held or dirty stays
  pub used_step : is_used_at es p ≡ true → SettlesSoFar asks es r written rest es' r'
  used_step used = record {
    settles = record {
      each = λ q. so.settles.each q ∙ used_one (is_used_at es q) (has r'.pages q) (eqb q p) (has rest q) (entry_at es q) (λ is. subst (λ x. is_used_at es x ≡ true) (sym (eqb-true q p is)) used);
      apart = λ q h. ((so.settles.apart q h).0, (or_parts (eqb q p) (has rest q) (so.settles.apart q h).1).1);
      others = so.settles.others;
      moved = so.settles.moved;
      rising = so.settles.rising;
      freed = so.settles.freed;
      recent = so.settles.recent;
      limit = so.settles.limit;
      len = so.settles.len;
    };
    below = λ a b h k. so.below a b h (or_right (eqb b p) (has rest b) k);
    rising = λ on. (rising_rest p rest (so.rising on)).1;
    distinct = distinct_behind p rest so.distinct;
    among = λ q h. so.among q (or_right (eqb q p) (has rest q) h);
  }

  module _ (free : is_used_at es p ≡ false) (moves : Moves asks es' r' p es'' r'') (shorter : length es'' ≤ length es') where
    in_front : has (p ∷ rest) p ≡ true
    in_front = ap (λ b. b || has rest p) (eq-eqb p p refl)

    each : (q : ℕ) → entry_at es'' q ≡ cond (stays_at es r''.pages rest q) (entry_at es q) None
    each q = moves.each q ∙ ap (λ o. cond (has r''.pages q || not (has r'.pages q || eqb q p)) o None) (so.settles.each q)
        ∙ moved_one (is_used_at es q) (has r'.pages q) (has r''.pages q) (eqb q p) (has rest q) (entry_at es q)
        (moves.others q)
        (λ h. (so.settles.apart q h).0)
        (λ h. (so.settles.apart q h).1)
        (λ is. subst (λ x. is_used_at es x ≡ false) (sym (eqb-true q p is)) free)
        (λ is. subst (λ x. has rest x ≡ false) (sym (eqb-true q p is)) (absent_behind p rest so.distinct))

    apart : (q : ℕ) → has r''.pages q ≡ true → (is_used_at es q ≡ false) × (has rest q ≡ false)
    apart q h = ⊎_elim
        (λ is. let e : p ≡ q = sym (eqb-true q p is) in (subst (λ x. is_used_at es x ≡ false) e free, subst (λ x. has rest x ≡ false) e (absent_behind p rest so.distinct)))
        (λ was. ((so.settles.apart q was).0, (or_parts (eqb q p) (has rest q) (so.settles.apart q was).1).1))
        (or_cases (eqb q p) (has r'.pages q) (moves.others q h))

    others : (q : ℕ) → has r''.pages q ≡ true → (has written q || has r.pages q) ≡ true
    others q h = ⊎_elim
        (λ is. or_left (has written q) (has r.pages q) (subst (λ x. has written x ≡ true) (sym (eqb-true q p is)) (so.among p in_front)))
        (λ was. so.settles.others q was)
        (or_cases (eqb q p) (has r'.pages q) (moves.others q h))

    settled : (moved : List ℕ) → IsRising moved → ((q : ℕ) → has moved q ≡ true → (is_used_at es q ≡ false) × (has written q ≡ true)) → r''.pages ≡ take r.limit (reverse moved ++ r.pages)
        → ((a b : ℕ) → has moved a ≡ true → has rest b ≡ true → a < b) → SettlesSoFar asks es r written rest es'' r''
    settled moved rising freed recent below = record {
      settles = record { each = each; apart = apart; others = others; moved = moved; rising = rising; freed = freed; recent = recent; limit = moves.limit ∙ so.settles.limit; len = omega (arith, shorter, so.settles.len) };
      below = below;
      rising = λ on. (rising_rest p rest (so.rising on)).1;
      distinct = distinct_behind p rest so.distinct;
      among = λ q h. so.among q (or_right (eqb q p) (has rest q) h);
    }

    freed_too : (q : ℕ) → has (so.settles.moved ++ p ∷ []) q ≡ true → (is_used_at es q ≡ false) × (has written q ≡ true)
    freed_too q h = ⊎_elim (so.settles.freed q) (λ e. subst (λ x. (is_used_at es x ≡ false) × (has written x ≡ true)) (sym e) (free, so.among p in_front)) (has_behind so.settles.moved p q h)

    below_too : asks ≡ true → (a b : ℕ) → has (so.settles.moved ++ p ∷ []) a ≡ true → has rest b ≡ true → a < b
    below_too on a b h k = ⊎_elim (λ was. so.below a b was (or_right (eqb b p) (has rest b) k)) (λ e. subst (λ x. x < b) (sym e) ((rising_rest p rest (so.rising on)).0 b k)) (has_behind so.settles.moved p a h)

    -- a page that is in no use goes to the front of the list, or is let go
    pub moved_step : SettlesSoFar asks es r written rest es'' r''
    moved_step = ⊎_elim
        (λ m. settled (so.settles.moved ++ p ∷ []) (rising_behind so.settles.moved p so.settles.rising (λ q h. so.below q p h in_front)) freed_too
        (more_moved r.limit p so.settles.moved r.pages r'.pages r''.pages so.settles.recent (subst (λ n. r''.pages ≡ take n (p ∷ r'.pages)) so.settles.limit m.1))
        (below_too m.0))
        (λ e. settled so.settles.moved so.settles.rising so.settles.freed (e ∙ so.settles.recent) (λ a b h k. so.below a b h (or_right (eqb b p) (has rest b) k)))
        moves.recent

none_moved : (u x r : Bool) (o : Option Entry) → is_some o ≡ (u || (x || r)) → o ≡ cond (u || (x || r)) o None
none_moved true x r o h = refl
none_moved false true r o h = refl
none_moved false false true o h = refl
none_moved false false false None h = refl
none_moved false false false (Some e) h = cc

-- before all moves
pub settles_first : (asks : Bool) (es : List (ℕ × Entry)) (r : RecentView) (written : List ℕ) → IsDistinct eqb written → (asks ≡ true → IsRising written)
    → ((q : ℕ) → has r.pages q ≡ true → (is_used_at es q ≡ false) × (has written q ≡ false))
    → ((q : ℕ) → is_some (entry_at es q) ≡ stays_at es r.pages written q) → length r.pages ≤ r.limit → SettlesSoFar asks es r written written es r
unfolding IsRising
settles_first asks es r written distinct rising apart there few = record {
  settles = record {
    each = λ q. none_moved (is_used_at es q) (has r.pages q) (has written q) (entry_at es q) (there q);
    apart = apart;
    others = λ q h. or_right (has written q) (has r.pages q) h;
    moved = [];
    rising = tt;
    freed = λ q h. cc;
    recent = sym (take_all r.limit r.pages few);
    limit = refl;
    len = omega arith;
  };
  below = λ a b h k. cc;
  rising = rising;
  distinct = distinct;
  among = λ q h. h;
}

-- the next page of those that are left
pub next_left : (asks : Bool) (es es' : List (ℕ × Entry)) (r r' : RecentView) (written : List ℕ) (i : ℕ) → i < length written → SettlesSoFar asks es r written (drop i written) es' r'
    → SettlesSoFar asks es r written (get_or written i 0 ∷ drop (i + 1) written) es' r'
next_left asks es es' r r' written i lt so = subst (λ rest. SettlesSoFar asks es r written rest es' r') (drop-cons written i 0 lt ∙ ap (λ n. get_or written i 0 ∷ drop n written) (sym (add-one i))) so
