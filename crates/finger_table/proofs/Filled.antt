-- Lists that are filled, and sorted.
use Rattle.std.proofs.Common.{◌≡◌, ◌≢◌, ⊎_elim, ℕ, ◌+◌, ◌*◌, ◌<◌, ◌≤◌, List, [], ◌∷◌, ◌++◌, length, slice_index, Option, Some, None, IsPermutation, swap, refl, sym, ◌∙◌, ap, subst, arith}
use Rattle.std.specs.List.Sorted.{IsNonDecreasingBy}
use Rattle.std.proofs.lemmas.Bool.{cases_eq, cases_lt}
use Rattle.std.proofs.lemmas.List.{get_or_append_left, length-append}
use Rattle.std.proofs.lemmas.List.Edits.{swapped_from_swap, length-swap}
use Rattle.std.proofs.lemmas.List.Sorted.{IsPermutation-keeps}
use Rattle.std.proofs.Math.Seq.{get_or-append_seam}
use Rattle.finger_table.specs.Order.{IsPrint, rank, key_of, key_in, print_in, bucket_of}
use Rattle.finger_table.specs.Index.{StandsIn, Belongs, IsIndexed}
use Rattle.finger_table.specs.Filled.{HoldsPages, IsFilled}
use Rattle.finger_table.proofs.ListFunctions.{print_within}

module _ (table : List (Option (List ℕ))) where
  -- no page yet
  pub filled_start : (lists : ℕ → List ℕ) → ((b : ℕ) → lists b ≡ []) → IsFilled table 0 lists
  filled_start lists empty = record {
    whole = λ p print lt is. absurd (omega (arith, lt));
    each = λ b. record {
      different = λ i j lt _ _. absurd (omega (arith, lt, ap length (empty b)));
      belongs = λ i lt. absurd (omega (arith, lt, ap length (empty b)));
      before = λ i lt. absurd (omega (arith, lt, ap length (empty b)));
      found = λ p print lt _ _. absurd (omega (arith, lt));
    };
  }

  -- a page more that belongs to another list or to none
  holds_later : (n b : ℕ) (pages : List ℕ) → ((print : List ℕ) → print_in table n ≡ Some print → bucket_of print ≡ b → ⊥) → HoldsPages table n b pages → HoldsPages table (n + 1) b pages
  holds_later n b pages other h = record {
    different = h.different;
    belongs = h.belongs;
    before = λ i lt. omega (arith, h.before i lt);
    found = λ p print lt is own. ⊎_elim (λ same. absurd (other print (ap (print_in table) (sym same) ∙ is) own)) (λ ne. h.found p print (omega (arith, lt, ne)) is own) (cases_eq p n);
  }

  -- and one that belongs to it
  holds_more : (n b : ℕ) (pages print : List ℕ) → print_in table n ≡ Some print → bucket_of print ≡ b → n < 4294967296 → HoldsPages table n b pages → HoldsPages table (n + 1) b (pages ++ n ∷ [])
  holds_more n b pages print is own small h = record {
    different = λ i j lt lt' same. ⊎_elim
        (λ l. ⊎_elim (λ m. h.different i j l m (omega (arith, same, front i l, front j m))) (λ m. absurd (omega (arith, same, front i l, h.before i l, ap (slice_index more) (last j m lt'), here))) (cases_lt j (length pages)))
        (λ l. ⊎_elim (λ m. absurd (omega (arith, same, front j m, h.before j m, ap (slice_index more) (last i l lt), here))) (λ m. omega (arith, last i l lt, last j m lt')) (cases_lt j (length pages)))
        (cases_lt i (length pages));
    belongs = λ i lt. ⊎_elim
        (λ l. subst (Belongs (print_in table) b) (sym (front i l)) (h.belongs i l))
        (λ l. subst (Belongs (print_in table) b) (sym (ap (slice_index more) (last i l lt) ∙ here)) (record { print = print; is = is; bucket = own; small = small }))
        (cases_lt i (length pages));
    before = λ i lt. ⊎_elim (λ l. omega (arith, front i l, h.before i l)) (λ l. omega (arith, ap (slice_index more) (last i l lt), here)) (cases_lt i (length pages));
    found = λ p other lt has bucket. ⊎_elim
        (λ same. record { index = length pages; within = omega (arith, long); is = here ∙ sym same })
        (λ ne. let s : StandsIn pages p = h.found p other (omega (arith, lt, ne)) has bucket in record { index = s.index; within = omega (arith, long, s.within); is = front s.index s.within ∙ s.is })
        (cases_eq p n);
  }
    where
      more : List ℕ
      more = pages ++ n ∷ []

      long : length (pages ++ n ∷ []) ≡ length pages + 1
      long = length-append pages (n ∷ [])

      front : (i : ℕ) → i < length pages → slice_index (pages ++ n ∷ []) i ≡ slice_index pages i
      front i lt = get_or_append_left pages (n ∷ []) 0 i lt

      here : slice_index (pages ++ n ∷ []) (length pages) ≡ n
      here = get_or-append_seam pages n [] 0

      last : (i : ℕ) → length pages ≤ i → i < length (pages ++ n ∷ []) → i ≡ length pages
      last i le lt = omega (arith, le, lt, long)

  -- a page without a print
  pub filled_past : (n : ℕ) (lists : ℕ → List ℕ) → print_in table n ≡ None → IsFilled table n lists → IsFilled table (n + 1) lists
  filled_past n lists none f = record {
    whole = λ p print lt is. ⊎_elim (λ same. absurd (no_print print (ap (print_in table) (sym same) ∙ is))) (λ ne. f.whole p print (omega (arith, lt, ne)) is) (cases_eq p n);
    each = λ b. holds_later n b (lists b) (λ print is _. no_print print is) (f.each b);
  }
    where
      no_print : (print : List ℕ) → print_in table n ≡ Some print → ⊥
      no_print print is = absurd cc

  -- and one with a print, which went to the end of its list
  pub filled_more : (n : ℕ) (print : List ℕ) (lists new : ℕ → List ℕ) → print_in table n ≡ Some print → IsPrint print → n < 4294967296 → new (bucket_of print) ≡ lists (bucket_of print) ++ n ∷ [] → ((b : ℕ) → b ≢ bucket_of print → new b ≡ lists b)
      → IsFilled table n lists → IsFilled table (n + 1) new
  filled_more n print lists new is print_is small here others f = record {
    whole = λ p own lt has. ⊎_elim (λ same. subst IsPrint (the_print own (ap (print_in table) (sym same) ∙ has)) print_is) (λ ne. f.whole p own (omega (arith, lt, ne)) has) (cases_eq p n);
    each = λ b. ⊎_elim
        (λ same. subst (λ (k : ℕ). HoldsPages table (n + 1) k (new k)) (sym same) (subst (HoldsPages table (n + 1) (bucket_of print)) (sym here) (holds_more n (bucket_of print) (lists (bucket_of print)) print is refl small (f.each (bucket_of print)))))
        (λ ne. subst (HoldsPages table (n + 1) b) (sym (others b ne)) (holds_later n b (lists b) (λ own has bucket. ne (sym bucket ∙ ap bucket_of (sym (the_print own has)))) (f.each b)))
        (cases_eq b (bucket_of print));
  }
    where
      the_print : (own : List ℕ) → print_in table n ≡ Some own → print ≡ own
      the_print own has = let both : Some print ≡ Some own = sym is ∙ has in cc

  -- two pages of a list change places
  module _ (n b : ℕ) (pages : List ℕ) (a d : ℕ) (a_within : a < length pages) (d_within : d < length pages) (h : HoldsPages table n b pages) where
    new : List ℕ
    new = swap pages a d

    long : length (swap pages a d) ≡ length pages
    long = length-swap pages a d

    at_a : slice_index (swap pages a d) a ≡ slice_index pages d
    at_a = (swapped_from_swap pages (swap pages a d) a d 0 a_within d_within refl).0

    at_d : slice_index (swap pages a d) d ≡ slice_index pages a
    at_d = (swapped_from_swap pages (swap pages a d) a d 0 a_within d_within refl).1

    at_other : (k : ℕ) → k ≢ a → k ≢ d → slice_index (swap pages a d) k ≡ slice_index pages k
    at_other = (swapped_from_swap pages (swap pages a d) a d 0 a_within d_within refl).2

    -- where a page came from
    record Source (k : ℕ) : Type 0 where
      from : ℕ
      within : from < length pages
      is : slice_index (swap pages a d) k ≡ slice_index pages from
      first : k ≡ a → from ≡ d
      second : k ≡ d → from ≡ a
      others : k ≢ a → k ≢ d → from ≡ k

    source : (k : ℕ) → k < length pages → Source k
    source k lt = ⊎_elim
        (λ one. record { from = d; within = d_within; is = ap (slice_index (swap pages a d)) one ∙ at_a; first = λ _. refl; second = λ two. sym two ∙ one; others = λ ne _. absurd (ne one) })
        (λ not_one. ⊎_elim
        (λ two. record { from = a; within = a_within; is = ap (slice_index (swap pages a d)) two ∙ at_d; first = λ one. absurd (not_one one); second = λ _. refl; others = λ _ ne. absurd (ne two) })
        (λ not_two. record { from = k; within = lt; is = at_other k not_one not_two; first = λ one. absurd (not_one one); second = λ two. absurd (not_two two); others = λ _ _. refl })
        (cases_eq k d))
        (cases_eq k a)

    -- from one place comes one page
    once : (i j : ℕ) (s : Source i) (t : Source j) → s.from ≡ t.from → i ≡ j
    once i j s t same = ⊎_elim
        (λ i_a. ⊎_elim (λ j_a. omega (arith, i_a, j_a)) (λ not_a. ⊎_elim (λ j_d. omega (arith, i_a, j_d, s.first i_a, t.second j_d, same)) (λ not_d. absurd (omega (arith, not_d, s.first i_a, t.others not_a not_d, same))) (cases_eq j d)) (cases_eq j a))
        (λ not_a. ⊎_elim
        (λ i_d. ⊎_elim (λ j_a. omega (arith, i_d, j_a, s.second i_d, t.first j_a, same)) (λ other_a. ⊎_elim (λ j_d. omega (arith, i_d, j_d)) (λ other_d. absurd (omega (arith, other_a, s.second i_d, t.others other_a other_d, same))) (cases_eq j d)) (cases_eq j a))
        (λ not_d. ⊎_elim (λ j_a. absurd (omega (arith, not_d, s.others not_a not_d, t.first j_a, same))) (λ other_a. ⊎_elim (λ j_d. absurd (omega (arith, not_a, s.others not_a not_d, t.second j_d, same))) (λ other_d. omega (arith, s.others not_a not_d, t.others other_a other_d, same)) (cases_eq j d)) (cases_eq j a))
        (cases_eq i d))
        (cases_eq i a)

    pub holds_swapped : HoldsPages table n b (swap pages a d)
    holds_swapped = record {
      different = λ i j lt lt' same.
          let s : Source i = source i (omega (arith, lt, long)) in
          let t : Source j = source j (omega (arith, lt', long)) in
          once i j s t (h.different s.from t.from s.within t.within (sym s.is ∙ same ∙ t.is));
      belongs = λ i lt. let s : Source i = source i (omega (arith, lt, long)) in subst (Belongs (print_in table) b) (sym s.is) (h.belongs s.from s.within);
      before = λ i lt. let s : Source i = source i (omega (arith, lt, long)) in omega (arith, s.is, h.before s.from s.within);
      found = λ p print lt is own. let s : StandsIn pages p = h.found p print lt is own in stood p s;
    }
      where
        stood : (p : ℕ) → StandsIn pages p → StandsIn (swap pages a d) p
        stood p s = ⊎_elim
            (λ one. record { index = d; within = omega (arith, d_within, long); is = at_d ∙ ap (slice_index pages) (sym one) ∙ s.is })
            (λ not_one. ⊎_elim
            (λ two. record { index = a; within = omega (arith, a_within, long); is = at_a ∙ ap (slice_index pages) (sym two) ∙ s.is })
            (λ not_two. record { index = s.index; within = omega (arith, s.within, long); is = at_other s.index not_one not_two ∙ s.is })
            (cases_eq s.index d))
            (cases_eq s.index a)

  -- a list in another order
  pub holds_permuted : (n b : ℕ) (pages new : List ℕ) → IsPermutation pages new → HoldsPages table n b pages → HoldsPages table n b new
  holds_permuted n b pages new moved h = IsPermutation-keeps pages (HoldsPages table n b) h (λ l i j li lj own. holds_swapped n b l i j li lj own) new moved

  -- lists that are filled and in order are an index
  pub filled_indexed : (lists : ℕ → List ℕ) → IsFilled table (length table) lists → ((b : ℕ) → IsNonDecreasingBy (key_in table) (lists b)) → IsIndexed (print_in table) lists
  filled_indexed lists f sorted = record {
    whole = λ p print is. f.whole p print (print_within table p print is) is;
    rises = λ b i j lt within.
        let h : HoldsPages table (length table) b (lists b) = f.each b in
        let first : i < length (lists b) = omega (arith, lt, within) in
        let one : Belongs (print_in table) b (slice_index (lists b) i) = h.belongs i first in
        let two : Belongs (print_in table) b (slice_index (lists b) j) = h.belongs j within in
        let key_one : key_in table (slice_index (lists b) i) ≡ 1 + (rank one.print * 4294967296 + slice_index (lists b) i) = ap (λ (o : Option (List ℕ)). key_of o (slice_index (lists b) i)) one.is in
        let key_two : key_in table (slice_index (lists b) j) ≡ 1 + (rank two.print * 4294967296 + slice_index (lists b) j) = ap (λ (o : Option (List ℕ)). key_of o (slice_index (lists b) j)) two.is in
        let apart : slice_index (lists b) i ≢ slice_index (lists b) j = λ same. omega (arith, lt, h.different i j first within same) in
        let one_small : slice_index (lists b) i < 4294967296 = one.small in
        let two_small : slice_index (lists b) j < 4294967296 = two.small in
        omega (arith, sorted b i j 0 (omega (arith, lt)) within, key_one, key_two, one_small, two_small, apart);
    belongs = λ b. (f.each b).belongs;
    found = λ p print is. (f.each (bucket_of print)).found p print (print_within table p print is) is refl;
  }
