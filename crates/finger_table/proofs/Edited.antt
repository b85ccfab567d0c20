-- A page that is put into its list, or taken out of it, leaves the lists as they should be.
use Rattle.std.proofs.Common.{◌≡◌, ◌≢◌, ⊎_elim, ℕ, ◌+◌, ◌-◌, ◌*◌, ◌<◌, ◌≤◌, List, length, refl, sym, subst, ◌∙◌, ap, arith, slice_index, Option, Some, None, insert, remove}
use Rattle.std.proofs.lemmas.List.Edits.{length-insert, length-remove, get_or-insert_at, get_or-insert_below, get_or-insert_above, get_or-remove_below, get_or-remove_above}
use Rattle.std.proofs.lemmas.Bool.{cases_lt, cases_eq}
use Rattle.finger_table.specs.Order.{IsPrint, rank, key_of, bucket_of}
use Rattle.finger_table.specs.Index.{StandsIn, Belongs, IsIndexed}

-- numbers that rise still do where one is put between those below and those above it
rises_more : (old new : ℕ → ℕ) (at count more : ℕ) → ((i j : ℕ) → i < j → j < count → old i < old j) → ((k : ℕ) → k < at → old k < more) → ((k : ℕ) → at ≤ k → k < count → more < old k)
    → ((k : ℕ) → k < at → new k ≡ old k) → new at ≡ more → ((k : ℕ) → at ≤ k → k < count → new (k + 1) ≡ old k) → at ≤ count → (i j : ℕ) → i < j → j < count + 1 → new i < new j
rises_more old new at count more up low high front here behind fits i j lt within =
    ⊎_elim (λ i_front. ⊎_elim (λ j_front. omega (arith, front i i_front, front j j_front, up i j lt (omega arith)))
    (λ j_behind. ⊎_elim (λ e. omega (arith, front i i_front, low i i_front, ap new e, here)) (λ ne. from_front i_front (omega (arith, ne))) (cases_eq j at)) (cases_lt j at))
    (λ i_behind. ⊎_elim (λ e. from_here e) (λ ne. from_behind (omega (arith, ne))) (cases_eq i at)) (cases_lt i at)
  where
    last : at < j → new j ≡ old (j - 1)
    last above = ap new (omega arith) ∙ behind (j - 1) (omega arith) (omega arith)

    from_front : i < at → at < j → new i < new j
    from_front i_front above = omega (arith, front i i_front, last above, low i i_front, high (j - 1) (omega arith) (omega arith))

    from_here : i ≡ at → new i < new j
    from_here e = omega (arith, ap new e, here, last (omega (arith, e)), high (j - 1) (omega (arith, e)) (omega arith))

    from_behind : at < i → new i < new j
    from_behind above =
        let first : new i ≡ old (i - 1) = ap new (omega arith) ∙ behind (i - 1) (omega arith) (omega arith) in
        omega (arith, first, last (omega arith), up (i - 1) (j - 1) (omega arith) (omega arith))

-- and where one is left out
rises_less : (old new : ℕ → ℕ) (at count : ℕ) → ((i j : ℕ) → i < j → j < count + 1 → old i < old j)
    → ((k : ℕ) → k < at → new k ≡ old k) → ((k : ℕ) → at ≤ k → k < count → new k ≡ old (k + 1)) → (i j : ℕ) → i < j → j < count → new i < new j
rises_less old new at count up front behind i j lt within =
    ⊎_elim (λ i_front. ⊎_elim (λ j_front. omega (arith, front i i_front, front j j_front, up i j lt (omega arith))) (λ j_behind. omega (arith, front i i_front, behind j j_behind within, up i (j + 1) (omega arith) (omega arith))) (cases_lt j at))
    (λ i_behind. omega (arith, behind i i_behind (omega arith), behind j (omega arith) within, up (i + 1) (j + 1) (omega arith) (omega arith))) (cases_lt i at)

module _ (of_page new_page : ℕ → Option (List ℕ)) (lists new_lists : ℕ → List ℕ) (index : IsIndexed of_page lists) (p : ℕ) (print : List ℕ) (is_print : IsPrint print)
    (others : (q : ℕ) → q ≢ p → new_page q ≡ of_page q) (other_lists : (b : ℕ) → b ≢ bucket_of print → new_lists b ≡ lists b) where
  abbrev pages : List ℕ
  pages = lists (bucket_of print)

  abbrev key : ℕ → ℕ
  key k = key_of (of_page (slice_index pages k)) (slice_index pages k)

  abbrev new_key : List ℕ → ℕ → ℕ
  new_key xs k = key_of (new_page (slice_index xs k)) (slice_index xs k)

  -- a page that stays has its key
  same_key : (q r : ℕ) → r ≡ q → q ≢ p → key_of (new_page r) r ≡ key_of (of_page q) q
  same_key q r is apart = ap (λ (n : ℕ). key_of (new_page n) n) is ∙ ap (λ (o : Option (List ℕ)). key_of o q) (others q apart)

  -- and belongs where it did
  still_belongs : (b q r : ℕ) → r ≡ q → q ≢ p → Belongs of_page b q → Belongs new_page b r
  still_belongs b q r is apart own = subst (λ (n : ℕ). Belongs new_page b n) (sym is) (record { print = own.print; is = others q apart ∙ own.is; bucket = own.bucket; small = own.small })

  -- so does each list without the page
  module _ (b : ℕ) (apart_list : b ≢ bucket_of print) (apart : (i : ℕ) → i < length (lists b) → slice_index (lists b) i ≢ p) where
    other_rises : (i j : ℕ) → i < j → j < length (new_lists b) → new_key (new_lists b) i < new_key (new_lists b) j
    other_rises i j lt within =
        let same : new_lists b ≡ lists b = other_lists b apart_list in
        let fits : j < length (lists b) = omega (arith, within, ap length same) in
        subst (λ (xs : List ℕ). new_key xs i < new_key xs j) (sym same)
        (omega (arith, same_key (slice_index (lists b) i) (slice_index (lists b) i) refl (apart i (omega arith)), same_key (slice_index (lists b) j) (slice_index (lists b) j) refl (apart j fits), index.rises b i j lt fits))

    other_belongs : (i : ℕ) → i < length (new_lists b) → Belongs new_page b (slice_index (new_lists b) i)
    other_belongs i within =
        let same : new_lists b ≡ lists b = other_lists b apart_list in
        let fits : i < length (lists b) = omega (arith, within, ap length same) in
        still_belongs b (slice_index (lists b) i) (slice_index (new_lists b) i) (ap (λ (xs : List ℕ). slice_index xs i) same) (apart i fits) (index.belongs b i fits)

  -- a page without a print is put into its list
  module _ (at : ℕ) (small : p < 4294967296) (absent : of_page p ≡ None) (here : new_page p ≡ Some print) (at_within : at ≤ length pages)
      (before : (k : ℕ) → k < at → key k ≤ rank print * 4294967296 + p) (behind : (k : ℕ) → at ≤ k → k < length pages → rank print * 4294967296 + p < key k)
      (edit : new_lists (bucket_of print) ≡ insert pages at p) where
    -- it stood in no list
    apart : (b i : ℕ) → i < length (lists b) → slice_index (lists b) i ≢ p
    apart b i lt is =
        let own : Belongs of_page b (slice_index (lists b) i) = index.belongs b i lt in
        let some : of_page p ≡ Some own.print = ap of_page (sym is) ∙ own.is in absurd cc

    more : List ℕ
    more = insert pages at p

    at_place : slice_index (insert pages at p) at ≡ p
    at_place = get_or-insert_at pages at p 0 at_within

    in_front : (k : ℕ) → k < at → slice_index (insert pages at p) k ≡ slice_index pages k
    in_front k lt = get_or-insert_below pages at p 0 k lt at_within

    at_back : (k : ℕ) → at ≤ k → slice_index (insert pages at p) (k + 1) ≡ slice_index pages k
    at_back k le = get_or-insert_above pages at p 0 k le at_within

    own_key : key_of (new_page p) p ≡ 1 + (rank print * 4294967296 + p)
    own_key = ap (λ (o : Option (List ℕ)). key_of o p) here

    -- no other page has its number
    above : (k : ℕ) → at ≤ k → k < length pages → 1 + (rank print * 4294967296 + p) < key k
    above k le lt =
        let own : Belongs of_page (bucket_of print) (slice_index pages k) = index.belongs (bucket_of print) k lt in
        let is : key k ≡ 1 + (rank own.print * 4294967296 + slice_index pages k) = ap (λ (o : Option (List ℕ)). key_of o (slice_index pages k)) own.is in
        let other : slice_index pages k ≢ p = apart (bucket_of print) k lt in
        let low : slice_index pages k < 4294967296 = own.small in
        omega (arith, is, low, small, behind k le lt, other)

    put_rises : (i j : ℕ) → i < j → j < length (insert pages at p) → new_key (insert pages at p) i < new_key (insert pages at p) j
    put_rises i j lt within = rises_more key (new_key (insert pages at p)) at (length pages) (1 + (rank print * 4294967296 + p)) (index.rises (bucket_of print)) (λ k front. omega (arith, before k front)) above
        (λ k front. same_key (slice_index pages k) (slice_index (insert pages at p) k) (in_front k front) (apart (bucket_of print) k (omega arith)))
        (ap (λ (n : ℕ). key_of (new_page n) n) at_place ∙ own_key)
        (λ k le fits. same_key (slice_index pages k) (slice_index (insert pages at p) (k + 1)) (at_back k le) (apart (bucket_of print) k fits))
        at_within i j lt (omega (arith, length-insert pages at p at_within))

    put_belongs : (i : ℕ) → i < length (insert pages at p) → Belongs new_page (bucket_of print) (slice_index (insert pages at p) i)
    put_belongs i within =
        ⊎_elim (λ front. still_belongs (bucket_of print) (slice_index pages i) (slice_index (insert pages at p) i) (in_front i front) (apart (bucket_of print) i (omega arith)) (index.belongs (bucket_of print) i (omega arith)))
        (λ le. ⊎_elim (λ e. own e) (λ ne. back (omega (arith, ne))) (cases_eq i at)) (cases_lt i at)
      where
        own : i ≡ at → Belongs new_page (bucket_of print) (slice_index (insert pages at p) i)
        own e = subst (λ (n : ℕ). Belongs new_page (bucket_of print) n) (sym (ap (slice_index (insert pages at p)) e ∙ at_place)) (record { print = print; is = here; bucket = refl; small = small })

        back : at < i → Belongs new_page (bucket_of print) (slice_index (insert pages at p) i)
        back lt =
            let fits : i - 1 < length pages = omega (arith, length-insert pages at p at_within) in
            still_belongs (bucket_of print) (slice_index pages (i - 1)) (slice_index (insert pages at p) i) (ap (slice_index (insert pages at p)) (omega arith) ∙ at_back (i - 1) (omega arith)) (apart (bucket_of print) (i - 1) fits) (index.belongs (bucket_of print) (i - 1) fits)

    -- a page of the list stands in it still
    put_keeps : (q : ℕ) → StandsIn pages q → StandsIn (insert pages at p) q
    put_keeps q s = ⊎_elim (λ front. record { index = s.index; within = omega (arith, length-insert pages at p at_within, s.within); is = in_front s.index front ∙ s.is })
        (λ le. record { index = s.index + 1; within = omega (arith, length-insert pages at p at_within, s.within); is = at_back s.index le ∙ s.is }) (cases_lt s.index at)

    put_found : (q : ℕ) (own : List ℕ) → new_page q ≡ Some own → StandsIn (new_lists (bucket_of own)) q
    put_found q own is = ⊎_elim (λ e. itself e) (λ ne. other ne) (cases_eq q p)
      where
        itself : q ≡ p → StandsIn (new_lists (bucket_of own)) q
        itself e =
            let same : own ≡ print = let some : Some own ≡ Some print = sym is ∙ ap new_page e ∙ here in cc in
            subst (λ (f : List ℕ). StandsIn (new_lists (bucket_of f)) q) (sym same) (subst (λ (xs : List ℕ). StandsIn xs q) (sym edit) (record { index = at; within = omega (arith, length-insert pages at p at_within); is = at_place ∙ sym e }))

        other : q ≢ p → StandsIn (new_lists (bucket_of own)) q
        other ne =
            let s : StandsIn (lists (bucket_of own)) q = index.found q own (sym (others q ne) ∙ is) in
            ⊎_elim (λ e. subst (λ (b : ℕ). StandsIn (new_lists b) q) (sym e) (subst (λ (xs : List ℕ). StandsIn xs q) (sym edit) (put_keeps q (subst (λ (b : ℕ). StandsIn (lists b) q) e s))))
            (λ apart_list. subst (λ (xs : List ℕ). StandsIn xs q) (sym (other_lists (bucket_of own) apart_list)) s) (cases_eq (bucket_of own) (bucket_of print))

    pub put_indexed : IsIndexed new_page new_lists
    put_indexed = record {
      whole = λ q own is. ⊎_elim (λ e. let some : Some own ≡ Some print = sym is ∙ ap new_page e ∙ here in let same : own ≡ print = cc in subst IsPrint (sym same) is_print) (λ ne. index.whole q own (sym (others q ne) ∙ is)) (cases_eq q p);
      rises = λ b i j lt within. ⊎_elim (λ e. let list : new_lists b ≡ insert pages at p = ap new_lists e ∙ edit in subst (λ (xs : List ℕ). new_key xs i < new_key xs j) (sym list) (put_rises i j lt (omega (arith, within, ap length list))))
          (λ ne. other_rises b ne (apart b) i j lt within) (cases_eq b (bucket_of print));
      belongs = λ b i within. ⊎_elim (λ e. let list : new_lists b ≡ insert pages at p = ap new_lists e ∙ edit in subst (λ (n : ℕ). Belongs new_page n (slice_index (new_lists b) i)) (sym e) (subst (λ (xs : List ℕ). Belongs new_page (bucket_of print) (slice_index xs i)) (sym list) (put_belongs i (omega (arith, within, ap length list)))))
          (λ ne. other_belongs b ne (apart b) i within) (cases_eq b (bucket_of print));
      found = put_found;
    }

  -- a page with a print is taken out of its list
  module _ (at : ℕ) (stood : of_page p ≡ Some print) (gone : new_page p ≡ None)
      (before : (k : ℕ) → k < at → key k ≤ rank print * 4294967296 + p) (behind : (k : ℕ) → at ≤ k → k < length pages → rank print * 4294967296 + p < key k) where
    stands : StandsIn pages p
    stands = index.found p print stood

    its_key : (k : ℕ) → slice_index pages k ≡ p → key k ≡ 1 + (rank print * 4294967296 + p)
    its_key k is = ap (λ (n : ℕ). key_of (of_page n) n) is ∙ ap (λ (o : Option (List ℕ)). key_of o p) stood

    -- it stands at the place that was found
    found_at : stands.index ≡ at
    found_at =
        let is : key stands.index ≡ 1 + (rank print * 4294967296 + p) = its_key stands.index stands.is in
        let within : stands.index < length pages = stands.within in
        ⊎_elim (λ lt. absurd (omega (arith, is, before stands.index lt)))
        (λ le. ⊎_elim (λ gt. absurd (omega (arith, is, behind at (omega arith) (omega arith), index.rises (bucket_of print) at stands.index gt within))) (λ ge. omega arith) (cases_lt at stands.index)) (cases_lt stands.index at)

    pub taken_within : at < length pages
    taken_within = omega (arith, found_at, stands.within)

    taken_is : slice_index pages at ≡ p
    taken_is = ap (slice_index pages) (sym found_at) ∙ stands.is

    -- and nowhere else
    elsewhere : (k : ℕ) → k < length pages → k ≢ at → slice_index pages k ≢ p
    elsewhere k lt ne is =
        let this : key k ≡ 1 + (rank print * 4294967296 + p) = its_key k is in
        let that : key at ≡ 1 + (rank print * 4294967296 + p) = its_key at taken_is in
        let within : at < length pages = taken_within in
        ⊎_elim (λ low. omega (arith, this, that, index.rises (bucket_of print) k at low within)) (λ le. omega (arith, this, that, ne, index.rises (bucket_of print) at k (omega (arith, ne)) lt)) (cases_lt k at)

    other_lists_apart : (b : ℕ) → b ≢ bucket_of print → (i : ℕ) → i < length (lists b) → slice_index (lists b) i ≢ p
    other_lists_apart b ne i lt is =
        let own : Belongs of_page b (slice_index (lists b) i) = index.belongs b i lt in
        let some : Some own.print ≡ Some print = sym own.is ∙ ap of_page is ∙ stood in
        let same : own.print ≡ print = cc in
        ne (sym own.bucket ∙ ap bucket_of same)

    less_front : (k : ℕ) → k < at → slice_index (remove pages at) k ≡ slice_index pages k
    less_front k lt = get_or-remove_below pages at 0 k lt taken_within

    less_back : (k : ℕ) → at ≤ k → slice_index (remove pages at) k ≡ slice_index pages (k + 1)
    less_back k le = get_or-remove_above pages at 0 k le taken_within

    less_length : length (remove pages at) + 1 ≡ length pages
    less_length = length-remove pages at taken_within

    take_rises : (i j : ℕ) → i < j → j < length (remove pages at) → new_key (remove pages at) i < new_key (remove pages at) j
    take_rises i j lt within = rises_less key (new_key (remove pages at)) at (length (remove pages at)) (λ k l up fits. index.rises (bucket_of print) k l up (omega (arith, less_length)))
        (λ k front. same_key (slice_index pages k) (slice_index (remove pages at) k) (less_front k front) (elsewhere k (omega (arith, taken_within)) (λ e. omega (arith, e, front))))
        (λ k le fits. same_key (slice_index pages (k + 1)) (slice_index (remove pages at) k) (less_back k le) (elsewhere (k + 1) (omega (arith, less_length)) (λ e. omega (arith, e, le))))
        i j lt within

    take_belongs : (i : ℕ) → i < length (remove pages at) → Belongs new_page (bucket_of print) (slice_index (remove pages at) i)
    take_belongs i within =
        ⊎_elim (λ front. still_belongs (bucket_of print) (slice_index pages i) (slice_index (remove pages at) i) (less_front i front) (elsewhere i (omega (arith, taken_within)) (λ e. omega (arith, e, front))) (index.belongs (bucket_of print) i (omega (arith, taken_within))))
        (λ le. still_belongs (bucket_of print) (slice_index pages (i + 1)) (slice_index (remove pages at) i) (less_back i le) (elsewhere (i + 1) (omega (arith, less_length)) (λ e. omega (arith, e, le))) (index.belongs (bucket_of print) (i + 1) (omega (arith, less_length)))) (cases_lt i at)

    -- each other page of the list stands in it still
    take_keeps : (q : ℕ) → q ≢ p → StandsIn pages q → StandsIn (remove pages at) q
    take_keeps q ne s =
        let within : s.index < length pages = s.within in
        let apart_index : s.index ≢ at = λ e. ne (sym s.is ∙ ap (slice_index pages) e ∙ taken_is) in
        ⊎_elim (λ front. record { index = s.index; within = omega (arith, less_length, taken_within, front); is = less_front s.index front ∙ s.is })
        (λ le. record { index = s.index - 1; within = omega (arith, less_length, within, apart_index, le); is = less_back (s.index - 1) (omega (arith, apart_index, le)) ∙ ap (slice_index pages) (omega (arith, apart_index, le)) ∙ s.is }) (cases_lt s.index at)

    module _ (edit : new_lists (bucket_of print) ≡ remove pages at) where
      take_found : (q : ℕ) (own : List ℕ) → new_page q ≡ Some own → StandsIn (new_lists (bucket_of own)) q
      take_found q own is =
          let ne : q ≢ p = λ e. let none : new_page q ≡ None = ap new_page e ∙ gone in absurd cc in
          let s : StandsIn (lists (bucket_of own)) q = index.found q own (sym (others q ne) ∙ is) in
          ⊎_elim (λ e. subst (λ (b : ℕ). StandsIn (new_lists b) q) (sym e) (subst (λ (xs : List ℕ). StandsIn xs q) (sym edit) (take_keeps q ne (subst (λ (b : ℕ). StandsIn (lists b) q) e s))))
          (λ apart_list. subst (λ (xs : List ℕ). StandsIn xs q) (sym (other_lists (bucket_of own) apart_list)) s) (cases_eq (bucket_of own) (bucket_of print))

      pub take_indexed : IsIndexed new_page new_lists
      take_indexed = record {
        whole = λ q own is. let ne : q ≢ p = λ e. let none : new_page q ≡ None = ap new_page e ∙ gone in absurd cc in index.whole q own (sym (others q ne) ∙ is);
        rises = λ b i j lt within. ⊎_elim (λ e. let list : new_lists b ≡ remove pages at = ap new_lists e ∙ edit in subst (λ (xs : List ℕ). new_key xs i < new_key xs j) (sym list) (take_rises i j lt (omega (arith, within, ap length list))))
            (λ ne. other_rises b ne (other_lists_apart b ne) i j lt within) (cases_eq b (bucket_of print));
        belongs = λ b i within. ⊎_elim (λ e. let list : new_lists b ≡ remove pages at = ap new_lists e ∙ edit in subst (λ (n : ℕ). Belongs new_page n (slice_index (new_lists b) i)) (sym e) (subst (λ (xs : List ℕ). Belongs new_page (bucket_of print) (slice_index xs i)) (sym list) (take_belongs i (omega (arith, within, ap length list)))))
            (λ ne. other_belongs b ne (other_lists_apart b ne) i within) (cases_eq b (bucket_of print));
        found = take_found;
      }
