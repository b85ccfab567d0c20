-- The part of a list that lies between two places of a print is exactly its pages.
use Rattle.std.proofs.Common.{◌≡◌, ◌↔◌, ⊎_elim, ℕ, ◌+◌, ◌-◌, ◌*◌, ◌<◌, ◌≤◌, List, length, take, drop, sym, ◌∙◌, ap, arith, slice_index, Option, Some, length-take, length-drop}
use Rattle.std.proofs.lemmas.List.{get_or-drop, get_or-take}
use Rattle.std.proofs.lemmas.Bool.{cases_lt}
use Rattle.finger_table.specs.Order.{IsPrint, rank, key_of, bucket_of}
use Rattle.finger_table.specs.Index.{StandsIn, Belongs, IsIndexed}
use Rattle.finger_table.proofs.Ranks.{rank_tells}

module _ (of_page : ℕ → Option (List ℕ)) (lists : ℕ → List ℕ) (index : IsIndexed of_page lists) (print : List ℕ) (is_print : IsPrint print) where
  abbrev pages : List ℕ
  pages = lists (bucket_of print)

  abbrev key : ℕ → ℕ
  key k = key_of (of_page (slice_index pages k)) (slice_index pages k)

  -- a place between the first and the last number of a print has that print
  between : (k : ℕ) → k < length pages → rank print * 4294967296 + 0 < key k → key k ≤ rank print * 4294967296 + 4294967296 → of_page (slice_index pages k) ≡ Some print
  between k lt low high =
      let own : Belongs of_page (bucket_of print) (slice_index pages k) = index.belongs (bucket_of print) k lt in
      let is_own : IsPrint own.print = index.whole (slice_index pages k) own.print own.is in
      let at : key k ≡ 1 + (rank own.print * 4294967296 + slice_index pages k) = ap (λ (o : Option (List ℕ)). key_of o (slice_index pages k)) own.is in
      let small : slice_index pages k < 4294967296 = own.small in
      let same : rank own.print ≡ rank print = omega (arith, at, low, high, small) in
      own.is ∙ ap Some (rank_tells own.print print (is_own.whole ∙ sym is_print.whole) is_own.bytes is_print.bytes same)

  module _ (first end : ℕ) (first_within : first ≤ length pages) (end_within : end ≤ length pages)
      (first_before : (k : ℕ) → k < first → key k ≤ rank print * 4294967296 + 0) (first_behind : (k : ℕ) → first ≤ k → k < length pages → rank print * 4294967296 + 0 < key k)
      (end_before : (k : ℕ) → k < end → key k ≤ rank print * 4294967296 + 4294967296) (end_behind : (k : ℕ) → end ≤ k → k < length pages → rank print * 4294967296 + 4294967296 < key k) where
    abbrev part : List ℕ
    part = take (end - first) (drop first pages)

    part_length : length part ≡ end - first
    part_length = omega (arith, length-take (end - first) (drop first pages), length-drop first pages)

    part_index : (k : ℕ) → k < end - first → slice_index part k ≡ slice_index pages (first + k)
    part_index k lt = get_or-take (end - first) (drop first pages) k 0 lt ∙ get_or-drop first pages k 0

    -- the part's pages have the print
    has : (k : ℕ) → k < end - first → of_page (slice_index pages (first + k)) ≡ Some print
    has k lt = between (first + k) (omega arith) (first_behind (first + k) (omega arith) (omega arith)) (end_before (first + k) (omega arith))

    -- and the places are in order
    pub in_order : first ≤ end
    in_order = ⊎_elim (λ lt. absurd (omega (arith, first_before end lt, end_behind end (omega arith) (omega arith)))) (λ le. le) (cases_lt end first)

    -- they rise
    pub part_rises : (k : ℕ) → k + 1 < length part → slice_index part k < slice_index part (k + 1)
    part_rises k lt =
        let fits : k + 1 < end - first = omega (arith, part_length) in
        let here : key (first + k) ≡ 1 + (rank print * 4294967296 + slice_index pages (first + k)) = ap (λ (o : Option (List ℕ)). key_of o (slice_index pages (first + k))) (has k (omega arith)) in
        let next : key (first + (k + 1)) ≡ 1 + (rank print * 4294967296 + slice_index pages (first + (k + 1))) = ap (λ (o : Option (List ℕ)). key_of o (slice_index pages (first + (k + 1)))) (has (k + 1) fits) in
        let up : key (first + k) < key (first + (k + 1)) = index.rises (bucket_of print) (first + k) (first + (k + 1)) (omega arith) (omega arith) in
        omega (arith, here, next, up, part_index k (omega arith), part_index (k + 1) fits)

    -- and are exactly those with the print
    pub part_exact : (p : ℕ) → (StandsIn part p ↔ (of_page p ≡ Some print))
    part_exact p = (only, all)
      where
        only : StandsIn part p → of_page p ≡ Some print
        only s =
            let within : s.index < end - first = omega (arith, part_length, s.within) in
            ap of_page (sym s.is ∙ part_index s.index within) ∙ has s.index within

        all : of_page p ≡ Some print → StandsIn part p
        all is =
            let s : StandsIn pages p = index.found p print is in
            let own : Belongs of_page (bucket_of print) (slice_index pages s.index) = index.belongs (bucket_of print) s.index s.within in
            let small : slice_index pages s.index < 4294967296 = own.small in
            let at : key s.index ≡ 1 + (rank print * 4294967296 + slice_index pages s.index) = ap (λ (o : Option (List ℕ)). key_of o (slice_index pages s.index)) (ap of_page s.is ∙ is) in
            let low : first ≤ s.index = ⊎_elim (λ lt. absurd (omega (arith, at, first_before s.index lt))) (λ le. le) (cases_lt s.index first) in
            let high : s.index < end = ⊎_elim (λ lt. lt) (λ le. absurd (omega (arith, at, small, end_behind s.index le s.within))) (cases_lt s.index end) in
            record { index = s.index - first; within = omega (arith, part_length, low, high); is = part_index (s.index - first) (omega (arith, low, high)) ∙ ap (λ (n : ℕ). slice_index pages n) (omega (arith, low)) ∙ s.is }
