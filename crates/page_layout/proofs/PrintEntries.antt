-- A print entry, and what a write of one leaves.
use Rattle.std.proofs.Common.{◌≡◌, ◌≢◌, ◌⊎◌, inl, inr, ⊎_elim, ℕ, zero, suc, ◌+◌, ◌*◌, ◌-◌, ◌<◌, ◌≤◌, ◌==◌, if◌then◌else◌, List, [], ◌∷◌, ◌++◌, length, take, drop, refl, sym, ◌∙◌, ap, subst, arith, get_or, slice_index, Option, Some, None, length-take, length-drop, length-append, append_assoc}
use Rattle.std.proofs.lemmas.List.{get_or-drop, ext_get_or, drop_at, take_at, get_or-append_right, get_or_append_left, get_or-take, get_or-replicate}
use Rattle.std.proofs.lemmas.Bool.{cases_eq, cases_lt, cases_order}
use Rattle.page_layout.specs.Shape.{ShapeView}
use Rattle.page_layout.specs.Tables.{AreZero, IsPrintEntry, IsPrintPage, print_entry_of}
use Rattle.page_layout.specs.Entries.{print_bytes, SetsPrint}
use Rattle.page_layout.proofs.Bytes.{other_bytes}

-- an entry depends on its 24 bytes alone
pub same_print : (p q : List ℕ) (j : ℕ) → length p ≡ length q → ((k : ℕ) → 24 * j ≤ k → k < 24 * j + 24 → slice_index p k ≡ slice_index q k) → print_entry_of p j ≡ print_entry_of q j
same_print p q j l h =
    let flag : slice_index p (24 * j) ≡ slice_index q (24 * j) = h (24 * j) (omega arith) (omega arith) in
    let bytes : take 20 (drop (24 * j + 4) p) ≡ take 20 (drop (24 * j + 4) q) = same_part in
    let entry : ℕ → List ℕ → Option (List ℕ) = λ f b. (if f == 1 then Some b else None) in
    ap (λ (f : ℕ). entry f (take 20 (drop (24 * j + 4) p))) flag ∙ ap (λ (b : List ℕ). entry (slice_index q (24 * j)) b) bytes
  where
    same_part : take 20 (drop (24 * j + 4) p) ≡ take 20 (drop (24 * j + 4) q)
    same_part = ext_get_or 0 (take 20 (drop (24 * j + 4) p)) (take 20 (drop (24 * j + 4) q)) (simp (length-take, length-drop) (omega arith)) (λ k lt.
        let below : k < 20 = omega (arith, length-take 20 (drop (24 * j + 4) p)) in
        get_or-take 20 (drop (24 * j + 4) p) k 0 below ∙ get_or-drop (24 * j + 4) p k 0 ∙ h (24 * j + 4 + k) (omega arith) (omega arith)
        ∙ sym (get_or-drop (24 * j + 4) q k 0) ∙ sym (get_or-take 20 (drop (24 * j + 4) q) k 0 below))

-- the three bytes behind a flag
middle : (f : List ℕ) (k : ℕ) → 1 ≤ k → k < 4 → slice_index (print_bytes (Some f)) k ≡ 0
middle f (suc zero) le lt = refl
middle f (suc (suc zero)) le lt = refl
middle f (suc (suc (suc zero))) le lt = refl
middle f zero le lt = absurd (omega arith)
middle f (suc (suc (suc (suc k)))) le lt = absurd (omega arith)

-- the bytes of the entry that is written
module _ (front rest : List ℕ) (i : ℕ) (at_front : length front ≡ 24 * i) where
  -- one by one
  written : (bytes : List ℕ) (k : ℕ) → k < length bytes → slice_index (front ++ (bytes ++ rest)) (24 * i + k) ≡ slice_index bytes k
  written bytes k lt =
      get_or-append_right front (bytes ++ rest) (24 * i) (24 * i + k) 0 at_front (omega arith)
      ∙ ap (λ (n : ℕ). get_or (bytes ++ rest) n 0) (omega arith) ∙ get_or_append_left bytes rest 0 k lt

  -- a print
  as_print : (f : List ℕ) → length f ≡ 20 → print_entry_of (front ++ (print_bytes (Some f) ++ rest)) i ≡ Some f
  as_print f l =
      let page : List ℕ = front ++ (print_bytes (Some f) ++ rest) in
      let flag : slice_index page (24 * i) ≡ 1 = ap (λ (n : ℕ). get_or page n 0) (omega arith) ∙ written (print_bytes (Some f)) 0 (omega (arith, l)) in
      let four : List ℕ = 1 ∷ 0 ∷ 0 ∷ 0 ∷ [] in
      let behind : drop (24 * i + 4) page ≡ f ++ rest = ap (drop (24 * i + 4)) (sym (append_assoc front four (f ++ rest))) ∙ drop_at (front ++ four) (f ++ rest) (24 * i + 4) (omega (arith, length-append front four)) in
      rw flag (ap Some (ap (take 20) behind ∙ take_at f rest 20 l))

  -- no print
  as_none : print_entry_of (front ++ (print_bytes None ++ rest)) i ≡ None
  as_none =
      let page : List ℕ = front ++ (print_bytes None ++ rest) in
      let flag : slice_index page (24 * i) ≡ 0 = ap (λ (n : ℕ). get_or page n 0) (omega arith) ∙ written (print_bytes None) 0 (omega arith) in
      rw flag refl

  -- is read
  is_read : (print : Option (List ℕ)) → length (print_bytes print) ≡ 24 → print_entry_of (front ++ (print_bytes print ++ rest)) i ≡ print
  is_read None l = as_none
  is_read (Some f) l = as_print f (omega (arith, l))

  -- and is well formed
  well_formed : (print : Option (List ℕ)) → length (print_bytes print) ≡ 24 → IsPrintEntry (front ++ (print_bytes print ++ rest)) i
  well_formed None l =
      let zeros : (j : ℕ) → 24 * i ≤ j → j < 24 * i + 24 → slice_index (front ++ (print_bytes None ++ rest)) j ≡ 0 = λ j le lt.
      ap (λ (n : ℕ). get_or (front ++ (print_bytes None ++ rest)) n 0) (omega arith) ∙ written (print_bytes None) (j - 24 * i) (omega arith) ∙ get_or-replicate 24 (j - 24 * i) 0 0 (omega arith) in
      record { flag = omega (arith, zeros (24 * i) (omega arith) (omega arith)); padding = λ j le lt. zeros j (omega arith) (omega arith); none = λ _ j le lt. zeros j (omega arith) (omega arith) }
  well_formed (Some f) l =
      let page : List ℕ = front ++ (print_bytes (Some f) ++ rest) in
      let byte : (k : ℕ) → k < 24 → slice_index page (24 * i + k) ≡ slice_index (print_bytes (Some f)) k = λ k lt. written (print_bytes (Some f)) k (omega (arith, l)) in
      let flag : slice_index page (24 * i) ≡ 1 = ap (λ (n : ℕ). get_or page n 0) (omega arith) ∙ byte 0 (omega arith) in
      record { flag = omega (arith, flag); padding = λ j le lt. ap (λ (n : ℕ). get_or page n 0) (omega arith) ∙ byte (j - 24 * i) (omega arith) ∙ middle f (j - 24 * i) (omega arith) (omega arith); none = λ zero. absurd (omega (arith, flag, zero)) }

-- a well-formed page in which the entry of a data page is another well-formed one
module _ (shape : ShapeView) (k i : ℕ) (old new : List ℕ) (small : i < 170) (is : IsPrintEntry new i)
    (bytes : (b : ℕ) → (b < 24 * i) ⊎ (24 * i + 24 ≤ b) → slice_index new b ≡ slice_index old b) (used : 170 * k + i < shape.pages) (was : IsPrintPage shape k old) where
  zero_kept : (from to : ℕ) → ((j : ℕ) → from ≤ j → j < to → (j < 24 * i) ⊎ (24 * i + 24 ≤ j)) → AreZero old from to → AreZero new from to
  zero_kept from to apart z j low high = bytes j (apart j low high) ∙ z j low high

  entry_kept : (j : ℕ) → j ≢ i → IsPrintEntry old j → IsPrintEntry new j
  entry_kept j ne e =
      let flag_same : slice_index new (24 * j) ≡ slice_index old (24 * j) = bytes (24 * j) (out (24 * j) (omega arith) (omega arith)) in
      record {
        flag = omega (arith, flag_same, e.flag);
        padding = zero_kept (24 * j + 1) (24 * j + 4) (λ b low high. out b (omega (arith, low)) (omega (arith, high))) e.padding;
        none = λ z. zero_kept (24 * j + 4) (24 * j + 24) (λ b low high. out b (omega (arith, low)) (omega (arith, high))) (e.none (sym flag_same ∙ z));
      }
    where
      out : (b : ℕ) → 24 * j ≤ b → b < 24 * j + 24 → (b < 24 * i) ⊎ (24 * i + 24 ≤ b)
      out b low high = elim (cases_order j i) [
        | inl same ↦ absurd (ne same)
        | inr o ↦ elim o [ inl lt ↦ inl (omega (arith, high, lt)) | inr gt ↦ inr (omega (arith, low, gt)) ]
      ]

  pub print_page_kept : IsPrintPage shape k new
  print_page_kept = record {
    used = λ j few in_use. elim (cases_eq j i) [
      | inl same ↦ subst (IsPrintEntry new) (sym same) is
      | inr ne ↦ entry_kept j ne (was.used j few in_use)
    ];
    rest = λ j few behind. zero_kept (24 * j) (24 * j + 24) (λ b low high. inr (omega (arith, low, behind, used))) (was.rest j few behind);
    tail = zero_kept 4080 4096 (λ b low high. inr (omega (arith, low, small))) was.tail;
  }

-- a write of 24 bytes
pub sets_print : (old : List ℕ) (i : ℕ) (print : Option (List ℕ)) (new : List ℕ) → i < 170 → 24 * i + 24 ≤ length old → length (print_bytes print) ≡ 24
    → new ≡ take (24 * i) old ++ (print_bytes print ++ drop 24 (drop (24 * i) old)) → SetsPrint old i print new
sets_print old i print new small fits l is = subst (λ (p : List ℕ). SetsPrint old i print p) (sym is) (record {
  entry = is_read front rest i at_front print l;
  well_formed = well_formed front rest i at_front print l;
  others = λ j apart. same_print written_page old j same_length (λ k from to. other_bytes old (24 * i) 24 k (print_bytes print) l fits (⊎_elim (λ lt. inl (omega arith)) (λ ge. inr (omega (arith, ge, above i j apart ge))) (cases_lt j i)));
  bytes = others;
  formed = λ shape k used was. print_page_kept shape k i old written_page small (well_formed front rest i at_front print l) others used was;
})
  where
    front : List ℕ
    front = take (24 * i) old

    rest : List ℕ
    rest = drop 24 (drop (24 * i) old)

    written_page : List ℕ
    written_page = front ++ (print_bytes print ++ rest)

    at_front : length front ≡ 24 * i
    at_front = omega (arith, length-take (24 * i) old)

    others : (k : ℕ) → (k < 24 * i) ⊎ (24 * i + 24 ≤ k) → slice_index written_page k ≡ slice_index old k
    others k out = other_bytes old (24 * i) 24 k (print_bytes print) l fits out

    same_length : length written_page ≡ length old
    same_length = simp (length-append, length-take, length-drop) (omega (arith, l))

    above : (a b : ℕ) → (b ≡ a → ⊥) → a ≤ b → a < b
    above a b h le = omega (arith, h)
