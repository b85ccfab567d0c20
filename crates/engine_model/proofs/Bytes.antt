-- No page of the layout serves two ends, and what is put in the bytes of an entry changes that entry alone.
use Rattle.std.proofs.Common.{◌≡◌, ◌⊎◌, inl, inr, ◌+◌, ◌-◌, ◌*◌, ◌/◌, ◌%◌, ◌<◌, ◌≤◌, ℕ, Bool, true, arith, refl, sym, ap, ◌∙◌, subst, List, [], ◌∷◌, ◌++◌, Option, Some, None, get_or, set, take, drop, length, length-set, length-append, length-take, length-drop, get_or-set_other, get_or-set_same, append_assoc, add-zero}
use Rattle.std.proofs.lemmas.Bool.{cases_order}
use Rattle.std.proofs.Math.Seq.{drop-append_seam, take-append_seam}
use Rattle.std.proofs.lemmas.List.{get_or_append_left, get_or-append-add, get_or-take, get_or-drop, ext_get_or}
use Rattle.order_model.specs.World.{Layout, IsData}
use Rattle.engine_model.specs.Entries.{Apart}
use Rattle.engine_model.specs.SmallSteps.{SetsCount, SetsName, SetsPrint}
use Rattle.engine_model.specs.Bytes.{layout_of, number_at, print_at, print_entry, with_bytes, with_number}

pub apart : (blocks pages : ℕ) (well_formed : ℕ → List ℕ → Bool) (zero_block : List ℕ) (finger : List ℕ → List ℕ) → Apart (layout_of blocks pages well_formed zero_block finger)
apart blocks pages well_formed zero_block finger = record {
  table_data = λ page p is d e. elim is [
    | inl t ↦ omega (arith, t, d, e)
    | inr t ↦ elim t.2 [ inl c ↦ omega (arith, t, d, e, c) | inr c ↦ omega (arith, t, d, e, c) ]
  ];
  data_data = λ q p d e ne same. ne (omega (arith, d, e, same));
  map_count = λ l p lt d e. omega (arith, lt, d, e);
  map_print = λ l p lt d e. omega (arith, lt, d, e);
  count_print = λ q p d e same. omega (arith, d, e, same);
  first_table = λ page is e. elim is [
    | inl t ↦ omega (arith, t, e)
    | inr t ↦ elim t.2 [ inl c ↦ omega (arith, t, e, c) | inr c ↦ omega (arith, t, e, c) ]
  ];
  first_data = λ p d e. omega (arith, d, e);
}

module _ (c : List ℕ) (i a b d e : ℕ) where
  abbrev one : List ℕ
  one = set c i a

  abbrev two : List ℕ
  two = set one (i + 1) b

  abbrev three : List ℕ
  three = set two (i + 2) d

  abbrev four : List ℕ
  four = set three (i + 3) e

  byte_other : (k : ℕ) → (k < i) ⊎ (i + 3 < k) → get_or four k 0 ≡ get_or c k 0
  byte_other k out = get_or-set_other three (i + 3) k e 0 (λ q. omega arith) ∙ get_or-set_other two (i + 2) k d 0 (λ q. omega arith)
      ∙ get_or-set_other one (i + 1) k b 0 (λ q. omega arith) ∙ get_or-set_other c i k a 0 (λ q. omega arith)

  module _ (fits : i + 3 < length c) where
    byte_0 : get_or four i 0 ≡ a
    byte_0 = get_or-set_other three (i + 3) i e 0 (λ q. omega arith) ∙ get_or-set_other two (i + 2) i d 0 (λ q. omega arith)
        ∙ get_or-set_other one (i + 1) i b 0 (λ q. omega arith) ∙ get_or-set_same c i a 0 (omega arith)

    byte_1 : get_or four (i + 1) 0 ≡ b
    byte_1 = get_or-set_other three (i + 3) (i + 1) e 0 (λ q. omega arith) ∙ get_or-set_other two (i + 2) (i + 1) d 0 (λ q. omega arith)
        ∙ get_or-set_same one (i + 1) b 0 (omega (arith, length-set c i a))

    byte_2 : get_or four (i + 2) 0 ≡ d
    byte_2 = get_or-set_other three (i + 3) (i + 2) e 0 (λ q. omega arith)
        ∙ get_or-set_same two (i + 2) d 0 (omega (arith, length-set c i a, length-set one (i + 1) b))

    byte_3 : get_or four (i + 3) 0 ≡ e
    byte_3 = get_or-set_same three (i + 3) e 0 (omega (arith, length-set c i a, length-set one (i + 1) b, length-set two (i + 2) d))

pub number_here : (c : List ℕ) (i n : ℕ) → i + 3 < length c → number_at (with_number c i n) i ≡ n
number_here c i n fits =
    rw (
      byte_0 c i (n % 256) (n / 256 % 256) (n / 65536 % 256) (n / 16777216) fits,
      byte_1 c i (n % 256) (n / 256 % 256) (n / 65536 % 256) (n / 16777216) fits,
      byte_2 c i (n % 256) (n / 256 % 256) (n / 65536 % 256) (n / 16777216) fits,
      byte_3 c i (n % 256) (n / 256 % 256) (n / 65536 % 256) (n / 16777216) fits,
    ) (omega arith)

pub number_other : (c : List ℕ) (i j n : ℕ) → (i + 4 ≤ j) ⊎ (j + 4 ≤ i) → number_at (with_number c i n) j ≡ number_at c j
number_other c i j n apart =
    let keep : (k : ℕ) → (k < i) ⊎ (i + 3 < k) → get_or (with_number c i n) k 0 ≡ get_or c k 0 = byte_other c i (n % 256) (n / 256 % 256) (n / 65536 % 256) (n / 16777216) in
    elim apart [
      | inl after ↦ rw (keep j (inr (omega arith)), keep (j + 1) (inr (omega arith)), keep (j + 2) (inr (omega arith)), keep (j + 3) (inr (omega arith)))
      | inr ahead ↦ rw (keep j (inl (omega arith)), keep (j + 1) (inl (omega arith)), keep (j + 2) (inl (omega arith)), keep (j + 3) (inl (omega arith)))
    ]

module _ (c bytes : List ℕ) (i : ℕ) (fits : i + length bytes ≤ length c) where
  abbrev new : List ℕ
  new = with_bytes c i bytes

  long_head : length (take i c) ≡ i
  long_head = omega (arith, length-take i c)

  pub long_bytes : length new ≡ length c
  long_bytes = simp (length-append, length-take, length-drop) (omega (arith, length-take i c, length-drop (i + length bytes) c))

  in_bytes : (j : ℕ) → j < length bytes → get_or new (i + j) 0 ≡ get_or bytes j 0
  in_bytes j lt =
      let at : i + j ≡ length (take i c) + j = omega (arith, long_head) in
      ap (λ n. get_or new n 0) at ∙ get_or-append-add (take i c) (bytes ++ drop (i + length bytes) c) j 0 ∙ get_or_append_left bytes (drop (i + length bytes) c) 0 j lt

  pub out_of_bytes : (j : ℕ) → (j < i) ⊎ (i + length bytes ≤ j) → get_or new j 0 ≡ get_or c j 0
  out_of_bytes j (inl lt) = get_or_append_left (take i c) (bytes ++ drop (i + length bytes) c) 0 j (omega (arith, long_head)) ∙ get_or-take i c j 0 lt
  out_of_bytes j (inr gt) =
      let far : j ≡ length (take i c) + (length bytes + (j - (i + length bytes))) = omega (arith, long_head) in
      let back : (i + length bytes) + (j - (i + length bytes)) ≡ j = omega arith in
      ap (λ n. get_or new n 0) far ∙ get_or-append-add (take i c) (bytes ++ drop (i + length bytes) c) (length bytes + (j - (i + length bytes))) 0
      ∙ get_or-append-add bytes (drop (i + length bytes) c) (j - (i + length bytes)) 0 ∙ get_or-drop (i + length bytes) c (j - (i + length bytes)) 0
      ∙ ap (λ n. get_or c n 0) back

-- a print is read from its 24 bytes alone
same_print : (a b : List ℕ) (j : ℕ) → length a ≡ length b → ((k : ℕ) → j ≤ k → k < j + 24 → get_or a k 0 ≡ get_or b k 0) → print_at a j ≡ print_at b j
same_print a b j long same =
    let first : get_or a j 0 ≡ get_or b j 0 = same j (omega arith) (omega arith) in
    let rest : take 20 (drop (j + 4) a) ≡ take 20 (drop (j + 4) b) = ext_get_or 0 (take 20 (drop (j + 4) a)) (take 20 (drop (j + 4) b))
    (omega (arith, length-take 20 (drop (j + 4) a), length-take 20 (drop (j + 4) b), length-drop (j + 4) a, length-drop (j + 4) b))
    (λ k lt. let few : k < 20 = omega (arith, length-take 20 (drop (j + 4) a)) in
    get_or-take 20 (drop (j + 4) a) k 0 few ∙ get_or-drop (j + 4) a k 0 ∙ same (j + 4 + k) (omega arith) (omega arith)
    ∙ sym (get_or-drop (j + 4) b k 0) ∙ sym (get_or-take 20 (drop (j + 4) b) k 0 few)) in
    rw (first, rest)

-- the entry of a print is 24 bytes long, and reads as what was put
entry_size : (print : Option (List ℕ)) → ((bytes : List ℕ) → print ≡ Some bytes → length bytes ≡ 20) → length (print_entry print) ≡ 24
entry_size None size = refl
entry_size (Some bytes) size = let twenty = size bytes refl in omega arith

entry_read : (c : List ℕ) (i : ℕ) (print : Option (List ℕ)) → ((bytes : List ℕ) → print ≡ Some bytes → length bytes ≡ 20) → i + 24 ≤ length c
    → print_at (with_bytes c i (print_entry print)) i ≡ print
entry_read c i None size fits =
    let flag : get_or (with_bytes c i (print_entry None)) i 0 ≡ 0 =
    ap (λ n. get_or (with_bytes c i (print_entry None)) n 0) (sym (add-zero i)) ∙ in_bytes c (print_entry None) i (omega arith) 0 (omega arith) in
    rw flag
entry_read c i (Some bytes) size fits =
    let twenty = size bytes refl in
    let long : i + length (print_entry (Some bytes)) ≤ length c = omega arith in
    let all : List ℕ = with_bytes c i (print_entry (Some bytes)) in
    let tail : List ℕ = drop (i + length (print_entry (Some bytes))) c in
    let head : List ℕ = take i c ++ (1 ∷ (0 ∷ (0 ∷ (0 ∷ [])))) in
    let flag : get_or (with_bytes c i (print_entry (Some bytes))) i 0 ≡ 1 =
    ap (λ n. get_or (with_bytes c i (print_entry (Some bytes))) n 0) (sym (add-zero i)) ∙ in_bytes c (print_entry (Some bytes)) i long 0 (omega arith) in
    let split : with_bytes c i (print_entry (Some bytes)) ≡ (take i c ++ (1 ∷ (0 ∷ (0 ∷ (0 ∷ []))))) ++ (bytes ++ drop (i + length (print_entry (Some bytes))) c) =
    sym (append_assoc (take i c) (1 ∷ (0 ∷ (0 ∷ (0 ∷ [])))) (bytes ++ drop (i + length (print_entry (Some bytes))) c)) in
    let four : length (take i c ++ (1 ∷ (0 ∷ (0 ∷ (0 ∷ []))))) ≡ i + 4 = simp length-append (omega (arith, length-take i c)) in
    let gone : drop (i + 4) (with_bytes c i (print_entry (Some bytes))) ≡ bytes ++ drop (i + length (print_entry (Some bytes))) c =
    ap (drop (i + 4)) split ∙ subst (λ n. drop n ((take i c ++ (1 ∷ (0 ∷ (0 ∷ (0 ∷ []))))) ++ (bytes ++ drop (i + length (print_entry (Some bytes))) c)) ≡ bytes ++ drop (i + length (print_entry (Some bytes))) c) four
    (drop-append_seam (take i c ++ (1 ∷ (0 ∷ (0 ∷ (0 ∷ []))))) (bytes ++ drop (i + length (print_entry (Some bytes))) c)) in
    let read : take 20 (drop (i + 4) (with_bytes c i (print_entry (Some bytes)))) ≡ bytes =
    ap (take 20) gone ∙ subst (λ n. take n (bytes ++ drop (i + length (print_entry (Some bytes))) c) ≡ bytes) twenty (take-append_seam bytes (drop (i + length (print_entry (Some bytes))) c)) in
    rw flag (ap Some read)

-- what is put in the bytes of an entry changes that entry alone
module _ (blocks pages : ℕ) (well_formed : ℕ → List ℕ → Bool) (zero_block : List ℕ) (finger : List ℕ → List ℕ) (c : List ℕ) (long : length c ≡ 4096) where
  abbrev lay : Layout
  lay = layout_of blocks pages well_formed zero_block finger

  pub puts_name : (l p : ℕ) → lay.well_formed (lay.map_page l) (with_number c (4 * (l % 1024)) p) ≡ true → SetsName lay c (with_number c (4 * (l % 1024)) p) l p
  puts_name l p formed = record {
    here = number_here c (4 * (l % 1024)) p (omega arith);
    other = λ k lt ne same. number_other c (4 * (l % 1024)) (4 * (k % 1024)) p (elim (cases_order (l % 1024) (k % 1024)) [
      | inl e ↦ absurd (ne (omega (arith, same, e)))
      | inr o ↦ elim o [ inl lt ↦ inl (omega arith) | inr gt ↦ inr (omega arith) ]
    ]);
    formed = formed;
  }

  pub puts_count : (p n : ℕ) → IsData lay p → lay.well_formed (lay.count_page p) (with_number c (4 * ((p - 1) % 1024)) n) ≡ true → SetsCount lay c (with_number c (4 * ((p - 1) % 1024)) n) p n
  puts_count p n is formed = record {
    here = number_here c (4 * ((p - 1) % 1024)) n (omega arith);
    other = λ q d ne same. number_other c (4 * ((p - 1) % 1024)) (4 * ((q - 1) % 1024)) n (elim (cases_order ((p - 1) % 1024) ((q - 1) % 1024)) [
      | inl e ↦ absurd (ne (omega (arith, same, d, is, e)))
      | inr o ↦ elim o [ inl lt ↦ inl (omega arith) | inr gt ↦ inr (omega arith) ]
    ]);
    formed = formed;
  }

  pub puts_print : (p : ℕ) (print : Option (List ℕ)) → IsData lay p → ((bytes : List ℕ) → print ≡ Some bytes → length bytes ≡ 20)
      → lay.well_formed (lay.print_page p) (with_bytes c (24 * ((p - 1) % 170)) (print_entry print)) ≡ true
      → SetsPrint lay c (with_bytes c (24 * ((p - 1) % 170)) (print_entry print)) p print
  puts_print p print is size formed =
      let entry = entry_size print size in
      let fits : 24 * ((p - 1) % 170) + length (print_entry print) ≤ length c = omega arith in
      record {
        here = entry_read c (24 * ((p - 1) % 170)) print size (omega arith);
        other = λ q d ne same. same_print (with_bytes c (24 * ((p - 1) % 170)) (print_entry print)) c (24 * ((q - 1) % 170)) (long_bytes c (print_entry print) (24 * ((p - 1) % 170)) fits)
            (λ j low high. out_of_bytes c (print_entry print) (24 * ((p - 1) % 170)) fits j (elim (cases_order ((p - 1) % 170) ((q - 1) % 170)) [
              | inl e ↦ absurd (ne (omega (arith, same, d, is, e)))
              | inr o ↦ elim o [ inl lt ↦ inr (omega arith) | inr gt ↦ inl (omega arith) ]
            ]));
        formed = formed;
      }
