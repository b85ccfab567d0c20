-- An image that is fit for an array is good, and reads the array's contents.
use Rattle.std.proofs.Common.{arith, ◌≡◌, inl, inr, ◌<◌, ◌≤◌, ◌+◌, ◌-◌, ◌*◌, ◌/◌, ℕ, zero, suc, Bool, true, false, cond, refl, sym, ap, ◌∙◌, subst, List, [], ◌∷◌, Option, Some, None, eqb, eq-eqb, ne_eqb, get_or, length, IsSome}
use Rattle.std.proofs.lemmas.Bool.{cases_eq}
use Rattle.page_device.specs.Block.{Block, zero_block}
use Rattle.page_layout.specs.Fingerprint.{fingerprint_of}
use Rattle.page_layout.specs.Formed.{is_formed}
use Rattle.page_layout.specs.Numbers.{entry_of}
use Rattle.page_layout.specs.Shape.{IsSuperblock, ShapeView, count_page, count_pages, count_place, data_page, first_count_page, first_print_page, map_page, map_pages, map_place, print_page, print_pages, print_place, told_shape, total}
use Rattle.page_layout.specs.Tables.{HasShape, IsCountPage, IsMapPage, IsPrintPage, IsWellFormed, count_of, data_of, map_of, page_of, print_entry_of, print_of, shape_of}
use Rattle.page_layout.proofs.FormedPages.{formed_count, formed_map, formed_print}
use Rattle.order_model.specs.Contents.{IsAmong}
use Rattle.order_model.specs.Counting.{count_below}
use Rattle.array_model.specs.Images.{IsGood, block_of, names}
use Rattle.engine_model.specs.Images.{Format, block_in}
use Rattle.store_core.specs.Weaker.{mode_of}
use Rattle.store_core.specs.Layout.{lay_of, top}
use Rattle.store_core.specs.Stands.{IsFit}

pub page_is : (xs : List Block) (k : ℕ) → k < length xs → page_of xs k ≡ get_or xs k []
page_is [] k lt = absurd (omega arith)
page_is (x ∷ xs) zero lt = refl
page_is (x ∷ xs) (suc k) lt = page_is xs k (omega arith)

count_same : (n : ℕ) (f g : ℕ → Bool) → ((l : ℕ) → l < n → f l ≡ g l) → count_below f n ≡ count_below g n
unfolding count_below
count_same zero f g h = refl
count_same (suc n) f g h = rw (h n (omega arith), count_same n f g (λ l lt. h l (omega (arith, lt)))) refl

-- what a well-formed table page holds
pub format : (shape : ShapeView) → Format (lay_of shape) top
format shape = record {
  names = λ l c lt formed.
      let few : entry_of c (map_place l) ≤ shape.pages = ((formed_map shape (l / 1024) c (omega (arith, lt))).0 formed).used (map_place l) (omega arith) (omega (arith, lt)) in
      elim (cases_eq (entry_of c (map_place l)) 0) [ inl none ↦ inl none | inr some ↦ inr (omega (arith, some), few) ];
  counts = λ p c is formed. let first = is.0 in let last = is.1 in ((formed_count shape (count_page shape p - first_count_page shape) c (omega (arith, first, last))).0 (subst (λ (n : ℕ). is_formed shape n c ≡ true) (omega arith) formed)).used (count_place p) (omega arith) (omega (arith, first, last));
}

module _ (shape : ShapeView) (sound : Bool) (array : ℕ → List Block) (image : List Block) (fit : IsFit shape sound array image) where
  first_is : page_of image 0 ≡ get_or image 0 []
  first_is = page_is image 0 (omega (arith, fit.sized))

  pub same : shape_of image ≡ shape
  same = ap told_shape first_is ∙ fit.shape_is

  has : HasShape image
  has = record { superblock = subst IsSuperblock (sym first_is) fit.first; enough = subst (λ (s : ShapeView). total s ≤ length image) (sym same) fit.sized }

  at : (k : ℕ) → k < total shape → page_of image k ≡ get_or image k []
  at k lt = page_is image k (omega (arith, lt, fit.sized))

  map_in : (l : ℕ) → l < shape.blocks → map_page l < total shape
  map_in l lt = omega (arith, lt)

  count_in : (p : ℕ) → 1 ≤ p → p ≤ shape.pages → count_page shape p < total shape
  count_in p first last = omega (arith, first, last)

  print_in : (p : ℕ) → 1 ≤ p → p ≤ shape.pages → print_page shape p < total shape
  print_in p first last = omega (arith, first, last)

  data_in : (p : ℕ) → 1 ≤ p → p ≤ shape.pages → data_page shape p < total shape
  data_in p first last = omega (arith, first, last)

  map_is : (l : ℕ) → l < shape.blocks → map_of image l ≡ entry_of (get_or image (map_page l) []) (map_place l)
  map_is l lt = ap (λ (c : Block). entry_of c (map_place l)) (at (map_page l) (map_in l lt))

  pub count_is : (p : ℕ) → 1 ≤ p → p ≤ shape.pages → count_of image p ≡ entry_of (get_or image (count_page shape p) []) (count_place p)
  count_is p first last = ap (λ (s : ShapeView). entry_of (page_of image (count_page s p)) (count_place p)) same ∙ ap (λ (c : Block). entry_of c (count_place p)) (at (count_page shape p) (count_in p first last))

  pub print_is : (p : ℕ) → 1 ≤ p → p ≤ shape.pages → print_of image p ≡ print_entry_of (get_or image (print_page shape p) []) (print_place p)
  print_is p first last = ap (λ (s : ShapeView). print_entry_of (page_of image (print_page s p)) (print_place p)) same ∙ ap (λ (c : Block). print_entry_of c (print_place p)) (at (print_page shape p) (print_in p first last))

  pub data_is : (p : ℕ) → 1 ≤ p → p ≤ shape.pages → data_of image p ≡ get_or image (data_page shape p) []
  data_is p first last = ap (λ (s : ShapeView). page_of image (data_page s p)) same ∙ at (data_page shape p) (data_in p first last)

  pub names_are : (p : ℕ) → names image p ≡ count_below (λ l. eqb (entry_of (get_or image (map_page l) []) (map_place l)) p) shape.blocks
  names_are p = ap (λ (s : ShapeView). count_below (λ l. eqb (map_of image l) p) s.blocks) same
      ∙ count_same shape.blocks (λ l. eqb (map_of image l) p) (λ l. eqb (entry_of (get_or image (map_page l) []) (map_place l)) p) (λ l lt. ap (λ (n : ℕ). eqb n p) (map_is l lt))

  some_print : (o : Option (List ℕ)) (P : Type 0) → ((print : List ℕ) → o ≡ Some print → P) → IsSome o → P
  some_print None P f h = absurd (cc)
  some_print (Some print) P f h = f print refl

  is_well_formed : IsWellFormed image
  is_well_formed = record {
    maps = λ k lt. let few : k < map_pages shape = subst (λ (s : ShapeView). k < map_pages s) same lt in
        subst (λ (s : ShapeView). IsMapPage s k (page_of image (1 + k))) (sym same) (subst (IsMapPage shape k) (sym (at (1 + k) (omega (arith, few))))
        ((formed_map shape k (get_or image (1 + k) []) few).0 (fit.contents.well_formed (1 + k) (inl (1024 * k, omega (arith, few), omega arith)))));
    counts = λ k lt. let few : k < count_pages shape = subst (λ (s : ShapeView). k < count_pages s) same lt in
        subst (λ (s : ShapeView). IsCountPage s k (page_of image (first_count_page s + k))) (sym same) (subst (IsCountPage shape k) (sym (at (first_count_page shape + k) (omega (arith, few))))
        ((formed_count shape k (get_or image (first_count_page shape + k) []) few).0 (fit.contents.well_formed (first_count_page shape + k) (inr (1024 * k + 1, (omega arith, omega (arith, few)), inl (omega arith))))));
    prints = λ k lt. let few : k < print_pages shape = subst (λ (s : ShapeView). k < print_pages s) same lt in
        subst (λ (s : ShapeView). IsPrintPage s k (page_of image (first_print_page s + k))) (sym same) (subst (IsPrintPage shape k) (sym (at (first_print_page shape + k) (omega (arith, few))))
        ((formed_print shape k (get_or image (first_print_page shape + k) []) few).0 (fit.contents.well_formed (first_print_page shape + k) (inr (170 * k + 1, (omega arith, omega (arith, few)), inr (omega arith))))));
  }

  pub few_pages : (p : ℕ) → p ≤ (shape_of image).pages → p ≤ shape.pages
  few_pages p h = subst (λ (s : ShapeView). p ≤ s.pages) same h

  names_counted : (p : ℕ) → 1 ≤ p → p ≤ (shape_of image).pages → names image p ≤ count_of image p
  names_counted p first last = omega (arith, names_are p, count_is p first (few_pages p last), fit.counts.names p (first, few_pages p last))

  prints_counted : (p : ℕ) → 1 ≤ p → p ≤ (shape_of image).pages → IsSome (print_of image p) → 1 ≤ count_of image p
  prints_counted p first last some = some_print (print_of image p) (1 ≤ count_of image p) (λ print e.
      omega (arith, count_is p first (few_pages p last), fit.counts.prints p print (first, few_pages p last) (sym (print_is p first (few_pages p last)) ∙ e))) some

  prints_true : sound ≡ true → (p : ℕ) → 1 ≤ p → p ≤ (shape_of image).pages → (f : List ℕ) → print_of image p ≡ Some f → f ≡ fingerprint_of (shape_of image).version (data_of image p)
  prints_true on_ p first last f e = fit.contents.prints on_ p f (first, few_pages p last) (sym (print_is p first (few_pages p last)) ∙ e)
      ∙ ap (fingerprint_of shape.version) (sym (data_is p first (few_pages p last))) ∙ ap (λ (s : ShapeView). fingerprint_of s.version (data_of image p)) (sym same)

  good_of : (b : Bool) → b ≡ sound → IsGood (mode_of b) image
  good_of true e = record { shape = has; well_formed = is_well_formed; names_counted = names_counted; prints_counted = prints_counted; prints_true = prints_true (sym e); exact = tt; once = tt }
  good_of false e = record { shape = has; well_formed = is_well_formed; names_counted = names_counted; prints_counted = prints_counted; prints_true = tt; exact = tt; once = tt }

  pub good : IsGood (mode_of sound) image
  good = good_of sound refl

  names_few : (l : ℕ) → l < shape.blocks → map_of image l ≤ shape.pages
  names_few l lt = elim ((format shape).names l (get_or image (map_page l) []) lt (fit.contents.well_formed (map_page l) (inl (l, lt, refl)))) [
    | inl none ↦ omega (arith, map_is l lt, none)
    | inr some ↦ let few = some.1 in omega (arith, map_is l lt, few)
  ]

  -- the block reads what the plain state reads there
  pub reads_same : (l : ℕ) → l < shape.blocks → block_of image l ≡ block_in (lay_of shape) (λ page. get_or image page []) l
  reads_same l lt =
      ap (λ (m : ℕ). cond (eqb m 0) zero_block (data_of image m)) (map_is l lt) ∙ elim (cases_eq (entry_of (get_or image (map_page l) []) (map_place l)) 0) [
        | inl none ↦ rw (eq-eqb _ 0 none) refl
        | inr some ↦ rw (ne_eqb _ 0 some) (data_is (entry_of (get_or image (map_page l) []) (map_place l)) (omega (arith, some)) (omega (arith, names_few l lt, map_is l lt)))
      ]

  pub reads : (l : ℕ) → l < shape.blocks → IsAmong (block_of image l) (array l)
  reads l lt =
      let r = fit.contents.reads l lt in
      elim (cases_eq (map_of image l) 0) [
        | inl none ↦ subst (λ (b : Bool). IsAmong (cond b zero_block (data_of image (map_of image l))) (array l)) (sym (eq-eqb (map_of image l) 0 none)) (r.unmapped (sym (map_is l lt) ∙ none))
        | inr some ↦ subst (λ (b : Bool). IsAmong (cond b zero_block (data_of image (map_of image l))) (array l)) (sym (ne_eqb (map_of image l) 0 some))
            (subst (λ (c : Block). IsAmong c (array l)) (sym (data_is (map_of image l) (omega (arith, some)) (names_few l lt))) (r.mapped (map_of image l) (omega (arith, some), names_few l lt) (sym (map_is l lt))))
      ]
