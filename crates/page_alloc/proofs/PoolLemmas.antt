-- A pool as a list of what was told, and each call as a change of it.
use Rattle.std.proofs.Common.{◌≡◌, ◌≢◌, ℕ, ◌+◌, ◌-◌, ◌*◌, ◌/◌, ◌%◌, ◌<◌, ◌≤◌, inl, inr, Bool, true, false, not, ◌&&◌, ◌||◌, eqb, List, length, map, get_or, set, refl, sym, ◌∙◌, ap, ap₂, subst, arith, eq-eqb, ne_eqb, ext_get_or, get_or-set_same, get_or-set_other, length-set}
use Rattle.std.specs.List.{range_with_len}
use Rattle.std.proofs.lemmas.Bool.{cases_eq, cases_Bool}
use Rattle.std.proofs.lemmas.List.{get_or_read}
use Rattle.std.proofs.lemmas.List.FromFn.{length-map-range_with_len, get_or-map-range_with_len}
use Rattle.order_model.specs.Pool.{Told, after_fixed, after_take, after_tried, after_written, after_zeroed}
use Rattle.order_model.specs.World.{Layout}
use Rattle.page_layout.specs.Shape.{ShapeView, count_page, count_pages, first_count_page}
use Rattle.page_alloc.specs.Marks.{told_in, told_after, no_told}
use Rattle.page_alloc.specs.Numbers.{holds}
use Rattle.page_alloc.specs.Kept.{marks_at, told_at, IsIndexed, IsPool}
use Rattle.page_alloc.specs.Pool.{PoolView, pool_told, told_of, IsTold, IsLaidOut}
use Rattle.page_alloc.specs.declared.marks.Marks.{Marks}
use Rattle.page_alloc.specs.declared.marks.Step.{Step}
use Rattle.page_alloc.specs.declared.marks.Step.TheVariants.{Tried, Written, Fixed}
use Rattle.page_alloc.proofs.NumberLemmas.{eqb_bit}

-- what the list says of a data page
pub told_of-pool : (shape : ShapeView) (told : ℕ → Told) (p : ℕ) → 1 ≤ p → p ≤ shape.pages → told_of (pool_told shape told) p ≡ told p
told_of-pool shape told p first last = get_or-map-range_with_len told 1 shape.pages (p - 1) p no_told (omega arith) (omega arith)

-- pools that were told the same of each data page are one
pub same_pool : (shape : ShapeView) (told now : ℕ → Told) → ((p : ℕ) → 1 ≤ p → p ≤ shape.pages → now p ≡ told p) → pool_told shape now ≡ pool_told shape told
same_pool shape told now same =
    let lists : map now (range_with_len 1 shape.pages) ≡ map told (range_with_len 1 shape.pages) =
    ext_get_or no_told _ _ (length-map-range_with_len now 1 shape.pages ∙ sym (length-map-range_with_len told 1 shape.pages))
    (λ i lt.
    let within : i < shape.pages = omega (arith, lt, length-map-range_with_len now 1 shape.pages) in
    get_or-map-range_with_len now 1 shape.pages i (1 + i) no_told within refl
    ∙ same (1 + i) (omega arith) (omega arith)
    ∙ sym (get_or-map-range_with_len told 1 shape.pages i (1 + i) no_told within refl)) in
    ap (λ (l : List Told). record { shape = shape; told = l }) lists

pub is_told : (shape : ShapeView) (told now : ℕ → Told) → ((p : ℕ) → 1 ≤ p → p ≤ shape.pages → now p ≡ told p) → IsTold shape told (pool_told shape now)
is_told shape told now same = record {
  same_shape = refl;
  each = λ p first last. told_of-pool shape now p first last ∙ same p first last;
  exact = same_pool shape told now same;
}

-- the same of a shape that is equal to this one
pub is_told_at : (kept shape : ShapeView) (told now : ℕ → Told) → kept ≡ shape → ((p : ℕ) → 1 ≤ p → p ≤ kept.pages → now p ≡ told p) → IsTold shape told (pool_told kept now)
is_told_at kept shape told now equal same = subst (λ (s : ShapeView). IsTold s told (pool_told kept now)) equal (is_told kept told now same)

-- each page is told what its own past makes of it
pub retold : (shape : ShapeView) (old now : ℕ → Told) (view : PoolView) → pool_told shape old ≡ view → (change : Told → ℕ → Told)
    → ((p : ℕ) → 1 ≤ p → p ≤ shape.pages → now p ≡ change (old p) p) → IsTold view.shape (λ p. change (told_of view p) p) (pool_told shape now)
retold shape old now view is change same =
    subst (λ (v : PoolView). IsTold v.shape (λ p. change (told_of v p) p) (pool_told shape now)) is
    (is_told shape (λ p. change (told_of (pool_told shape old) p) p) now
    (λ p first last. same p first last ∙ ap (λ t. change t p) (sym (told_of-pool shape old p first last))))

-- told what it knew, a pool stays as it was
pub unchanged : (shape : ShapeView) (old : ℕ → Told) (view later : PoolView) → pool_told shape old ≡ view → (told : ℕ → Told) → IsTold view.shape told later
    → ((p : ℕ) → 1 ≤ p → p ≤ view.shape.pages → told p ≡ told_of view p) → later ≡ view
unchanged shape old view later is told now same =
    let whole = subst (λ (v : PoolView). pool_told v.shape (told_of v) ≡ v) is (same_pool shape old (told_of (pool_told shape old)) (told_of-pool shape old)) in
    now.exact ∙ same_pool view.shape (told_of view) told same ∙ whole

-- a page of which a zero was told already
pub zeroed_again : (view : PoolView) (p : ℕ) → (told_of view p).zero ≡ true → (q : ℕ) → after_zeroed p (told_of view) q ≡ told_of view q
zeroed_again view p zero q =
    elim (cases_eq p q) [
      | inl same ↦
          let is : (told_of view q).zero ≡ true = ap (λ (n : ℕ). (told_of view n).zero) (sym same) ∙ zero in
          rw (eq-eqb p q same) (ap (λ b. record { zero = b; tried = (told_of view q).tried; newest = (told_of view q).newest }) (sym is))
      | inr other ↦ rw (ne_eqb p q other) refl
    ]

-- a page that is taken already
pub taken_again : (view : PoolView) (p : ℕ) → (told_of view p).zero ≡ false → (q : ℕ) → after_take p (told_of view) q ≡ told_of view q
taken_again view p taken q =
    elim (cases_eq p q) [
      | inl same ↦
          let is : (told_of view q).zero ≡ false = ap (λ (n : ℕ). (told_of view n).zero) (sym same) ∙ taken in
          rw (eq-eqb p q same) (ap (λ b. record { zero = b; tried = (told_of view q).tried; newest = (told_of view q).newest }) (sym is))
      | inr other ↦ rw (ne_eqb p q other) refl
    ]

-- one page is told something
module _ (change : Bool → Told → Told) (stays : (t : Told) → change false t ≡ t) (groups : List Marks) (p : ℕ) (first : 1 ≤ p) (m : Marks) (within : (p - 1) / 64 < length groups)
    (told : (i : ℕ) → i < 64 → told_in m i ≡ change (eqb ((p - 1) % 64) i) (told_in (marks_at groups ((p - 1) / 64)) i)) where
  same_page : (q : ℕ) → 1 ≤ q → (q - 1) / 64 ≡ (p - 1) / 64 → eqb ((p - 1) % 64) ((q - 1) % 64) ≡ eqb p q
  same_page q low same = eqb_bit (p - 1) (q - 1) same ∙ elim (cases_eq p q) [
    | inl is ↦ eq-eqb (p - 1) (q - 1) (ap (λ n. n - 1) is) ∙ sym (eq-eqb p q is)
    | inr other ↦ ne_eqb (p - 1) (q - 1) (λ is. other (omega (arith, is))) ∙ sym (ne_eqb p q other)
  ]

  pub changed_at : (q : ℕ) → 1 ≤ q → told_at (set groups ((p - 1) / 64) m) q ≡ change (eqb p q) (told_at groups q)
  unfolding told_at
  changed_at q low =
      elim (cases_eq ((q - 1) / 64) ((p - 1) / 64)) [
        | inl same ↦
            ap (λ (g : ℕ). told_in (marks_at (set groups ((p - 1) / 64) m) g) ((q - 1) % 64)) same
            ∙ ap (λ (n : Marks). told_in n ((q - 1) % 64)) (get_or-set_same groups ((p - 1) / 64) m _ within)
            ∙ told ((q - 1) % 64) (omega arith)
            ∙ ap₂ (λ b (g : ℕ). change b (told_in (marks_at groups g) ((q - 1) % 64))) (same_page q low same) (sym same)
        | inr apart ↦
            ap (λ (n : Marks). told_in n ((q - 1) % 64)) (get_or-set_other groups ((p - 1) / 64) ((q - 1) / 64) m _ apart)
            ∙ sym (ap (λ b. change b (told_in (marks_at groups ((q - 1) / 64)) ((q - 1) % 64))) (ne_eqb p q (λ is. apart (ap (λ n. (n - 1) / 64) (sym is))))
            ∙ stays (told_in (marks_at groups ((q - 1) / 64)) ((q - 1) % 64)))
      ]

-- a count page is told something
or_false : (b : Bool) → (b || false) ≡ b
or_false true = refl
or_false false = refl

module _ (lay : Layout) (page p : ℕ) (t : Told) where
  tried_here : lay.count_page p ≡ page → told_after Tried t ≡ after_tried lay page (λ _. t) p
  tried_here is = rw (eq-eqb (lay.count_page p) page is) refl

  tried_there : lay.count_page p ≢ page → t ≡ after_tried lay page (λ _. t) p
  tried_there other = rw (ne_eqb (lay.count_page p) page other, or_false t.tried, or_false t.newest) refl

  written_here : lay.count_page p ≡ page → told_after Written t ≡ after_written lay page (λ _. t) p
  written_here is = rw (eq-eqb (lay.count_page p) page is) refl

  written_there : lay.count_page p ≢ page → t ≡ after_written lay page (λ _. t) p
  written_there other = rw (ne_eqb (lay.count_page p) page other) refl

-- what a pool keeps, after its marks were changed, with no more count pages written
pub kept : (shape : ShapeView) (groups later : List Marks) (free free_later written : List ℕ) → IsPool shape groups free written → length later ≡ length groups → IsIndexed later free_later
    → ((p : ℕ) → shape.pages < p → (told_at later p).zero ≡ (told_at groups p).zero)
    → ((p : ℕ) → 1 ≤ p → holds written ((p - 1) / 1024) ≡ false → (told_at later p).tried ≡ (told_at later p).newest)
    → IsPool shape later free_later written
kept shape groups later free free_later written was long indexed zero settled = record {
  few = was.few;
  long = long ∙ was.long;
  indexed = indexed;
  behind = λ p far. zero p far ∙ was.behind p far;
  room = was.room;
  only = was.only;
  settled = settled;
}

-- one data page is counted, and its count becomes 0
abbrev pub taken_told : Bool → Told → Told
taken_told here told = record { zero = not here && told.zero; tried = told.tried; newest = told.newest }

abbrev pub zeroed_told : Bool → Told → Told
zeroed_told here told = record { zero = here || told.zero; tried = told.tried; newest = told.newest }

-- what a call on one data page leaves, which changes no more than its zero
pub record ChangesZero (change : Bool → Told → Told) : Type 0 where
  pub stays : (t : Told) → change false t ≡ t
  pub tried : (b : Bool) (t : Told) → (change b t).tried ≡ t.tried
  pub newest : (b : Bool) (t : Told) → (change b t).newest ≡ t.newest

pub take_changes_zero : ChangesZero taken_told
take_changes_zero = record { stays = λ t. refl; tried = λ b t. refl; newest = λ b t. refl }

pub zeroed_changes_zero : ChangesZero zeroed_told
zeroed_changes_zero = record { stays = λ t. refl; tried = λ b t. refl; newest = λ b t. refl }

pub record ChangesPage (change : Bool → Told → Told) (groups : List Marks) (p : ℕ) (m : Marks) : Type 0 where
  pub told : (i : ℕ) → i < 64 → told_in m i ≡ change (eqb ((p - 1) % 64) i) (told_in (marks_at groups ((p - 1) / 64)) i)

module _ (change : Bool → Told → Told) (zero : ChangesZero change) (shape : ShapeView) (groups : List Marks) (free written : List ℕ) (was : IsPool shape groups free written)
    (p : ℕ) (first : 1 ≤ p) (last : p ≤ shape.pages) (m : Marks) (page : ChangesPage change groups p m) where
  group_within : (p - 1) / 64 < length groups
  group_within = omega (arith, was.long, last, first)

  pub page_told : (q : ℕ) → 1 ≤ q → told_at (set groups ((p - 1) / 64) m) q ≡ change (eqb p q) (told_at groups q)
  page_told = changed_at change zero.stays groups p first m group_within page.told

  pub page_kept : (later : List ℕ) → IsIndexed (set groups ((p - 1) / 64) m) later → IsPool shape (set groups ((p - 1) / 64) m) later written
  page_kept later indexed =
      kept shape groups (set groups ((p - 1) / 64) m) free later written was (length-set groups ((p - 1) / 64) m) indexed
      (λ q far. ap (λ (t : Told). t.zero) (page_told q (omega arith) ∙ ap (λ b. change b (told_at groups q)) (ne_eqb p q (λ is. omega (arith, is, far, last))) ∙ zero.stays (told_at groups q)))
      (λ q low none.
      ap (λ (t : Told). t.tried) (page_told q low) ∙ zero.tried (eqb p q) (told_at groups q) ∙ was.settled q low none
      ∙ sym (ap (λ (t : Told). t.newest) (page_told q low) ∙ zero.newest (eqb p q) (told_at groups q)))

  pub page_is_told : (view : PoolView) → pool_told shape (told_at groups) ≡ view
      → IsTold view.shape (λ q. change (eqb p q) (told_of view q)) (pool_told shape (told_at (set groups ((p - 1) / 64) m)))
  page_is_told view is = retold shape (told_at groups) (told_at (set groups ((p - 1) / 64) m)) view is (λ t q. change (eqb p q) t) (λ q low _. page_told q low)

-- the same of the values in the code, which are equal to these
pub record PageCall (change : Bool → Told → Told) (shape : ShapeView) (view : PoolView) (p : ℕ) (later : List Marks) (free written : List ℕ) : Type 0 where
  pub kept : IsPool shape later free written
  pub is_told : IsTold view.shape (λ q. change (eqb p q) (told_of view q)) (pool_told shape (told_at later))

pub page_call : (change : Bool → Told → Told) → ChangesZero change → (shape : ShapeView) (groups before later : List Marks) (free free_later written : List ℕ) (view : PoolView) (p g bit : ℕ) (old m : Marks)
    → IsPool shape groups free written → pool_told shape (told_at groups) ≡ view → 1 ≤ p → p ≤ view.shape.pages
    → g ≡ (p - 1) / 64 → bit ≡ (p - 1) % 64 → old ≡ get_or groups g old → ((i : ℕ) → i < 64 → told_in m i ≡ change (eqb bit i) (told_in old i))
    → before ≡ groups → later ≡ set before g m → IsIndexed later free_later → PageCall change shape view p later free_later written
page_call change zero shape groups before later free free_later written view p g bit old m was is first last at_group at_bit read told same put indexed =
    let inside : p ≤ shape.pages = omega (arith, last, ap (λ (v : PoolView). v.shape.pages) is) in
    let within : g < length groups = omega (arith, at_group, was.long, inside, first) in
    let there : old ≡ marks_at groups ((p - 1) / 64) = get_or_read groups g old within read _ ∙ ap (marks_at groups) at_group in
    let page : ChangesPage change groups p m = record { told = λ i lt. told i lt ∙ ap₂ (λ (b : ℕ) (n : Marks). change (eqb b i) (told_in n i)) at_bit there } in
    let equal : set groups ((p - 1) / 64) m ≡ later = sym (put ∙ ap₂ (λ (l : List Marks) (k : ℕ). set l k m) same at_group) in
    record {
      kept = subst (λ (l : List Marks). IsPool shape l free_later written) equal
          (page_kept change zero shape groups free written was p first inside m page free_later (subst (λ (l : List Marks). IsIndexed l free_later) (sym equal) indexed));
      is_told = subst (λ (l : List Marks). IsTold view.shape (λ q. change (eqb p q) (told_of view q)) (pool_told shape (told_at l))) equal
          (page_is_told change zero shape groups free written was p first inside m page view is);
    }

-- a step of the page in which data page p is counted, and of another page
pub record StepOf (step : Step) (lay : Layout) (page : ℕ) (after : Told → ℕ → Told) : Type 0 where
  pub here : (p : ℕ) (t : Told) → lay.count_page p ≡ page → told_after step t ≡ after t p
  pub there : (p : ℕ) (t : Told) → lay.count_page p ≢ page → t ≡ after t p

pub tried_step : (lay : Layout) (page : ℕ) → StepOf Tried lay page (λ t p. after_tried lay page (λ _. t) p)
tried_step lay page = record { here = tried_here lay page; there = tried_there lay page }

pub written_step : (lay : Layout) (page : ℕ) → StepOf Written lay page (λ t p. after_written lay page (λ _. t) p)
written_step lay page = record { here = written_here lay page; there = written_there lay page }

-- a layout of the shape that is seen is one of the shape that is kept
pub laid_out : (shape : ShapeView) (old : ℕ → Told) (view : PoolView) (lay : Layout) → pool_told shape old ≡ view → IsLaidOut view.shape lay → IsLaidOut shape lay
laid_out shape old view lay is = subst (λ (s : ShapeView). IsLaidOut s lay) (sym (ap (λ (v : PoolView). v.shape) is))

module _ (step : Step) (shape : ShapeView) (groups : List Marks) (view : PoolView) (is : pool_told shape (told_at groups) ≡ view) (lay : Layout) (laid : IsLaidOut view.shape lay) (page : ℕ)
    (after : Told → ℕ → Told) (of_step : StepOf step lay page after) where
  -- the page is the count page c
  pub counted_step : (before later : List Marks) (c : ℕ) → before ≡ groups → page ≡ first_count_page shape + c → ((p : ℕ) → (p - 1) / 1024 ≡ c → told_at later p ≡ told_after step (told_at before p))
      → ((p : ℕ) → (p - 1) / 1024 ≢ c → told_at later p ≡ told_at before p) → IsTold view.shape (λ p. after (told_of view p) p) (pool_told shape (told_at later))
  counted_step before later c equal place inside outside =
      let at = (laid_out shape (told_at groups) view lay is laid).count_page in
      retold shape (told_at groups) (told_at later) view is after
      (λ p first last. elim (cases_eq ((p - 1) / 1024) c) [
        | inl same ↦ inside p same ∙ ap (λ (l : List Marks). told_after step (told_at l p)) equal ∙ of_step.here p (told_at groups p) (at p ∙ ap (λ n. first_count_page shape + n) same ∙ sym place)
        | inr other ↦ outside p other ∙ ap (λ (l : List Marks). told_at l p) equal ∙ of_step.there p (told_at groups p) (λ e. other (omega (arith, sym (at p) ∙ e ∙ place)))
      ])

  -- the page is no count page
  pub uncounted_step : ((p : ℕ) → 1 ≤ p → p ≤ shape.pages → count_page shape p ≢ page) → IsTold view.shape (λ p. after (told_of view p) p) view
  uncounted_step none =
      let at = (laid_out shape (told_at groups) view lay is laid).count_page in
      subst (λ (v : PoolView). IsTold view.shape (λ p. after (told_of view p) p) v) is
      (retold shape (told_at groups) (told_at groups) view is after (λ p first last. of_step.there p (told_at groups p) (λ e. none p first last (sym (at p) ∙ e))))

-- a count page has some data page
pub some_counted : (shape : ShapeView) (old : ℕ → Told) (view : PoolView) (page c : ℕ) → pool_told shape old ≡ view → c < count_pages shape → page ≡ first_count_page shape + c
    → ((p : ℕ) → 1 ≤ p → p ≤ view.shape.pages → count_page view.shape p ≢ page) → ⊥
some_counted shape old view page c is within place none =
    let same : shape ≡ view.shape = ap (λ (v : PoolView). v.shape) is in
    let counted : (p : ℕ) → 1 ≤ p → p ≤ shape.pages → count_page shape p ≢ page = subst (λ (s : ShapeView). (p : ℕ) → 1 ≤ p → p ≤ s.pages → count_page s p ≢ page) (sym same) none in
    let index : (1024 * c + 1 - 1) / 1024 ≡ c = omega arith in
    counted (1024 * c + 1) (omega arith) (omega (arith, within)) (ap (λ n. first_count_page shape + n) index ∙ sym place)

-- a barrier, where each page whose newest count may differ from what a crash may leave was told
pub fixed_told : (shape : ShapeView) (groups before later : List Marks) (free written : List ℕ) (view : PoolView) → IsPool shape groups free written → pool_told shape (told_at groups) ≡ view → before ≡ groups
    → ((p : ℕ) → holds written ((p - 1) / 1024) ≡ true → told_at later p ≡ told_after Fixed (told_at before p))
    → ((p : ℕ) → holds written ((p - 1) / 1024) ≡ false → told_at later p ≡ told_at before p)
    → IsTold view.shape (λ p. after_fixed (told_of view) p) (pool_told shape (told_at later))
fixed_told shape groups before later free written view was is equal here there =
    retold shape (told_at groups) (told_at later) view is (λ t p. after_fixed (λ _. t) p)
    (λ p first last. elim (cases_Bool (holds written ((p - 1) / 1024))) [
      | inl held ↦ here p held ∙ ap (λ (l : List Marks). told_after Fixed (told_at l p)) equal
      | inr away ↦
          let t = told_at groups p in
          there p away ∙ ap (λ (l : List Marks). told_at l p) equal ∙ ap (λ b. record { zero = t.zero; tried = b; newest = t.newest }) (was.settled p first away)
    ])
