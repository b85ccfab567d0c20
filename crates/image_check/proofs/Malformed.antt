-- The first malformed entry of an image, and an image without one.
use Rattle.std.proofs.Common.{◌≡◌, ⊎_elim, ℕ, suc, ◌<◌, List, Some, None, Option, IsSome, refl, sym, subst, arith}
use Rattle.std.proofs.lemmas.Bool.{cases_lt}
use Rattle.page_device.specs.Block.{Block}
use Rattle.page_layout.specs.declared.shape.Table.{Table}
use Rattle.page_layout.specs.Shape.{ShapeView, first_data_page}
use Rattle.page_layout.specs.Tables.{page_of, shape_of, HasShape, IsWellFormed}
use Rattle.page_layout.specs.Entries.{table_at, entries_of, IsEntry, IsFirstFault}
use Rattle.image_reader.specs.Formed.{IsFormed}
use Rattle.image_reader.proofs.WellFormed.{formed}
use Rattle.image_check.specs.Verdicts.{IsFirstMalformed}
use Rattle.image_check.specs.Steps.{FormedBelow, IsFormedPage}

-- a page that serves a table serves one
table_of : (o : Option Table) → IsSome o → (P : Type 0) → ((t : Table) → o ≡ Some t → P) → P
table_of None some P h = absurd (cc some)
table_of (Some t) some P h = h t refl

-- so does one of which the table is known
pub serves : (o : Option Table) (t : Table) → o ≡ Some t → IsSome o
serves o t is = subst IsSome (sym is) refl

module _ (shape : ShapeView) (image : List Block) (k : ℕ) where
  -- the first malformed entry of the page behind well-formed ones
  pub damaged_here : (e : ℕ) → HasShape image → shape_of image ≡ shape → FormedBelow k shape image → IsSome (table_at shape k) → ((t : Table) → table_at shape k ≡ Some t → IsFirstFault (IsEntry t shape k (page_of image k)) (entries_of t) (Some e)) → HasShape image × IsFirstMalformed image (record { page = k; entry = e })
  damaged_here e has told below some first = (
    has,
    record {
      fault = λ good. table_of (table_at shape k) some ⊥ (λ t is. (first t is).1 (subst (λ (s : ShapeView). IsFormed s image k e) told good t is (first t is).0));
      first = λ q i order. subst (λ (s : ShapeView). IsFormed s image q i) (sym told) (⊎_elim
          (λ lt. below q i lt)
          (λ same. subst (λ (n : ℕ). IsFormed shape image n i) (sym same.0) (λ t is within. (first t is).2 i same.1))
          order);
    },
  )

  -- one well-formed page more
  pub formed_more : (page : Block) → page_of image k ≡ page → IsFormedPage shape k page → FormedBelow k shape image → FormedBelow (suc k) shape image
  formed_more page read good below = λ q i lt. ⊎_elim
      (λ less. below q i less)
      (λ le. let same : k ≡ q = omega (arith, lt, le) in
      subst (λ (n : ℕ). IsFormed shape image n i) same (λ t is within. subst (λ (b : Block). IsEntry t shape k b i) (sym read) (good t is i within)))
      (cases_lt q k)

-- the tables are well formed where each entry is
pub well_formed : (shape : ShapeView) (image : List Block) → shape_of image ≡ shape → FormedBelow (first_data_page shape) shape image → IsWellFormed image
well_formed shape image told below = formed image (λ k i lt. by k i (subst (λ (s : ShapeView). k < first_data_page s) told lt))
  where
    by : (k i : ℕ) → k < first_data_page shape → IsFormed (shape_of image) image k i
    by k i lt = subst (λ (s : ShapeView). IsFormed s image k i) (sym told) (below k i lt)

-- page 0 serves no table
pub formed_super : (shape : ShapeView) (image : List Block) → FormedBelow 1 shape image
formed_super shape image q i lt t is within = absurd (by q (omega (arith, lt)) is)
  where
    by : (n : ℕ) → n ≡ 0 → table_at shape n ≡ Some t → ⊥
    by n none one = absurd (cc (subst (λ (m : ℕ). table_at shape m ≡ Some t) none one))
