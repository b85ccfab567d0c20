-- What a crash leaves, and when it is fit to be mounted.
use Rattle.std.specs.Prelude.{Bool, List, None, Some, cond, eqb, true, ℕ, ◌<◌, ◌≡◌, ◌≢◌, ◌≤◌, ◌⊎◌}
use Rattle.order_model.specs.Contents.{IsAmong}
use Rattle.order_model.specs.World.{Layout, Possible, World, IsData}
use Rattle.order_model.specs.Counting.{count_below}
use Rattle.engine_model.specs.Entries.{IsTable}

-- a crash may leave this content at each page
abbrev pub CrashImage : World → (ℕ → List ℕ) → Type 0
CrashImage w image = (page : ℕ) → Possible w page (image page)

-- no count is below the names, and a print stands only on a count of at least 1
pub record CountsFit (lay : Layout) (image : ℕ → List ℕ) : Type 0 where
  pub names : (p : ℕ) → IsData lay p
      → count_below (λ l. eqb (lay.name_in (image (lay.map_page l)) l) p) lay.blocks ≤ lay.count_in (image (lay.count_page p)) p
  pub prints : (p : ℕ) (print : List ℕ) → IsData lay p
      → lay.print_in (image (lay.print_page p)) p ≡ Some print → 0 < lay.count_in (image (lay.count_page p)) p

-- each block reads a content of its list
pub record ReadsAllowed (lay : Layout) (image : ℕ → List ℕ) (array : ℕ → List (List ℕ)) (l : ℕ) : Type 0 where
  pub unmapped : lay.name_in (image (lay.map_page l)) l ≡ 0 → IsAmong lay.zero_block (array l)
  pub mapped : (p : ℕ) → IsData lay p → lay.name_in (image (lay.map_page l)) l ≡ p → IsAmong (image (lay.data_page p)) (array l)

pub record ContentsFit (lay : Layout) (sound : Bool) (image : ℕ → List ℕ) (array : ℕ → List (List ℕ)) : Type 0 where
  pub reads : (l : ℕ) → l < lay.blocks → ReadsAllowed lay image array l
  pub prints : sound ≡ true → (p : ℕ) (print : List ℕ) → IsData lay p
      → lay.print_in (image (lay.print_page p)) p ≡ Some print → print ≡ lay.finger (image (lay.data_page p))
  pub well_formed : (page : ℕ) → IsTable lay page → lay.well_formed page (image page) ≡ true

-- what the image reads at a block
abbrev pub block_in : Layout → (ℕ → List ℕ) → ℕ → List ℕ
block_in lay image l = cond (eqb (lay.name_in (image (lay.map_page l)) l) 0) lay.zero_block (image (lay.data_page (lay.name_in (image (lay.map_page l)) l)))

-- what a well-formed table page holds: names of data pages or 0, and counts up to the limit
pub record Format (lay : Layout) (top : ℕ) : Type 0 where
  pub names : (l : ℕ) (c : List ℕ) → l < lay.blocks → lay.well_formed (lay.map_page l) c ≡ true
      → (lay.name_in c l ≡ 0) ⊎ IsData lay (lay.name_in c l)
  pub counts : (p : ℕ) (c : List ℕ) → IsData lay p → lay.well_formed (lay.count_page p) c ≡ true → lay.count_in c p ≤ top

-- no count of the image is above the limit
abbrev pub CountsBelow : Layout → ℕ → (ℕ → List ℕ) → Type 0
CountsBelow lay top image = (p : ℕ) → IsData lay p → lay.count_in (image (lay.count_page p)) p ≤ top

-- each count is its names, and exactly the named pages have a print
pub record CountsExact (lay : Layout) (image : ℕ → List ℕ) : Type 0 where
  pub counts : (p : ℕ) → IsData lay p
      → lay.count_in (image (lay.count_page p)) p ≡ count_below (λ l. eqb (lay.name_in (image (lay.map_page l)) l) p) lay.blocks
  pub named : (p : ℕ) → IsData lay p → 0 < lay.count_in (image (lay.count_page p)) p
      → (print : List ℕ) × (lay.print_in (image (lay.print_page p)) p ≡ Some print)
  pub unnamed : (p : ℕ) → IsData lay p → lay.count_in (image (lay.count_page p)) p ≡ 0
      → lay.print_in (image (lay.print_page p)) p ≡ None

-- exact, no two named pages have the same content, and in version 2 none has a block of zeros
pub record ImageTight (lay : Layout) (version : ℕ) (image : ℕ → List ℕ) : Type 0 where
  pub exact : CountsExact lay image
  pub distinct : (p q : ℕ) → IsData lay p → IsData lay q → p ≢ q → 0 < lay.count_in (image (lay.count_page p)) p
      → 0 < lay.count_in (image (lay.count_page q)) q → image (lay.data_page p) ≢ image (lay.data_page q)
  pub no_zeros : version ≡ 2 → (p : ℕ) → IsData lay p → 0 < lay.count_in (image (lay.count_page p)) p → image (lay.data_page p) ≢ lay.zero_block
