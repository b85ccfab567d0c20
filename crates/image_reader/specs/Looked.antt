-- A device that was only looked at, and what it holds.
use Rattle.std.specs.Prelude.{◌≡◌, ℕ, ◌+◌, ◌<◌, ◌^◌, true, List}
use Rattle.std.proofs.Common.{arith, ◌∙◌}
use Rattle.page_device.specs.Block.{Block}
use Rattle.page_device.specs.Disk.{newest}
use Rattle.page_device.specs.Counts.{raised}
use Rattle.page_device.specs.Meaning.{Meaning, SameKind}
use Rattle.page_layout.specs.Shape.{ShapeView, IsSuperblock}
use Rattle.page_layout.specs.Tables.{page_of, shape_of}

-- the device was only looked at
pub record Looked (old new : Meaning) : Type 0 where
  pub state : old.tells_pages ≡ true → new.state ≡ old.state
  pub pages : old.tells_pages ≡ true → new.pages ≡ old.pages
  pub log : old.tells_log ≡ true → new.log ≡ old.log
  pub calls : new.calls ≡ old.calls
  pub kind : SameKind old new

-- so many reads were made, where they are told
pub record Reads (made : ℕ) (old new : Meaning) : Type 0 where
  pub counted : old.tells_reads ≡ true → old.reads < 2 ^ 64 → new.reads ≡ raised old.reads made

-- no read
pub reads_none : (d : Meaning) → Reads 0 d d
reads_none d = record { counted = λ _ few. omega (arith, few) }

-- some reads, and then others
pub reads_then : (made more all : ℕ) (a b c : Meaning) → all ≡ made + more → SameKind a b → Reads made a b → Reads more b c → Reads all a c
reads_then made more all a b c sum kind h k = record {
  counted = λ t few. let first : b.reads ≡ raised a.reads made = h.counted t few in
      let next : c.reads ≡ raised b.reads more = k.counted (kind.tells_reads ∙ t) (omega (arith, first)) in
      omega (arith, sum, first, next);
}

-- the image that a device holds, where it is honest and tells its pages
abbrev pub Holds : (List Block → Type 0) → Meaning → Type 0
Holds says d = d.honest ≡ true → d.tells_pages ≡ true → says (newest d.state)

-- page 0 is a superblock, and tells this shape
pub record TellsShape (shape : ShapeView) (image : List Block) : Type 0 where
  pub superblock : IsSuperblock (page_of image 0)
  pub is : shape_of image ≡ shape
