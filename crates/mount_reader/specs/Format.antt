-- What formatting leaves.
use Rattle.std.specs.Prelude.{◌≡◌, ◌⊎◌, ℕ, zero, suc, ◌-◌, ◌<◌, ◌≤◌, true, List, [], ◌∷◌, ◌++◌, length, replicate, slice_get, Some, Result, Ok}
use Rattle.page_device.specs.Block.{Block, zero_block}
use Rattle.page_device.specs.declared.error.Failed.{Failed}
use Rattle.page_device.specs.Disk.{DeviceState, IsImage, MayHold, newest, at_rest, with_room}
use Rattle.page_device.specs.Possible.{Only}
use Rattle.page_device.specs.declared.device.End.TheVariants.{Done}
use Rattle.page_device.specs.declared.device.LogEntry.{LogEntry}
use Rattle.page_device.specs.declared.device.LogEntry.TheVariants.{Write, Flush}
use Rattle.page_device.specs.Gains.{Gains}
use Rattle.page_device.specs.Meaning.{Meaning, SameKind}
use Rattle.page_device.specs.Moments.{EachImage, Leaves}
use Rattle.page_layout.specs.Shape.{ShapeView, total, first_data_page, told_shape, IsSuperblock}
use Rattle.page_layout.specs.Tables.{page_of, shape_of, map_of, count_of, IsFresh}
use Rattle.array_model.specs.Counting.{live_of}
use Rattle.array_model.specs.Images.{IsTight, block_of, waste_of}

-- a freshly formatted image of this shape: it is tight, no block is mapped, each reads zeros, no data page is counted, so
-- none is live, and nothing is wasted
pub record IsNew (shape : ShapeView) (image : List Block) : Type 0 where
  pub fresh : IsFresh image
  pub is : shape_of image ≡ shape
  pub tight : IsTight image
  pub unmapped : (block : ℕ) → block < shape.blocks → map_of image block ≡ 0
  pub zeros : (block : ℕ) → block < shape.blocks → block_of image block ≡ zero_block
  pub uncounted : (p : ℕ) → 1 ≤ p → p ≤ shape.pages → count_of image p ≡ 0
  pub live : live_of (count_of image) shape.pages ≡ 0
  pub waste : waste_of image ≡ 0

-- no image of any shape: page 0 is zeros
abbrev pub IsUnformatted : List Block → Type 0
IsUnformatted image = page_of image 0 ≡ zero_block

-- each page of the image from this one on is one that the device might hold
pub record IsOldFrom (page : ℕ) (before : DeviceState) (image : List Block) : Type 0 where
  pub pages : length image ≡ length before.fixed
  pub each : (k : ℕ) (block : Block) → page ≤ k → slice_get image k ≡ Some block → MayHold before k block

-- what a crash within formatting leaves: an image of what was there, page 0 of zeros, or the new image; in each of them the data
-- pages are old ones
pub record MayBePartway (shape : ShapeView) (before : DeviceState) (image : List Block) : Type 0 where
  pub is : IsImage before image ⊎ IsUnformatted image ⊎ IsNew shape image
  pub data_kept : IsOldFrom (first_data_page shape) before image

-- the new image over data pages that are old ones
pub record IsLaidOut (shape : ShapeView) (before : DeviceState) (image : List Block) : Type 0 where
  pub is_new : IsNew shape image
  pub data_kept : IsOldFrom (first_data_page shape) before image

-- after it there is the new image alone, and nothing is pending
pub record HoldsNew (shape : ShapeView) (before after : DeviceState) : Type 0 where
  pub images : EachImage (IsLaidOut shape before) after
  pub rest : after ≡ at_rest after.fixed

-- over whatever device: these calls were made, and no others, and nothing was read
pub record OnlyCalls (calls : List LogEntry) (old new : Meaning) : Type 0 where
  pub gains : Gains calls old new
  pub reads : old.tells_reads ≡ true → new.reads ≡ old.reads
  pub pages : new.pages ≡ old.pages

-- zeros written to each page from 1 on and before this one, in rising order
unfoldable pub zeros_before : ℕ → List LogEntry
zeros_before zero = []
zeros_before (suc zero) = []
zeros_before (suc (suc n)) = zeros_before (suc n) ++ Write (suc n) zero_block Done ∷ []

-- a page written, and a barrier
abbrev pub put_calls : ℕ → Block → List LogEntry
put_calls page block = Write page block Done ∷ Flush Done ∷ []

-- The calls of a formatting that is done: zeros to page 0 and a barrier, zeros to each other table page and a barrier, and this
-- superblock and a barrier.
abbrev pub format_calls : ShapeView → Block → List LogEntry
format_calls shape superblock = ((put_calls 0 zero_block ++ zeros_before (first_data_page shape)) ++ Flush Done ∷ []) ++ put_calls 0 superblock

-- these are the calls of such a formatting
pub record AreFormat (shape : ShapeView) (calls : List LogEntry) : Type 0 where
  pub superblock : Block
  pub is : IsSuperblock superblock
  pub tells : told_shape superblock ≡ shape
  pub calls_are : calls ≡ format_calls shape superblock

-- some calls were made, and no others; and all of those where it is done
pub record MakesCalls (Are : List LogEntry → Type 0) (result : Result Unit Failed) (old new : Meaning) : Type 0 where
  pub calls : List LogEntry
  pub only : OnlyCalls calls old new
  pub done : result ≡ Ok tt → Are calls

-- the pages of a device are written
pub record LaysOut (shape : ShapeView) (result : Result Unit Failed) (old new : Meaning) : Type 0 where
  pub leaves : Leaves old new (MayBePartway shape old.state)
  pub done : result ≡ Ok tt → HoldsNew shape old.state new.state

-- what may be held from this page on might be held before
pub record KeepsFrom (page : ℕ) (before after : DeviceState) : Type 0 where
  pub pages : length after.fixed ≡ length before.fixed
  pub each : (k : ℕ) (block : Block) → page ≤ k → MayHold after k block → MayHold before k block

-- page 0 is zeros, and the data pages are old ones
pub record IsCleared (shape : ShapeView) (before : DeviceState) (image : List Block) : Type 0 where
  pub unformatted : IsUnformatted image
  pub data_kept : IsOldFrom (first_data_page shape) before image

-- the table pages are cleared on a device that holds no image
pub record Clears (shape : ShapeView) (result : Result Unit Failed) (old new : Meaning) : Type 0 where
  pub leaves : Leaves old new (IsCleared shape old.state)
  pub kept : KeepsFrom (first_data_page shape) old.state new.state
  pub superblock : Only new.state 0 zero_block
  pub tables : result ≡ Ok tt → (k : ℕ) → 1 ≤ k → k < first_data_page shape → page_of (newest new.state) k ≡ zero_block

-- the device once it has so many pages: those that came are zeros, and are fixed
abbrev pub with_pages : Meaning → ℕ → Meaning
with_pages old pages = record old { pages = pages; state = with_room old.state (replicate (pages - old.pages) zero_block) }

-- what formatting does: room is made where there are too few pages, and then the pages of the image are written
pub record Formats (shape : ShapeView) (old new : Meaning) : Type 0 where
  pub enough : total shape ≤ new.pages
  pub never_fewer : old.pages ≤ new.pages
  pub already : old.tells_pages ≡ true → total shape ≤ old.pages → new.pages ≡ old.pages
  pub reads : old.tells_reads ≡ true → new.reads ≡ old.reads
  pub kind : SameKind old new
  pub made : (calls : List LogEntry) × Gains calls (with_pages old new.pages) new
  pub leaves : old.honest ≡ true → old.tells_pages ≡ true → Leaves (with_pages old new.pages) new (MayBePartway shape (with_pages old new.pages).state)

-- A device was formatted. Over whatever device, one that tells nothing too: room was made, and then exactly the calls of a formatting.
pub record IsFormatted (shape : ShapeView) (old new : Meaning) : Type 0 where
  pub formats : Formats shape old new
  pub calls : List LogEntry
  pub are : AreFormat shape calls
  pub gains : Gains calls (with_pages old new.pages) new
  pub holds : old.honest ≡ true → old.tells_pages ≡ true → HoldsNew shape (with_pages old new.pages).state new.state
