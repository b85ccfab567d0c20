-- What is told of the counts of 64 data pages, as three words.
use Rattle.std.specs.Prelude.{ℕ, false, not, ◌||◌, bit_and}
use Rattle.std.specs.Int.{bit_not, w64}
use Rattle.order_model.specs.Pool.{Told}
use Rattle.page_alloc.specs.Bits.{is_one}
use Rattle.page_alloc.specs.declared.marks.Marks.{Marks}
use Rattle.page_alloc.specs.declared.marks.Step.{Step}
use Rattle.page_alloc.specs.declared.marks.Step.TheVariants.{Tried, Written, Fixed}

-- what is told of one of the pages
abbrev pub told_in : Marks → ℕ → Told
told_in marks i = record { zero = is_one marks.zero i; tried = is_one marks.tried i; newest = is_one marks.newest i }

-- what is told of it after a step of its count page
abbrev pub told_after : Step → Told → Told
told_after Tried told = record { zero = told.zero; tried = told.tried || not told.zero; newest = told.newest || not told.zero }
told_after Written told = record { zero = told.zero; tried = told.tried; newest = not told.zero }
told_after Fixed told = record { zero = told.zero; tried = told.newest; newest = told.newest }

-- what is told of a place behind the last page
abbrev pub no_told : Told
no_told = record { zero = false; tried = false; newest = false }

-- the free pages as a word
abbrev pub free_word : Marks → ℕ
free_word marks = bit_and marks.zero (bit_not w64 marks.tried)
