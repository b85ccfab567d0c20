-- Contents of a page.
use Rattle.std.specs.Prelude.{ℕ, ◌==◌, Bool, List, ◌++◌, replicate}
use Rattle.std.specs.List.{list_all}
use Rattle.std.specs.Int.{w64, to_be_bytes}

-- a block is the list of its bytes, 4096 of them
abbrev pub Block : Type 0
Block = List ℕ

-- 4096 zeros
abbrev pub zero_block : Block
zero_block = replicate 4096 0

-- each byte is zero
abbrev pub is_zeros : Block → Bool
is_zeros content = list_all (λ byte. byte == 0) content

-- the eight bytes of a number below 2 ^ 64, highest first, and then zeros
abbrev pub numbered_block : ℕ → Block
numbered_block n = to_be_bytes w64 n ++ replicate 4088 0
