-- The commands of a load.
use Rattle.std.specs.Prelude.{ℕ, ◌+◌, ◌*◌, ◌/◌, ◌%◌, ◌^◌, ◌<◌, nat_le, if◌then◌else◌}
use Rattle.trace_text.specs.declared.command.Command.{Command}
use Rattle.trace_text.specs.declared.command.Command.TheVariants.{Write, Fill, Read, Discard, Copy, Flush, Scan, Stat, Policy, Tune, Tick}

-- the number of place i, below 2 ^ 32
abbrev pub mixed : ℕ → ℕ → ℕ
mixed seed i = (seed + i) * 2654435761 % 2 ^ 32

-- of the kinds 0 to 15 the first nine are writes, two are discards, four are reads, and the last is a flush
abbrev pub command_of : ℕ → ℕ → ℕ → Command
command_of kind block number =
    if nat_le kind 8 then Write block number
    else if nat_le kind 10 then Discard block
    else if nat_le kind 14 then Read block
    else Flush

-- the command of place i: the kind is in the highest four bits of its number, the block in those above the
-- lowest eight, and the number that is written in the eight above the lowest sixteen
abbrev pub generated : ℕ → ℕ → ℕ → Command
generated seed i blocks = command_of (mixed seed i / 2 ^ 28) (mixed seed i / 2 ^ 8 % blocks) (mixed seed i / 2 ^ 16 % 256)

-- a write of a number below 256, a discard or a read of a block in range, or a flush
abbrev pub IsGenerated : ℕ → Command → Type 0
IsGenerated blocks (Write block number) = (block < blocks) × (number < 256)
IsGenerated blocks (Fill block page) = ⊥
IsGenerated blocks (Read block) = block < blocks
IsGenerated blocks (Discard block) = block < blocks
IsGenerated blocks (Copy from to n) = ⊥
IsGenerated blocks Flush = Unit {0}
IsGenerated blocks Scan = ⊥
IsGenerated blocks Stat = ⊥
IsGenerated blocks (Policy label) = ⊥
IsGenerated blocks (Tune n) = ⊥
IsGenerated blocks Tick = ⊥
