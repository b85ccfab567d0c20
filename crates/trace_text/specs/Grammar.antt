-- Which lines are commands, by cases on the command and apart from any parser.
use Rattle.std.specs.Prelude.{◌≡◌, ℕ, ◌-◌, ◌^◌, ◌<◌, ◌≤◌, List, ◌++◌, length, replicate, codes, decimal, Ok}
use Rattle.hex.specs.Hex.{decode_of}
use Rattle.page_device.specs.Block.{Block}
use Rattle.trace_text.specs.declared.command.Command.{Command}
use Rattle.trace_text.specs.declared.command.Command.TheVariants.{Write, Fill, Read, Discard, Copy, Flush, Scan, Stat, Policy, Tune, Tick}
use Rattle.trace_text.specs.Texts.{line_of}

-- hexadecimal digits, of both cases, of 1 to 4096 bytes, that fill the front of a page of zeros
pub record Fills (digits : List ℕ) (page : Block) : Type 0 where
  pub bytes : List ℕ
  pub decodes : decode_of digits ≡ Ok bytes
  pub some : 1 ≤ length bytes
  pub few : length bytes ≤ 4096
  pub page_is : page ≡ bytes ++ replicate (4096 - length bytes) 0

-- the line of a fill
pub record IsFillLine (line : List ℕ) (block : ℕ) (page : Block) : Type 0 where
  pub digits : List ℕ
  pub line_is : line ≡ codes "x " ++ decimal block ++ codes " " ++ digits
  pub fills : Fills digits page

-- The line, without its end, is this command. A number is its decimal digits with no sign and no leading
-- zero; blocks, labels and numbers of `n` are below 2 ^ 32, numbers of `w` below 2 ^ 64, lengths from 1 on.
unfoldable pub IsCommand : List ℕ → Command → Type 0
IsCommand line (Write block number) = (line ≡ line_of (Write block number)) × (block < 2 ^ 32) × (number < 2 ^ 64)
IsCommand line (Fill block page) = IsFillLine line block page × (block < 2 ^ 32)
IsCommand line (Read block) = (line ≡ line_of (Read block)) × (block < 2 ^ 32)
IsCommand line (Discard block) = (line ≡ line_of (Discard block)) × (block < 2 ^ 32)
IsCommand line (Copy from to n) = (line ≡ line_of (Copy from to n)) × (from < 2 ^ 32) × (to < 2 ^ 32) × (1 ≤ n) × (n < 2 ^ 32)
IsCommand line Flush = line ≡ line_of Flush
IsCommand line Scan = line ≡ line_of Scan
IsCommand line Stat = line ≡ line_of Stat
IsCommand line (Policy label) = (line ≡ line_of (Policy label)) × (label < 2 ^ 32)
IsCommand line (Tune n) = (line ≡ line_of (Tune n)) × (n < 2 ^ 32)
IsCommand line Tick = line ≡ line_of Tick

-- no command has this line
abbrev pub IsBadLine : List ℕ → Type 0
IsBadLine line = (command : Command) → ¬ IsCommand line command

-- the command has a line: only a copy of no block has none
abbrev pub HasLine : Command → Type 0
HasLine (Write block number) = Unit {0}
HasLine (Fill block page) = Unit {0}
HasLine (Read block) = Unit {0}
HasLine (Discard block) = Unit {0}
HasLine (Copy from to n) = 1 ≤ n
HasLine Flush = Unit {0}
HasLine Scan = Unit {0}
HasLine Stat = Unit {0}
HasLine (Policy label) = Unit {0}
HasLine (Tune n) = Unit {0}
HasLine Tick = Unit {0}
