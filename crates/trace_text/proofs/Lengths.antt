-- No command has a line of more than 8205 bytes.
use Rattle.std.proofs.Common.{◌≡◌, ℕ, ◌+◌, ◌^◌, ◌<◌, ◌≤◌, List, [], ◌∷◌, ◌++◌, length, decimal, ap, arith, length-append}
use Rattle.std.proofs.lemmas.Fmt.{length-decimal-le}
use Rattle.hex.proofs.HexLemmas.{decode_of-ok}
use Rattle.page_device.specs.Block.{Block}
use Rattle.trace_text.specs.Grammar.{Fills, IsBadLine, IsCommand}
use Rattle.trace_text.specs.Texts.{line_of, two}
use Rattle.trace_text.specs.declared.command.Command.{Command}
use Rattle.trace_text.specs.declared.command.Command.TheVariants.{Write, Fill, Read, Discard, Copy, Flush, Scan, Stat, Policy, Tune, Tick}

-- the digits of a number
small : (n : ℕ) → n < 2 ^ 32 → length (decimal n) ≤ 10
small n low = length-decimal-le 10 n (omega arith) (omega arith) (omega arith)

large : (n : ℕ) → n < 2 ^ 64 → length (decimal n) ≤ 20
large n low = length-decimal-le 20 n (omega arith) (omega arith) low

-- two texts after a byte and a space
pair_length : (line a b : List ℕ) (kind : ℕ) → line ≡ kind ∷ 32 ∷ (a ++ 32 ∷ [] ++ b) → length line ≡ 3 + length a + length b
pair_length line a b kind e =
    let whole = ap length e in
    let outer = length-append (a ++ 32 ∷ []) b in
    let inner = length-append a (32 ∷ []) in
    omega arith

-- a number after a byte and a space
one_short : (line : List ℕ) (kind n : ℕ) → line ≡ kind ∷ 32 ∷ decimal n → n < 2 ^ 32 → length line ≤ 8205
one_short line kind n e low =
    let whole = ap length e in
    let digits = small n low in
    omega arith

-- digits that fill a page
fills_short : (digits : List ℕ) (page : Block) → Fills digits page → length digits ≤ 8192
fills_short digits page fills =
    let read = decode_of-ok digits fills.bytes fills.decodes in
    let twice = read.2 in
    let few = fills.few in
    omega arith

pub line_short : (line : List ℕ) (command : Command) → IsCommand line command → length line ≤ 8205
unfolding IsCommand line_of
line_short line (Write block number) h =
    let whole = pair_length line (decimal block) (decimal number) 119 h.0 in
    let first = small block h.1 in
    let second = large number h.2 in
    omega arith
line_short line (Fill block page) h =
    let whole = pair_length line (decimal block) h.0.digits 120 h.0.line_is in
    let first = small block h.1 in
    let digits = fills_short h.0.digits page h.0.fills in
    omega arith
line_short line (Read block) h = one_short line 114 block h.0 h.1
line_short line (Discard block) h = one_short line 100 block h.0 h.1
line_short line (Copy from to n) h =
    let whole = pair_length line (two from to) (decimal n) 99 h.0 in
    let outer = length-append (decimal from ++ 32 ∷ []) (decimal to) in
    let inner = length-append (decimal from) (32 ∷ []) in
    let first = small from h.1 in
    let second = small to h.2 in
    let third = small n h.4 in
    omega arith
line_short line Flush h = let whole = ap length h in omega arith
line_short line Scan h = let whole = ap length h in omega arith
line_short line Stat h = let whole = ap length h in omega arith
line_short line (Policy label) h = one_short line 112 label h.0 h.1
line_short line (Tune n) h = one_short line 110 n h.0 h.1
line_short line Tick h = let whole = ap length h in omega arith

-- a longer line is bad
pub long_line_is_bad : (line : List ℕ) → 8205 < length line → IsBadLine line
long_line_is_bad line long command is =
    let short = line_short line command is in
    absurd (omega arith)
