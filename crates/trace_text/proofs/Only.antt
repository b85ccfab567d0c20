-- The only command of a line, by the byte with which it begins.
use Rattle.std.proofs.Common.{◌≡◌, ℕ, ◌^◌, ◌<◌, List, ◌∷◌, ◌++◌, drop, get_or, codes, decimal, Option, Some, refl, sym, subst, ap, ◌∙◌, append_assoc, length, arith}
use Rattle.page_device.specs.Block.{Block}
use Rattle.trace_text.specs.Fields.{before_rest}
use Rattle.trace_text.specs.Grammar.{Fills, IsCommand}
use Rattle.trace_text.specs.Texts.{line_of}
use Rattle.trace_text.specs.declared.command.Command.{Command}
use Rattle.trace_text.specs.declared.command.Command.TheVariants.{Write, Fill, Read, Discard, Copy, Flush, Scan, Stat, Policy, Tune, Tick}
use Rattle.trace_text.proofs.Filled.{fills_one}
use Rattle.trace_text.proofs.Numbers.{decimal_reads}
use Rattle.trace_text.proofs.Split.{space_of, split_only}

-- the byte with which the lines of a command begin
abbrev kind_of : Command → ℕ
kind_of (Write block number) = 119
kind_of (Fill block page) = 120
kind_of (Read block) = 114
kind_of (Discard block) = 100
kind_of (Copy from to n) = 99
kind_of Flush = 102
kind_of Scan = 115
kind_of Stat = 116
kind_of (Policy label) = 112
kind_of (Tune n) = 110
kind_of Tick = 46

-- the first byte
abbrev first : List ℕ → ℕ
first line = get_or line 0 0

begins_with_kind : (line : List ℕ) (command : Command) → IsCommand line command → first line ≡ kind_of command
unfolding IsCommand line_of
begins_with_kind line (Write block number) h = ap first h.0
begins_with_kind line (Fill block page) h = ap first h.0.line_is
begins_with_kind line (Read block) h = ap first h.0
begins_with_kind line (Discard block) h = ap first h.0
begins_with_kind line (Copy from to n) h = ap first h.0
begins_with_kind line Flush h = ap first h
begins_with_kind line Scan h = ap first h
begins_with_kind line Stat h = ap first h
begins_with_kind line (Policy label) h = ap first h.0
begins_with_kind line (Tune n) h = ap first h.0
begins_with_kind line Tick h = ap first h

-- the only command of a line of a fill
pub fill_only : (text : List ℕ) (answer : Option Command)
    → ((block : ℕ) (digits : List ℕ) (page : Block) → block < 2 ^ 32 → text ≡ before_rest block digits → Fills digits page → answer ≡ Some (Fill block page))
    → (command : Command) → IsCommand (120 ∷ 32 ∷ text) command → answer ≡ Some command
unfolding IsCommand line_of
fill_only text answer own (Fill block page) h = own block h.0.digits page h.1 (ap (drop 2) h.0.line_is) h.0.fills
fill_only text answer own other h =
    let kind : 120 ≡ kind_of other = begins_with_kind (120 ∷ 32 ∷ text) other h in
    absurd (omega arith)

-- a text is that of one number at most
same_number : (n m : ℕ) → n < 2 ^ 64 → m < 2 ^ 64 → decimal n ≡ decimal m → n ≡ m
same_number n m small low e = sym (decimal_reads (decimal n) n small refl).1 ∙ (decimal_reads (decimal n) m low e).1

-- the same for the smaller numbers
same_small : (n m : ℕ) → n < 2 ^ 32 → m < 2 ^ 32 → decimal n ≡ decimal m → n ≡ m
same_small n m small low e = same_number n m (omega arith) (omega arith) e

-- a number and a space before a rest are one text of each
same_parts : (a b : ℕ) (rest tail : List ℕ) → a < 2 ^ 32 → b < 2 ^ 32 → before_rest a rest ≡ before_rest b tail
    → (a ≡ b) × (rest ≡ tail)
same_parts a b rest tail small low e =
    let found = sym (space_of (before_rest a rest) a rest small refl) in
    let one = split_only (before_rest a rest) (length (decimal a)) a rest found small refl in
    let other = split_only (before_rest a rest) (length (decimal a)) b tail found low e in
    (same_small a b small low (sym one.0 ∙ other.0), sym one.1 ∙ other.1)

-- the fields of a copy, each before the rest
copy_fields : (from to n : ℕ) → drop 2 (line_of (Copy from to n)) ≡ before_rest from (before_rest to (decimal n))
unfolding line_of
copy_fields from to n =
    ap (λ (l : List ℕ). l ++ decimal n) (append_assoc (decimal from ++ codes " ") (decimal to) (codes " "))
    ∙ append_assoc (decimal from ++ codes " ") (decimal to ++ codes " ") (decimal n)

-- a line is one command at most
pub one_command : (line : List ℕ) (c d : Command) → IsCommand line c → IsCommand line d → c ≡ d
unfolding IsCommand line_of
one_command line (Write block number) (Write to n) h g =
    let parts = same_parts block to (decimal number) (decimal n) h.1 g.1 (ap (drop 2) (sym h.0 ∙ g.0)) in
    let block_is = parts.0 in
    let number_is = same_number number n h.2 g.2 parts.1 in
    cc
one_command line (Fill block page) (Fill to other) h g =
    let parts = same_parts block to h.0.digits g.0.digits h.1 g.1 (ap (drop 2) (sym h.0.line_is ∙ g.0.line_is)) in
    let block_is = parts.0 in
    let page_is = fills_one g.0.digits page other (subst (λ (digits : List ℕ). Fills digits page) parts.1 h.0.fills) g.0.fills in
    cc
one_command line (Read block) (Read other) h g = ap Read (same_small block other h.1 g.1 (ap (drop 2) (sym h.0 ∙ g.0)))
one_command line (Discard block) (Discard other) h g = ap Discard (same_small block other h.1 g.1 (ap (drop 2) (sym h.0 ∙ g.0)))
one_command line (Copy from to n) (Copy start end m) h g =
    let whole = sym (copy_fields from to n) ∙ ap (drop 2) (sym h.0 ∙ g.0) ∙ copy_fields start end m in
    let parts = same_parts from start (before_rest to (decimal n)) (before_rest end (decimal m)) h.1 g.1 whole in
    let more = same_parts to end (decimal n) (decimal m) h.2 g.2 parts.1 in
    let from_is = parts.0 in
    let to_is = more.0 in
    let n_is = same_small n m h.4 g.4 more.1 in
    cc
one_command line Flush Flush h g = refl
one_command line Scan Scan h g = refl
one_command line Stat Stat h g = refl
one_command line (Policy label) (Policy other) h g = ap Policy (same_small label other h.1 g.1 (ap (drop 2) (sym h.0 ∙ g.0)))
one_command line (Tune n) (Tune m) h g = ap Tune (same_small n m h.1 g.1 (ap (drop 2) (sym h.0 ∙ g.0)))
one_command line Tick Tick h g = refl
one_command line c d h g =
    let kinds : kind_of c ≡ kind_of d = sym (begins_with_kind line c h) ∙ begins_with_kind line d g in
    absurd (omega arith)
