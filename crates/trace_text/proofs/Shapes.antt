-- What the lines of all commands have in common.
use Rattle.std.proofs.Common.{◌≡◌, ℕ, ◌≤◌, ◌⊎◌, inl, inr, List, [], ◌∷◌, length, get_or, refl, ap, arith}
use Rattle.trace_text.specs.Grammar.{HasLine, IsCommand}
use Rattle.trace_text.specs.Texts.{line_of}
use Rattle.trace_text.specs.declared.command.Command.{Command}
use Rattle.trace_text.specs.declared.command.Command.TheVariants.{Write, Fill, Read, Discard, Copy, Flush, Scan, Stat, Policy, Tune, Tick}

-- one byte, or a byte and a space before more
abbrev pub HasKind : List ℕ → Type 0
HasKind line = (length line ≡ 1) ⊎ ((2 ≤ length line) × (get_or line 1 0 ≡ 32))

-- a line of one byte
one_byte : (line : List ℕ) (kind : ℕ) → line ≡ kind ∷ [] → HasKind line
one_byte line kind e = inl (ap length e)

-- a line of a byte, a space and more
with_fields : (line : List ℕ) (kind : ℕ) (text : List ℕ) → line ≡ kind ∷ 32 ∷ text → HasKind line
with_fields line kind text e = rw e (inr (omega arith, refl))

pub has_kind : (line : List ℕ) (command : Command) → IsCommand line command → HasKind line
unfolding IsCommand line_of
has_kind line (Write block number) h = with_fields line _ _ h.0
has_kind line (Fill block page) h = with_fields line _ _ h.0.line_is
has_kind line (Read block) h = with_fields line _ _ h.0
has_kind line (Discard block) h = with_fields line _ _ h.0
has_kind line (Copy from to n) h = with_fields line _ _ h.0
has_kind line Flush h = one_byte line _ h
has_kind line Scan h = one_byte line _ h
has_kind line Stat h = one_byte line _ h
has_kind line (Policy label) h = with_fields line _ _ h.0
has_kind line (Tune n) h = with_fields line _ _ h.0
has_kind line Tick h = one_byte line _ h

-- a command with a line can be printed
pub has_line : (line : List ℕ) (command : Command) → IsCommand line command → HasLine command
unfolding IsCommand line_of
has_line line (Copy from to n) h = h.3
has_line line (Write block number) h = tt
has_line line (Fill block page) h = tt
has_line line (Read block) h = tt
has_line line (Discard block) h = tt
has_line line Flush h = tt
has_line line Scan h = tt
has_line line Stat h = tt
has_line line (Policy label) h = tt
has_line line (Tune n) h = tt
has_line line Tick h = tt
