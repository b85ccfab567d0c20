-- Turns, their texts and their lines, one after another.
use Rattle.std.proofs.Common.{◌≡◌, ℕ, ◌==◌, if◌then◌else◌, Bool, true, false, arith, List, [], ◌∷◌, ◌++◌, Option, refl, sym, ◌∙◌, ap, append_assoc}
use Rattle.std.proofs.lemmas.List.{append-nil}
use Rattle.std.proofs.lemmas.Bool.Decides.{nat_tests}
use Rattle.page_device.specs.declared.device.LogEntry.{LogEntry}
use Rattle.page_device.specs.Block.{Block}
use Rattle.page_device.specs.Runs.{all_calls}
use Rattle.trace_text.specs.Texts.{text_of}
use Rattle.array_model.specs.Images.{Mode}
use Rattle.array_model.specs.Turns.{Turn, Work, Rules, texts, lines_of, joined, AreLines, IsLine, Parts, parts_of, first_longer, one_longer, last_line, calls_of, array_after_work, MayLeave, calls_of_works}

module _ {A T : Type 0} (calls : T → List LogEntry) (next : A → T → A) (P : A → Option T → List Block → Type 0) where
  all_calls-append : (ts us : List T) → all_calls calls next P (ts ++ us) ≡ all_calls calls next P ts ++ all_calls calls next P us
  unfolding all_calls
  all_calls-append [] us = refl
  all_calls-append (t ∷ ts) us = ap (λ (l : List LogEntry). calls t ++ l) (all_calls-append ts us) ∙ sym (append_assoc (calls t) (all_calls calls next P ts) (all_calls calls next P us))

-- the device calls of some works, and then of more
pub calls-append : (mode : Mode) (rules : Rules) (works more : List Work) → calls_of_works mode rules (works ++ more) ≡ calls_of_works mode rules works ++ calls_of_works mode rules more
calls-append mode rules works more = all_calls-append calls_of (array_after_work rules) (MayLeave mode rules) works more

pub texts-last : (turns : List Turn) (turn : Turn) → texts (turns ++ turn ∷ []) ≡ texts turns ++ text_of turn.at turn.answer
unfolding texts
texts-last [] turn = append-nil (text_of turn.at turn.answer)
texts-last (t ∷ ts) turn = ap (λ (l : List ℕ). text_of t.at t.answer ++ l) (texts-last ts turn) ∙ sym (append_assoc (text_of t.at t.answer) (texts ts) (text_of turn.at turn.answer))

pub lines-last : (turns : List Turn) (turn : Turn) → lines_of (turns ++ turn ∷ []) ≡ lines_of turns ++ turn.line ∷ []
lines-last [] turn = refl
lines-last (t ∷ ts) turn = ap (λ (l : List (List ℕ)). t.line ∷ l) (lines-last ts turn)

-- a line more before the rest
pub joined-last : (lines : List (List ℕ)) (line rest : List ℕ) → joined (lines ++ line ∷ []) rest ≡ joined lines (line ++ 10 ∷ rest)
unfolding joined
joined-last [] line rest = refl
joined-last (l ∷ ls) line rest = ap (λ (r : List ℕ). l ++ 10 ∷ r) (joined-last ls line rest)

-- bytes more at the end of the rest
pub joined-append : (lines : List (List ℕ)) (rest more : List ℕ) → joined lines rest ++ more ≡ joined lines (rest ++ more)
unfolding joined
joined-append [] rest more = refl
joined-append (line ∷ lines) rest more = append_assoc line (10 ∷ joined lines rest) more ∙ ap (λ (l : List ℕ). line ++ 10 ∷ l) (joined-append lines rest more)

pub lines_more : (lines : List (List ℕ)) (line : List ℕ) → AreLines lines → IsLine line → AreLines (lines ++ line ∷ [])
unfolding AreLines
lines_more [] line h is = (is, tt)
lines_more (l ∷ ls) line h is = (h.0, lines_more ls line h.1 is)

pub line_more : (line : List ℕ) (byte : ℕ) → IsLine line → (byte ≡ 10 → ⊥) → IsLine (line ++ byte ∷ [])
unfolding IsLine
line_more [] byte h ne = (ne, tt)
line_more (b ∷ bs) byte h ne = (h.0, line_more bs byte h.1 ne)

pub no_line : AreLines []
unfolding AreLines
no_line = tt

pub empty_line : IsLine []
unfolding IsLine
empty_line = tt

-- the parts of lines and a rest are these
not_ten : (byte : ℕ) (parts : Parts) → (byte ≡ 10 → ⊥) → one_longer byte parts ≡ first_longer byte parts.ended parts.rest
not_ten byte parts apart = by (byte == 10) refl
  where
    by : (b : Bool) → (byte == 10) ≡ b → (if b then record { ended = [] ∷ parts.ended; rest = parts.rest } else first_longer byte parts.ended parts.rest) ≡ first_longer byte parts.ended parts.rest
    by true e = absurd (apart (let same : byte ≡ 10 = grind (arith, nat_tests) in same))
    by false e = refl

pub parts_line : (line more : List ℕ) → IsLine line → parts_of (line ++ 10 ∷ more) ≡ record { ended = line ∷ (parts_of more).ended; rest = (parts_of more).rest }
unfolding parts_of IsLine
parts_line [] more is = refl
parts_line (byte ∷ line) more is = ap (one_longer byte) (parts_line line more is.1) ∙ not_ten byte (record { ended = line ∷ (parts_of more).ended; rest = (parts_of more).rest }) is.0

pub parts_rest : (rest : List ℕ) → IsLine rest → parts_of rest ≡ record { ended = []; rest = rest }
unfolding parts_of IsLine
parts_rest [] is = refl
parts_rest (byte ∷ rest) is = ap (one_longer byte) (parts_rest rest is.1) ∙ not_ten byte (record { ended = []; rest = rest }) is.0

pub parts_joined : (lines : List (List ℕ)) (rest : List ℕ) → AreLines lines → parts_of (joined lines rest) ≡ record { ended = lines ++ (parts_of rest).ended; rest = (parts_of rest).rest }
unfolding joined AreLines
parts_joined [] rest are = refl
parts_joined (line ∷ lines) rest are = parts_line line (joined lines rest) are.0 ∙ ap (λ (p : Parts). let q : Parts = record { ended = line ∷ p.ended; rest = p.rest } in q) (parts_joined lines rest are.1)

-- what bytes are cut into is these bytes again, and no line has an LF
rejoined : (byte : ℕ) (ended : List (List ℕ)) (rest bytes : List ℕ) → joined ended rest ≡ bytes → joined (first_longer byte ended rest).ended (first_longer byte ended rest).rest ≡ byte ∷ bytes
unfolding joined
rejoined byte [] rest bytes is = ap (λ (l : List ℕ). byte ∷ l) is
rejoined byte (line ∷ lines) rest bytes is = ap (λ (l : List ℕ). byte ∷ l) is

abbrev one_more : Bool → ℕ → Parts → Parts
one_more b byte parts = (if b then record { ended = [] ∷ parts.ended; rest = parts.rest } else first_longer byte parts.ended parts.rest)

whole_more : (b : Bool) (byte : ℕ) (parts : Parts) (bytes : List ℕ) → (byte == 10) ≡ b → joined parts.ended parts.rest ≡ bytes → joined (one_more b byte parts).ended (one_more b byte parts).rest ≡ byte ∷ bytes
unfolding joined
whole_more true byte parts bytes e is = let same : 10 ≡ byte = grind (arith, nat_tests) in ap (λ (l : List ℕ). 10 ∷ l) is ∙ ap (λ (n : ℕ). n ∷ bytes) same
whole_more false byte parts bytes e is = rejoined byte parts.ended parts.rest bytes is

pub parts_whole : (bytes : List ℕ) → joined (parts_of bytes).ended (parts_of bytes).rest ≡ bytes
unfolding parts_of joined
parts_whole [] = refl
parts_whole (byte ∷ bytes) = whole_more (byte == 10) byte (parts_of bytes) bytes refl (parts_whole bytes)

-- in which no line has an LF
pub record HaveNone (parts : Parts) : Type 0 where
  pub ended : AreLines parts.ended
  pub rest : IsLine parts.rest

longer_lines : (byte : ℕ) (ended : List (List ℕ)) (rest : List ℕ) → (byte ≡ 10 → ⊥) → AreLines ended → IsLine rest → HaveNone (first_longer byte ended rest)
unfolding AreLines IsLine
longer_lines byte [] rest apart are is = record { ended = tt; rest = (apart, is) }
longer_lines byte (line ∷ lines) rest apart are is = record { ended = ((apart, are.0), are.1); rest = is }

none_more : (b : Bool) (byte : ℕ) (parts : Parts) → (byte == 10) ≡ b → HaveNone parts → HaveNone (one_more b byte parts)
unfolding AreLines IsLine
none_more true byte parts e h = record { ended = (tt, h.ended); rest = h.rest }
none_more false byte parts e h = longer_lines byte parts.ended parts.rest (λ same. let on : (byte == 10) ≡ true = grind (arith, nat_tests) in absurd (cc (sym e ∙ on))) h.ended h.rest

pub parts_have_none : (bytes : List ℕ) → HaveNone (parts_of bytes)
unfolding parts_of AreLines IsLine
parts_have_none [] = record { ended = tt; rest = tt }
parts_have_none (byte ∷ bytes) = none_more (byte == 10) byte (parts_of bytes) refl (parts_have_none bytes)

-- so it is with the rest as one more line
pub all_lines : (ended : List (List ℕ)) (rest : List ℕ) → AreLines ended → IsLine rest → AreLines (ended ++ last_line rest)
unfolding AreLines
all_lines [] [] are is = tt
all_lines [] (byte ∷ rest) are is = (is, tt)
all_lines (line ∷ lines) rest are is = (are.0, all_lines lines rest are.1 is)
