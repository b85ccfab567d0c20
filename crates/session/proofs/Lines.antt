-- The lines of an input, from the lines that were answered.
use Rattle.std.proofs.lemmas.List.{append-nil}
use Rattle.std.proofs.Common.{◌≡◌, ◌≢◌, ℕ, List, [], ◌∷◌, ◌++◌, refl, sym, ◌∙◌, ap, append_assoc}
use Rattle.array_model.specs.Turns.{joined, IsLine, AreLines, Parts, parts_of, ended_lines, last_line, lines_in}
use Rattle.array_model.proofs.RunLemmas.{joined-append, parts_joined, parts_rest, parts_whole, parts_have_none}

-- a rest that is not empty is the last line
pub last_is : (rest : List ℕ) → rest ≢ [] → last_line rest ≡ rest ∷ []
last_is [] some = absurd (some refl)
last_is (byte ∷ rest) some = refl

-- the lines of an input of which this rest has no LF
pub lines_are : (bytes : List ℕ) (lines : List (List ℕ)) (rest : List ℕ) → bytes ≡ joined lines rest → AreLines lines → IsLine rest → lines_in bytes ≡ lines ++ last_line rest
lines_are bytes lines rest split are open_line =
    let parts : parts_of bytes ≡ record { ended = lines ++ (parts_of rest).ended; rest = (parts_of rest).rest } = ap parts_of split ∙ parts_joined lines rest are in
    let tail = parts_rest rest open_line in
    ap (λ (p : Parts). p.ended ++ last_line p.rest) parts
    ∙ ap (λ (p : Parts). (lines ++ p.ended) ++ last_line p.rest) tail
    ∙ ap (λ (l : List (List ℕ)). l ++ last_line rest) (append-nil lines)

pub ended_are : (bytes : List ℕ) (lines : List (List ℕ)) (rest : List ℕ) → bytes ≡ joined lines rest → AreLines lines → IsLine rest → ended_lines bytes ≡ lines
ended_are bytes lines rest split are open_line =
    let parts : parts_of bytes ≡ record { ended = lines ++ (parts_of rest).ended; rest = (parts_of rest).rest } = ap parts_of split ∙ parts_joined lines rest are in
    ap (λ (p : Parts). p.ended) parts ∙ ap (λ (p : Parts). lines ++ p.ended) (parts_rest rest open_line) ∙ append-nil lines

-- lines that had ended, and more of them behind
pub ended_more : (bytes : List ℕ) (lines : List (List ℕ)) (rest : List ℕ) → bytes ≡ joined lines rest → AreLines lines → ended_lines bytes ≡ lines ++ ended_lines rest
ended_more bytes lines rest split are = ap (λ (p : Parts). p.ended) (ap parts_of split ∙ parts_joined lines rest are)

-- the lines that had ended are the first, whatever comes behind
pub lines_longer : (bytes more : List ℕ) → lines_in (bytes ++ more) ≡ ended_lines bytes ++ lines_in ((parts_of bytes).rest ++ more)
lines_longer bytes more =
    let lines = ended_lines bytes in
    let behind = (parts_of bytes).rest ++ more in
    let split : bytes ++ more ≡ joined lines behind = ap (λ (l : List ℕ). l ++ more) (sym (parts_whole bytes)) ∙ joined-append lines (parts_of bytes).rest more in
    let parts : parts_of (bytes ++ more) ≡ record { ended = lines ++ (parts_of behind).ended; rest = (parts_of behind).rest } = ap parts_of split ∙ parts_joined lines behind (parts_have_none bytes).ended in
    ap (λ (p : Parts). p.ended ++ last_line p.rest) parts ∙ append_assoc lines (parts_of behind).ended (last_line (parts_of behind).rest)
