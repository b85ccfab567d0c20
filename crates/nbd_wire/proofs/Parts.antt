-- Messages part by part.
use Rattle.std.specs.Prelude.{◌≡◌, ℕ, ◌+◌, List, ◌++◌, length, take, drop}
use Rattle.std.proofs.Common.{ap, sym, ◌∙◌}
use Rattle.std.proofs.Math.Seq.{take-add, take-length}

-- a message that was written so far, and one part more
pub and_then : (front parts whole part : List ℕ) → front ≡ parts → whole ≡ front ++ part → whole ≡ parts ++ part
and_then front parts whole part is more = more ∙ ap (λ (l : List ℕ). l ++ part) is

-- a message that was read so far, and one part more
pub and_read : (message parts part : List ℕ) (at size : ℕ) → parts ≡ take at message → part ≡ take size (drop at message) → parts ++ part ≡ take (at + size) message
and_read message parts part at size is more =
    ap (λ (l : List ℕ). l ++ part) is ∙ ap (λ (l : List ℕ). take at message ++ l) more ∙ sym (take-add at size message)

-- a message is its first bytes, as many as it has
pub all_of : (message parts : List ℕ) (size : ℕ) → length message ≡ size → take size message ≡ parts → message ≡ parts
all_of message parts size len is = sym (take-length message) ∙ ap (λ k. take k message) len ∙ is
