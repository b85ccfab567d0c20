-- Digits that fill a page.
use Rattle.std.proofs.Common.{◌≡◌, ℕ, zero, suc, ◌+◌, ◌-◌, ◌/◌, List, [], ◌∷◌, ◌++◌, length, drop, replicate, Ok, inl, inr, refl, sym, ap, ◌∙◌, arith, length-append}
use Rattle.std.proofs.lemmas.Bool.{cases_eq}
use Rattle.std.proofs.lemmas.List.{drop-replicate, length-replicate}
use Rattle.std.specs.Prelude.{IsErr}
use Rattle.hex.specs.Hex.{IsBytes, decode_of, decode_pairs}
use Rattle.hex.proofs.HexLemmas.{decode_of-encode_lower, decode_of-ok, decode_of-same}
use Rattle.page_device.specs.Block.{Block, zero_block}
use Rattle.trace_text.specs.Fields.{FitsPage}
use Rattle.trace_text.specs.Grammar.{Fills}
use Rattle.trace_text.specs.Texts.{cut_before, hex_of_some, trimmed}
use Rattle.trace_text.proofs.Trimmed.{cut_before-last}

-- bytes over the front of zeros
pub fills_front : (digits front : List ℕ) (page : Block) (count : ℕ) → FitsPage (length digits) → count ≡ length digits / 2
    → decode_of digits ≡ Ok front → length front ≡ count → page ≡ front ++ drop count zero_block → Fills digits page
fills_front digits front page count fits half decodes same is =
    let even = fits.even in
    let some = fits.some in
    let few = fits.few in
    record {
      bytes = front;
      decodes = decodes;
      some = omega arith;
      few = omega arith;
      page_is = is ∙ ap (λ (zeros : List ℕ). front ++ zeros) (drop-replicate count 4096 0 ∙ ap (λ (n : ℕ). replicate (4096 - n) 0) (sym same));
    }

-- digits fill one page
pub fills_one : (digits : List ℕ) (a b : Block) → Fills digits a → Fills digits b → a ≡ b
fills_one digits a b one other =
    let same = decode_of-same digits one.bytes other.bytes one.decodes other.decodes in
    one.page_is ∙ ap (λ (bytes : List ℕ). bytes ++ replicate (4096 - length bytes) 0) same ∙ sym other.page_is

-- digits that fill a page have its size
pub fills_fits : (digits : List ℕ) (page : Block) → Fills digits page → FitsPage (length digits)
fills_fits digits page fills =
    let read = decode_of-ok digits fills.bytes fills.decodes in
    let even = read.0 in
    let twice = read.2 in
    let some = fills.some in
    let few = fills.few in
    record { even = even; some = omega arith; few = omega arith }

-- digits that do not decode fill none
pub fills_decodes : (digits : List ℕ) (page : Block) → Fills digits page → IsErr (decode_of digits) → ⊥
fills_decodes digits page fills bad =
    let decodes = fills.decodes in
    cc (rw decodes at bad)

-- the front of bytes is bytes
bytes_front : (front rest : List ℕ) → IsBytes (front ++ rest) → IsBytes front
bytes_front [] rest each i = omega arith
bytes_front (byte ∷ front) rest each zero = each 0
bytes_front (byte ∷ front) rest each (suc i) = bytes_front front rest (λ k. each (suc k)) i

-- a byte before bytes that end in zeros
zeros_before : (byte : ℕ) (front rest : List ℕ) (k : ℕ) → rest ≡ front ++ replicate k 0
    → (j : ℕ) × (byte ∷ rest ≡ cut_before byte front ++ replicate j 0)
zeros_before byte (next ∷ front) rest k e = (k, ap (λ (tail : List ℕ). byte ∷ tail) e)
zeros_before byte [] rest k e =
    elim (cases_eq byte 0) [
      | inl none ↦ (suc k, rw none (ap (λ (tail : List ℕ). 0 ∷ tail) e))
      | inr some ↦ (k, rw (cut_before-last byte some) (ap (λ (tail : List ℕ). byte ∷ tail) e))
    ]

-- what is cut is zeros
trimmed_zeros : (bytes : List ℕ) → (k : ℕ) × (bytes ≡ trimmed bytes ++ replicate k 0)
unfolding trimmed
trimmed_zeros [] = (0, refl)
trimmed_zeros (byte ∷ rest) =
    let tail = trimmed_zeros rest in
    zeros_before byte (trimmed rest) rest tail.0 tail.1

-- the digits of the front of a page
fills_of : (front page : List ℕ) (k : ℕ) → page ≡ front ++ replicate k 0 → length page ≡ 4096 → IsBytes page
    → Fills (hex_of_some front) page
unfolding decode_pairs
fills_of [] page k e whole each =
    let zeros : k ≡ 4096 = sym (length-replicate k 0) ∙ sym (ap length e) ∙ whole in
    record { bytes = 0 ∷ []; decodes = refl; some = omega arith; few = omega arith; page_is = e ∙ rw zeros refl }
fills_of (byte ∷ front) page k e whole each =
    let size : length (byte ∷ front ++ replicate {A = ℕ} k 0) ≡ length (byte ∷ front) + length (replicate {A = ℕ} k 0) = length-append (byte ∷ front) (replicate k 0) in
    let zeros : length (replicate {A = ℕ} k 0) ≡ k = length-replicate k 0 in
    let total : length (byte ∷ front ++ replicate k 0) ≡ 4096 = sym (ap length e) ∙ whole in
    let rest : k ≡ 4096 - length (byte ∷ front) = omega arith in
    record {
      bytes = byte ∷ front;
      decodes = decode_of-encode_lower (byte ∷ front) (bytes_front (byte ∷ front) (replicate k 0) (rw e at each));
      some = omega arith;
      few = omega arith;
      page_is = e ∙ ap (λ (n : ℕ). byte ∷ front ++ replicate n 0) rest;
    }

-- what a page prints fills it
pub fills_trimmed : (page : Block) → length page ≡ 4096 → IsBytes page → Fills (hex_of_some (trimmed page)) page
fills_trimmed page whole each =
    let zeros = trimmed_zeros page in
    fills_of (trimmed page) page zeros.0 zeros.1 whole each
