-- Before a block is looked at.
use Rattle.std.proofs.Common.{◌≡◌, ℕ, ◌-◌, ◌==◌, not, List, replicate, sym, ◌∙◌, ap, arith}
use Rattle.std.proofs.lemmas.List.{get_or-replicate}
use Rattle.array_model.proofs.CountingLemmas.{count_below-start}
use Rattle.image_reader.specs.Tallies.{tally_of, NamesTo}

-- nothing is counted yet
pub names_start : (pages : ℕ) (names : ℕ → ℕ) (tallies : List ℕ) → tallies ≡ replicate pages 0 → NamesTo pages 0 names tallies 0
names_start pages names tallies zeros = record {
  named = λ p one le. ap (λ (l : List ℕ). tally_of l p) zeros ∙ get_or-replicate pages (p - 1) 0 0 (omega (arith, le, one)) ∙ sym (count_below-start (λ block. names block == p));
  mapped_is = sym (count_below-start (λ block. not (names block == 0)));
}
