-- One count more, which is compared with the names and takes their place.
use Rattle.std.proofs.Common.{◌≡◌, ⊎_elim, ℕ, suc, ◌+◌, ◌<◌, ◌≤◌, Bool, if◌then◌else◌, List, Option, Some, None, sym, ◌∙◌, ap, subst, arith, lt-ltb, le-ltb}
use Rattle.std.proofs.lemmas.Bool.{cases_lt, cases_eq}
use Rattle.page_device.specs.Block.{Block}
use Rattle.page_layout.specs.Numbers.{entry_of}
use Rattle.page_layout.specs.Shape.{ShapeView, count_page, count_place}
use Rattle.page_layout.specs.Tables.{page_of, shape_of, count_of}
use Rattle.array_model.specs.Images.{names}
use Rattle.image_reader.specs.Tallies.{tally_of}
use Rattle.image_check.specs.declared.counts.Low.{Low}
use Rattle.image_check.specs.Steps.{CountsTo, LowTo, NamesAre, noted}

-- the count of a data page stands in its entry
pub count_told : (shape : ShapeView) (image : List Block) (k i p : ℕ) (page : Block) → shape_of image ≡ shape → page_of image k ≡ page → count_page shape p ≡ k → count_place p ≡ i → count_of image p ≡ entry_of page i
count_told shape image k i p page told read at place =
    ap (λ (s : ShapeView). entry_of (page_of image (count_page s p)) (count_place p)) told ∙ ap (λ (n : ℕ). entry_of (page_of image n) (count_place p)) at
    ∙ ap (λ (b : Block). entry_of b (count_place p)) read ∙ ap (entry_of page) place

-- nothing was compared yet
pub counts_start : (pages : ℕ) (image : List Block) (tallies : List ℕ) → NamesAre pages image tallies → CountsTo pages 0 image tallies None
counts_start pages image tallies are = record {
  counted = λ p one le. absurd (omega (arith, one, le));
  named = λ p lt le. are p (omega (arith, lt)) le;
  lowest = λ p one le. absurd (omega (arith, one, le));
}

module _ (pages at : ℕ) (image : List Block) (old new : List ℕ) (low : Option Low) (stored : ℕ) (within : at < pages) (is : count_of image (at + 1) ≡ stored) (before : CountsTo pages at image old low)
    (here : tally_of new (at + 1) ≡ stored) (others : (q : ℕ) → 1 ≤ q → (q ≡ at + 1 → ⊥) → tally_of new q ≡ tally_of old q) where
  name : tally_of old (at + 1) ≡ names image (at + 1)
  name = before.named (at + 1) (omega arith) (omega (arith, within))

  lowest : (first : Option Low) → LowTo at image first → LowTo (suc at) image (noted first (at + 1) stored (tally_of old (at + 1)))
  lowest (Some first) h = record { one = h.one; within = omega (arith, h.within); less = h.less; stored_is = h.stored_is; named_is = h.named_is; first = h.first }
  lowest None h = ⊎_elim
      (λ lt. subst (λ (b : Bool). LowTo (suc at) image (if b then Some (record { page = at + 1; stored = stored; named = tally_of old (at + 1) }) else None)) (sym (lt-ltb stored (tally_of old (at + 1)) lt)) (record {
        one = omega arith;
        within = omega arith;
        less = omega (arith, lt, is, name);
        stored_is = sym is;
        named_is = name;
        first = λ q one less. h q one (omega (arith, less));
      }))
      (λ le. subst (λ (b : Bool). LowTo (suc at) image (if b then Some (record { page = at + 1; stored = stored; named = tally_of old (at + 1) }) else None)) (sym (le-ltb stored (tally_of old (at + 1)) le))
      (λ p one most. ⊎_elim (λ less. h p one (omega (arith, less))) (λ above. let same : at + 1 ≡ p = omega (arith, above, most) in subst (λ (n : ℕ). names image n ≤ count_of image n) same (omega (arith, le, is, name))) (cases_lt p (at + 1))))
      (cases_lt stored (tally_of old (at + 1)))

  pub counts_next : CountsTo pages (suc at) image new (noted low (at + 1) stored (tally_of old (at + 1)))
  counts_next = record {
    counted = λ p one le. ⊎_elim
        (λ same. subst (λ (n : ℕ). tally_of new n ≡ count_of image n) (sym same) (here ∙ sym is))
        (λ other. others p one other ∙ before.counted p one (omega (arith, le, other)))
        (cases_eq p (at + 1));
    named = λ p lt le. others p (omega (arith, lt)) (λ same. omega (arith, lt, same)) ∙ before.named p (omega (arith, lt)) le;
    lowest = lowest low before.lowest;
  }
