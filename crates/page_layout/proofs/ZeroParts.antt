-- Parts that are zero.
use Rattle.std.proofs.Common.{◌≡◌, ℕ, ◌+◌, ◌-◌, ◌<◌, List, take, drop, ⊎_elim, sym, ◌∙◌, ap, arith, slice_index, length-take}
use Rattle.std.proofs.lemmas.List.{get_or-drop, get_or-take, get_or_past}
use Rattle.std.proofs.lemmas.Bool.{cases_lt}
use Rattle.page_layout.specs.Tables.{AreZero}

module _ (p : List ℕ) (from to : ℕ) where
  part_index : (k : ℕ) → k < to - from → slice_index (take (to - from) (drop from p)) k ≡ slice_index p (from + k)
  part_index k lt = get_or-take (to - from) (drop from p) k 0 lt ∙ get_or-drop from p k 0

  -- a part whose bytes are zero
  pub part_zero : ((k : ℕ) → slice_index (take (to - from) (drop from p)) k ≡ 0) → AreZero p from to
  part_zero h j le lt = ap (λ (n : ℕ). slice_index p n) (omega arith) ∙ sym (part_index (j - from) (omega arith)) ∙ h (j - from)

  -- and the other way round
  pub zero_part : AreZero p from to → (k : ℕ) → slice_index (take (to - from) (drop from p)) k ≡ 0
  zero_part h k = ⊎_elim (λ lt. part_index k lt ∙ h (from + k) (omega arith) (omega arith)) (λ le. get_or_past (take (to - from) (drop from p)) k 0 (omega (arith, length-take (to - from) (drop from p)))) (cases_lt k (to - from))
