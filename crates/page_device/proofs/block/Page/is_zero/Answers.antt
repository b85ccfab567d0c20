use Rattle.std.proofs.Common.{◌≡◌, ◌<◌, ℕ, length, length-take, slice_index, sym, ◌∙◌, ap, arith, true≢false}
use Rattle.std.proofs.lemmas.Bool.{eq-eqb, eqb-true}
use Rattle.std.proofs.lemmas.List.{ext_get_or, get_or-replicate, get_or-take, length-replicate}
use Rattle.page_device.specs.Block.{Block, zero_block}
use Rattle.page_device.proofs.block.Page.is_zero.Goals as goal

-- a block whose bytes are zero is the zero block, and the other way round
zero_bytes : (block : Block) → length block ≡ 4096 → ((i : ℕ) → i < length block → slice_index block i ≡ 0) → block ≡ zero_block
zero_bytes block whole zero = ext_get_or 0 block zero_block (whole ∙ sym (length-replicate {A = ℕ} 4096 0)) (λ i lt. zero i lt ∙ sym (get_or-replicate 4096 i 0 0 (omega (arith, lt, whole))))

bytes_zero : (block : Block) → block ≡ zero_block → (i : ℕ) → i < 4096 → slice_index block i ≡ 0
bytes_zero block is i lt = ap (λ (b : Block). slice_index b i) is ∙ get_or-replicate 4096 i 0 0 lt

pub returns-clause-zero : goal.returns-clause-zero
returns-clause-zero c =
    let whole : length c.self.inside.0 ≡ 4096 = c.self.invariant in (
      λ none. sym c.self.view_is ∙ zero_bytes c.self.inside.0 whole (c.some_bits.ensures.none (eqb-true c.some_bits.result 0 none)),
      λ is. eq-eqb c.some_bits.result 0 (c.some_bits.ensures.all (λ i lt. bytes_zero c.self.inside.0 (c.self.view_is ∙ is) i (omega (arith, lt, whole)))),
    )

pub returns-then-front-ne0-clause-zero : goal.returns-then-front-ne0-clause-zero
returns-then-front-ne0-clause-zero c =
    let block = c.self.inside.0 in (
      λ no. absurd (true≢false (sym no)),
      λ is. absurd (c.if-front-ne0.true (c.some_bits-front.ensures.all (λ i lt.
          let below : i < 64 = omega (arith, lt, length-take 64 block) in
          get_or-take 64 block i 0 below ∙ bytes_zero block (c.self.view_is ∙ is) i (omega (arith, below))))),
    )
