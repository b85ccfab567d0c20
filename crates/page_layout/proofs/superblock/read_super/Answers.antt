use Rattle.std.proofs.Common.{◌≡◌, ℕ, ◌+◌, List, subst, ap, refl, ◌∙◌, arith, slice_index, true}
use Rattle.page_layout.specs.Numbers.{number_at}
use Rattle.page_layout.specs.Shape.{IsSuperblock, IsValid, told_shape}
use Rattle.page_layout.proofs.Super.{tail_index, tail_zero}
use Rattle.page_layout.proofs.superblock.read_super.Goals as goal

-- the numbers that were read are those that the page tells
read_are_told : (page : List ℕ) (blocks pages version : ℕ) → blocks ≡ number_at page 12 → pages ≡ number_at page 16 → version ≡ number_at page 8
    → IsValid (record { blocks = blocks; pages = pages; version = version }) → IsValid (told_shape page)
read_are_told page blocks pages version b p v valid = record {
  a_block = omega (arith, b, valid.a_block);
  few_blocks = omega (arith, b, valid.few_blocks);
  a_page = omega (arith, p, valid.a_page);
  few_pages = omega (arith, p, valid.few_pages);
  first_version = omega (arith, v, valid.first_version);
  last_version = omega (arith, v, valid.last_version);
}

pub returns-clause-superblock : goal.returns-clause-superblock
returns-clause-superblock c = subst (λ (l : List ℕ). IsSuperblock l) c.page.view_is (record {
  starts = c.is_magic.ensures.0 c.if-not-is_magic.false;
  valid = read_are_told c.page.inside.0 c.number-blocks.result c.number-pages.result c.number-version.result c.number-blocks.ensures c.number-pages.ensures c.number-version.ensures (c.in-Some.ensures.valid.0 refl);
  zeros = tail_zero c.page.inside.0 c.page.told (c.is_zero.ensures.0 c.if-not-is_zero.false);
})

pub returns-then-not-is_zero-clause-not : goal.returns-then-not-is_zero-clause-not
returns-then-not-is_zero-clause-not c = λ is. let yes : c.is_zero.result ≡ true = c.is_zero.ensures.1 (λ k. tail_index c.page.inside.0 k c.page.told ∙ ap (λ (l : List ℕ). slice_index l (20 + k)) c.page.view_is ∙ is.zeros (20 + k) (omega arith)) in cc
