use Rattle.std.proofs.Common.{◌≡◌, ◌∙◌, ◌++◌, ◌∷◌, [], List, length, ap, arith}
use Rattle.page_device.specs.Block.{Block, zero_block}
use Rattle.sparse_pages.proofs.Keeping.{none_kept}
use Rattle.sparse_pages.proofs.pages.SparsePages.with_capacity.Goals as goal

pub invariant_of-result : goal.invariant_of-result
invariant_of-result c =
    let none : c.in-Ok.places.items ≡ [] = c.in-Ok.ensures.items in
    let zeros : c.push_reserved.new.self.items ≡ zero_block ∷ [] = c.push_reserved.ensures.items ∙ ap (λ (l : List Block). l ++ c.zero.result ∷ []) c.in-Ok-with_capacity.ensures.items ∙ ap (λ (b : Block). b ∷ []) c.zero.ensures in
    record {
      are = none_kept c.in-Ok.places.items c.push_reserved.new.self.items none zeros;
      within = omega (arith, ap length none);
      for_places = omega (arith, c.in-Ok.ensures.capacity);
      for_pages = omega (arith, c.in-Ok-with_capacity.ensures.capacity, c.push_reserved.ensures.capacity);
      few = omega (arith, c.requires);
    }
