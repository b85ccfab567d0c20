use Rattle.page_layout.proofs.ZeroParts.{part_zero, zero_part}
use Rattle.page_layout.proofs.zeros.are_zero.Goals as goal

pub returns : goal.returns
returns c = (λ is. part_zero _ _ _ (c.is_zero.ensures.0 is), λ zero. c.is_zero.ensures.1 (zero_part _ _ _ zero))
