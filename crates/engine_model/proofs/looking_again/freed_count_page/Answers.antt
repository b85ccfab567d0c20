use Rattle.engine_model.proofs.looking_again.freed_count_page.Goals as goal
use Rattle.engine_model.proofs.FreedPage as freeing
use Rattle.std.proofs.Common.{refl}

pub returns : goal.returns
returns c = record { applied = λ lay apart m n fits p d off pass r at same. freeing.freed lay apart (lay.count_page p) p d refl m n _ _ refl fits off (λ x is. absurd is) pass r at same }
